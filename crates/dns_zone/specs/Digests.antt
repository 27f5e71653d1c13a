-- The digest of some members of a zone.
use Rattle.std.specs.Prelude.{◌≡◌, List, length}
use Rattle.std.specs.List.{concat}
use Rattle.sha2.specs.Sha512.{sha384}
use Rattle.dns_wire.specs.Octets.{Octets}
use Rattle.dns_zone.specs.declared.digest.ZoneDigest.{ZoneDigest}

-- a digest of these canonical octets, one list for each member: how many members, how many octets, and SHA-384 of these (RFC 8976 section 3.3.1.2)
pub record IsDigestOf (lists : List Octets) (found : ZoneDigest) : Type 0 where
  pub records : found.records ≡ length lists
  pub octets : found.octets ≡ length (concat lists)
  pub digest : found.digest ≡ sha384 (concat lists)
