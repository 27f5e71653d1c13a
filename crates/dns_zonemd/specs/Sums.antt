-- The sums over the members of a zone.
use Rattle.std.specs.Prelude.{◌≡◌, ℕ, length}
use Rattle.sha2.specs.Sha512.{sha384, sha512}
use Rattle.dns_wire.specs.Octets.{Octets}
use Rattle.dns_zonemd.specs.declared.report.ZoneSums.{ZoneSums}

-- these are how many members there are and how many canonical octets, and the digests of these octets
pub record AreSums (records : ℕ) (stream : Octets) (sums : ZoneSums) : Type 0 where
  pub records_are : sums.records ≡ records
  pub octets_are : sums.octets ≡ length stream
  pub sha384_is : sums.sha384 ≡ sha384 stream
  pub sha512_is : sums.sha512 ≡ sha512 stream
