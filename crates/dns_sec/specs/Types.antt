-- The fields of the data of each type.
use Rattle.std.specs.Prelude.{List, [], ◌∷◌}
use Rattle.std.specs.Int.{w16, w32}
use Rattle.dns_wire.specs.Octets.{Octets}
use Rattle.dns_wire.specs.Names.{name_labels}
use Rattle.dns_record.specs.Fields.{Field}
use Rattle.dns_record.specs.Fields.FieldOf.{UncompressedName, OtherOctets, Byte, Number}
use Rattle.dns_sec.specs.Flags.{key_flag_bits}
use Rattle.dns_sec.specs.declared.cdnskey.CDNSKey.{CDNSKey}
use Rattle.dns_sec.specs.declared.cds.Cds.{Cds}
use Rattle.dns_sec.specs.declared.dnskey.DNSKey.{DNSKey}
use Rattle.dns_sec.specs.declared.ds.Ds.{Ds}
use Rattle.dns_sec.specs.declared.rrsig.Rrsig.{Rrsig}
use Rattle.dns_sec.specs.declared.zonemd.ZoneMD.{ZoneMD}

abbrev pub ds_fields : Ds → List Field
ds_fields v = Number w16 v.keytag.value ∷ Byte v.algorithm.code ∷ Byte v.digest_type.code ∷ OtherOctets v.digest.now ∷ []

-- CDS data as DS data, and back (RFC 7344 section 3.1)
abbrev pub as_ds : Cds → Ds
as_ds v = record { keytag = v.keytag; algorithm = v.algorithm; digest_type = v.digest_type; digest = v.digest }

abbrev pub as_cds : Ds → Cds
as_cds v = record { keytag = v.keytag; algorithm = v.algorithm; digest_type = v.digest_type; digest = v.digest }

abbrev pub cds_fields : Cds → List Field
cds_fields v = ds_fields (as_ds v)

abbrev pub dnskey_fields : DNSKey → List Field
dnskey_fields v = Number w16 (key_flag_bits v.flags) ∷ Byte v.protocol ∷ Byte v.algorithm.code ∷ OtherOctets v.key.now ∷ []

-- CDNSKEY data as DNSKEY data, and back (RFC 7344 section 3.2)
abbrev pub as_dnskey : CDNSKey → DNSKey
as_dnskey v = record { flags = v.flags; protocol = v.protocol; algorithm = v.algorithm; key = v.key }

abbrev pub as_cdnskey : DNSKey → CDNSKey
as_cdnskey v = record { flags = v.flags; protocol = v.protocol; algorithm = v.algorithm; key = v.key }

abbrev pub cdnskey_fields : CDNSKey → List Field
cdnskey_fields v = dnskey_fields (as_dnskey v)

abbrev pub rrsig_fields : Rrsig → List Field
rrsig_fields v =
    Number w16 v.rtype.code.value ∷ Byte v.algorithm.code ∷ Byte v.labels ∷ Number w32 v.ttl.value.value
    ∷ Number w32 v.expiration.0.value ∷ Number w32 v.inception.0.value ∷ Number w16 v.keytag.value
    ∷ UncompressedName (name_labels v.signer.slice.now) ∷ OtherOctets v.signature.now ∷ []

-- the digest by its octets
abbrev pub zonemd_fields : {D : Type 0} → (D → Octets) → ZoneMD D → List Field
zonemd_fields octets v = Number w32 v.serial.0.value ∷ Byte v.scheme.code ∷ Byte v.hash_alg.code ∷ OtherOctets (octets v.digest) ∷ []
