-- Data of any type: the number of their type, their fields, and their octets.
use Rattle.std.specs.Prelude.{◌≡◌, ℕ, List, [], ◌∷◌, ◌++◌, length, map, true, false, Bool, ⊤}
use Rattle.std.specs.Int.{to_be_bytes}
use Rattle.dns_wire.specs.Octets.{Octets}
use Rattle.dns_wire.specs.Names.{wire}
use Rattle.dns_record.specs.Fields.{Field, FieldOf}
use Rattle.dns_record.specs.Fields.FieldOf.{CompressibleName, UncompressedName, CharacterString, CountedOctets, CharacterStrings, OtherOctets, Byte, Number}
use Rattle.dns_record.specs.Formats.{has_rdata_format}
use Rattle.dns_basic.specs.Types.{ns_fields, cname_fields, soa_fields, ptr_fields, mx_fields, rp_fields}
use Rattle.dns_edns.specs.Types.{opt_fields}
use Rattle.dns_nsec.specs.Types.{nsec_fields, nsec3_fields, nsec3param_fields}
use Rattle.dns_plain.specs.Types.{a_fields, hinfo_fields, txt_fields, aaaa_fields, srv_fields, dname_fields}
use Rattle.dns_sec.specs.Types.{ds_fields, cds_fields, rrsig_fields, dnskey_fields, cdnskey_fields, zonemd_fields}
use Rattle.dns_rdata.specs.declared.record_data.RecordData.{RecordData}
use Rattle.dns_rdata.specs.declared.record_data.RecordData.TheVariants.{A, Ns, CName, Soa, Ptr, HInfo, Mx, Txt, Rp, Srv, Aaaa, DName, Opt, Ds, Rrsig, Nsec, DNSKey, Nsec3, Nsec3Param, Cds, CDNSKey, ZoneMD, Unknown}

-- a field of data in which no name may have pointers
abbrev pub as_uncompressed : {N : Type 0} → Field → FieldOf N
as_uncompressed (CompressibleName labels) = UncompressedName labels
as_uncompressed (UncompressedName labels) = UncompressedName labels
as_uncompressed (CharacterString octets) = CharacterString octets
as_uncompressed (CountedOctets octets) = CountedOctets octets
as_uncompressed (CharacterStrings octets) = CharacterStrings octets
as_uncompressed (OtherOctets octets) = OtherOctets octets
as_uncompressed (Byte b) = Byte b
as_uncompressed (Number w n) = Number w n

-- the fields of data, with their names as they are
abbrev pub data_fields : {N : Type 0} → RecordData N → List (FieldOf N)
data_fields (A v) = map as_uncompressed (a_fields v)
data_fields (Ns v) = ns_fields v
data_fields (CName v) = cname_fields v
data_fields (Soa v) = soa_fields v
data_fields (Ptr v) = ptr_fields v
data_fields (HInfo v) = map as_uncompressed (hinfo_fields v)
data_fields (Mx v) = mx_fields v
data_fields (Txt v) = map as_uncompressed (txt_fields v.slice.now)
data_fields (Rp v) = rp_fields v
data_fields (Srv v) = map as_uncompressed (srv_fields v)
data_fields (Aaaa v) = map as_uncompressed (aaaa_fields v)
data_fields (DName v) = map as_uncompressed (dname_fields v)
data_fields (Opt v) = map as_uncompressed (opt_fields v.slice.now)
data_fields (Ds v) = map as_uncompressed (ds_fields v)
data_fields (Rrsig v) = map as_uncompressed (rrsig_fields v)
data_fields (Nsec v) = map as_uncompressed (nsec_fields v)
data_fields (DNSKey v) = map as_uncompressed (dnskey_fields v)
data_fields (Nsec3 v) = map as_uncompressed (nsec3_fields v)
data_fields (Nsec3Param v) = map as_uncompressed (nsec3param_fields v)
data_fields (Cds v) = map as_uncompressed (cds_fields v)
data_fields (CDNSKey v) = map as_uncompressed (cdnskey_fields v)
data_fields (ZoneMD v) = map as_uncompressed (zonemd_fields (λ digest. digest.now) v)
data_fields (Unknown rtype v) = OtherOctets v.octets.now ∷ []

-- the number of the type of data
abbrev pub type_number : {N : Type 0} → RecordData N → ℕ
type_number (A v) = 1
type_number (Ns v) = 2
type_number (CName v) = 5
type_number (Soa v) = 6
type_number (Ptr v) = 12
type_number (HInfo v) = 13
type_number (Mx v) = 15
type_number (Txt v) = 16
type_number (Rp v) = 17
type_number (Srv v) = 33
type_number (Aaaa v) = 28
type_number (DName v) = 39
type_number (Opt v) = 41
type_number (Ds v) = 43
type_number (Rrsig v) = 46
type_number (Nsec v) = 47
type_number (DNSKey v) = 48
type_number (Nsec3 v) = 50
type_number (Nsec3Param v) = 51
type_number (Cds v) = 59
type_number (CDNSKey v) = 60
type_number (ZoneMD v) = 63
type_number (Unknown rtype v) = rtype.code.value

-- data of a type that has an RDATA format are no unknown octets
abbrev pub IsProper : {N : Type 0} → RecordData N → Type 0
IsProper (Unknown rtype v) = has_rdata_format rtype.code.value ≡ false
IsProper v = ⊤

-- the data are of this type, and not unknown if the type has an RDATA format
abbrev pub IsDataOf : {N : Type 0} → RecordData N → ℕ → Type 0
IsDataOf v rtype = (rtype ≡ type_number v) × IsProper v

-- ---- octets

-- a field's octets, a name's as its type writes them
abbrev pub written_field : {N : Type 0} → (N → Octets) → FieldOf N → Octets
written_field name (CompressibleName n) = name n
written_field name (UncompressedName labels) = wire labels
written_field name (CharacterString octets) = length octets ∷ octets
written_field name (CountedOctets octets) = length octets ∷ octets
written_field name (CharacterStrings octets) = octets
written_field name (OtherOctets octets) = octets
written_field name (Byte b) = b ∷ []
written_field name (Number w n) = to_be_bytes w n

-- the octets of fields, one after another
abbrev pub written_fields : {N : Type 0} → (N → Octets) → List (FieldOf N) → Octets
written_fields name [] = []
written_fields name (field ∷ fields) = written_field name field ++ written_fields name fields

-- what the names of data have to have
abbrev pub NamesFit : {N : Type 0} → (N → Type 0) → RecordData N → Type 0
NamesFit fits (Ns v) = fits v.server
NamesFit fits (CName v) = fits v.name
NamesFit fits (Soa v) = fits v.mname × fits v.rname
NamesFit fits (Ptr v) = fits v.name
NamesFit fits (Mx v) = fits v.exchange
NamesFit fits (Rp v) = fits v.mailbox × fits v.texts
NamesFit fits v = ⊤

-- no name in the data is one that pointers may lead through
abbrev pub is_plain : {N : Type 0} → RecordData N → Bool
is_plain (Ns v) = false
is_plain (CName v) = false
is_plain (Soa v) = false
is_plain (Ptr v) = false
is_plain (Mx v) = false
is_plain (Rp v) = false
is_plain v = true

-- the octets of such data
abbrev pub plain_octets : {N : Type 0} → RecordData N → Octets
plain_octets v = written_fields (λ name. []) (data_fields v)
