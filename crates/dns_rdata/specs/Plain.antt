-- Data whose type has no name that pointers may lead through.
use Rattle.std.specs.Prelude.{◌≡◌, ◌==◌, ◌||◌, ℕ, Bool, Option, Some, None, Result, Ok, Err}
use Rattle.dns_wire.specs.Octets.{Octets}
use Rattle.dns_record.specs.Data.{data_as}
use Rattle.dns_record.specs.Formats.{rdata_format}
use Rattle.dns_record.proofs.UncompressedNames.{is_uncompressed_format}
use Rattle.dns_rdata.specs.Data.{data_fields, IsDataOf}
use Rattle.dns_rdata.specs.declared.record_data.RecordData.{RecordData}

-- the RDATA format of the type has no such name
unfoldable pub is_uncompressed_type : ℕ → Bool
is_uncompressed_type rtype = is_uncompressed_format (rdata_format rtype)

-- A, HINFO, TXT, AAAA, SRV and DNAME
abbrev pub is_general_type : ℕ → Bool
is_general_type n = n == 1 || n == 13 || n == 16 || n == 28 || n == 33 || n == 39

-- DS, RRSIG, DNSKEY, CDS, CDNSKEY and ZONEMD
abbrev pub is_signed_type : ℕ → Bool
is_signed_type n = n == 43 || n == 46 || n == 48 || n == 59 || n == 60 || n == 63

-- no such name is read
abbrev pub no_compressible : {N : Type 0} → Octets → Option (N × Octets)
no_compressible bytes = None

-- What is answered when octets are read for such a type: `Ok` exactly if its RDATA format reads all of them, with data of the type
-- that have these fields.
abbrev pub ReadsPlain : {N E : Type 0} → Result (RecordData N) E → ℕ → Octets → Type 0
ReadsPlain {N} (Ok v) rtype bytes = (data_as {N = N} no_compressible rtype bytes ≡ Some (data_fields v)) × IsDataOf v rtype
ReadsPlain {N} (Err e) rtype bytes = data_as {N = N} no_compressible rtype bytes ≡ None
