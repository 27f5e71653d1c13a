-- Data whose type has names that pointers may lead through.
use Rattle.std.specs.Prelude.{◌==◌, ◌||◌, ℕ, List, map, Bool, Option, Result, IfOk}
use Rattle.dns_wire.specs.Reading.{Gives}
use Rattle.dns_record.specs.Fields.{FieldOf, named_by}
use Rattle.dns_rdata.specs.Data.{data_fields, IsDataOf}
use Rattle.dns_rdata.specs.declared.record_data.RecordData.{RecordData}

-- NS, CNAME, SOA, PTR, MX and RP
abbrev pub is_compressible_type : ℕ → Bool
is_compressible_type n = n == 2 || n == 5 || n == 6 || n == 12 || n == 15 || n == 17

-- `Ok` exactly if the RDATA format reads fields, with data of the type that have these
abbrev pub IsRead : {N S E : Type 0} → (N → S) → Result (RecordData N) E → ℕ → Option (List (FieldOf S)) → Type 0
IsRead seen made rtype found = Gives (λ v. map (named_by seen) (data_fields v)) made found × IfOk made (λ v. IsDataOf v rtype)
