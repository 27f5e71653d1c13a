-- The octets of a record's parts are its canonical octets.
use Rattle.std.proofs.Common.{◌≡◌, ℕ, ◌+◌, ◌<◌, ◌^◌, List, length, sym, ap, ◌++◌, arith}
use Rattle.std.specs.Int.{w16, w32, to_be_bytes}
use Rattle.std.specs.Prelude.{map}
use Rattle.std.proofs.lemmas.List.{length-append}
use Rattle.dns_wire.specs.Names.{lowered, wire}
use Rattle.dns_wire.proofs.Lowered.{lowered_long}
use Rattle.dns_record.specs.Fields.{named_by, fields_octets, canonical_fields, canonical_octets}
use Rattle.dns_record.specs.Records.{octets_of_parts}
use Rattle.dns_record.proofs.Sizes.{canonical_long}
use Rattle.dns_rdata.specs.Data.{data_fields, type_number, IsDataOf}
use Rattle.dns_rdata.specs.declared.record_data.RecordData.{RecordData}
use Rattle.dns_message.specs.Canonical.{canonical_wire}

module _ {N : Type 0} (name : N → List (List ℕ)) (owner : List (List ℕ)) (rtype class ttl : ℕ) (v : RecordData N) where
  pub parts_are : IsDataOf v rtype → octets_of_parts (wire (lowered owner)) rtype class ttl (canonical_octets (type_number v) (map (named_by name) (data_fields v)))
      ≡ canonical_wire (record { owner = owner; rtype = rtype; class = class; ttl = ttl; content = map (named_by name) (data_fields v) })
  parts_are is = ap (λ (t : ℕ). octets_of_parts (wire (lowered owner)) rtype class ttl (fields_octets (canonical_fields t (map (named_by name) (data_fields v))))) (sym is.0)

-- canonical octets are as many as the others
pub canonical_short : {N : Type 0} (name : N → List (List ℕ)) (v : RecordData N) → length (fields_octets (map (named_by name) (data_fields v))) < 2 ^ 16 → length (canonical_octets (type_number v) (map (named_by name) (data_fields v))) < 2 ^ 16
canonical_short name v short = omega (arith, canonical_long (type_number v) (map (named_by name) (data_fields v)), short)

-- an owner, ten octets, and the data
pub parts_long : (owner : List (List ℕ)) (rtype class ttl : ℕ) (body : List ℕ) → length (octets_of_parts (wire (lowered owner)) rtype class ttl body) ≡ length (wire owner) + (10 + length body)
parts_long owner rtype class ttl body =
    omega (
      arith,
      lowered_long owner,
      length-append (wire (lowered owner)) (to_be_bytes w16 rtype ++ (to_be_bytes w16 class ++ (to_be_bytes w32 ttl ++ (to_be_bytes w16 (length body) ++ body)))),
    )
