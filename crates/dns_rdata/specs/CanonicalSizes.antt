-- The canonical octets of data are as many as those that are written.
use Rattle.std.proofs.Common.{◌≡◌, ℕ, List, [], ◌∷◌, ◌++◌, length, refl, sym, ap, ◌∙◌}
use Rattle.std.specs.Prelude.{map}
use Rattle.dns_wire.specs.Names.{wire}
use Rattle.dns_record.specs.Fields.{FieldOf, named_by, fields_octets, field_octets, canonical_octets}
use Rattle.dns_record.specs.Fields.FieldOf.{CompressibleName, UncompressedName, CharacterString, CountedOctets, CharacterStrings, OtherOctets, Byte, Number}
use Rattle.dns_record.proofs.Sizes.{canonical_long}
use Rattle.dns_rdata.specs.Data.{data_fields, type_number, written_field, written_fields}
use Rattle.dns_rdata.specs.declared.record_data.RecordData.{RecordData}

field_written : {N : Type 0} (name : N → List (List ℕ)) (octets : N → List ℕ) → ((n : N) → octets n ≡ wire (name n)) → (field : FieldOf N) → field_octets (named_by name field) ≡ written_field octets field
field_written name octets are (CompressibleName n) = sym (are n)
field_written name octets are (UncompressedName labels) = refl
field_written name octets are (CharacterString bytes) = refl
field_written name octets are (CountedOctets bytes) = refl
field_written name octets are (CharacterStrings bytes) = refl
field_written name octets are (OtherOctets bytes) = refl
field_written name octets are (Byte b) = refl
field_written name octets are (Number w n) = refl

-- fields are written as their octets, if each name is written as its labels are
pub fields_written : {N : Type 0} (name : N → List (List ℕ)) (octets : N → List ℕ) → ((n : N) → octets n ≡ wire (name n)) → (fields : List (FieldOf N)) → fields_octets (map (named_by name) fields) ≡ written_fields octets fields
fields_written name octets are [] = refl
fields_written name octets are (field ∷ fields) =
    ap (λ (l : List ℕ). l ++ fields_octets (map (named_by name) fields)) (field_written name octets are field)
    ∙ ap (λ (l : List ℕ). written_field octets field ++ l) (fields_written name octets are fields)

pub as_many : {N : Type 0} (name : N → List (List ℕ)) (octets : N → List ℕ) → ((n : N) → octets n ≡ wire (name n)) → (v : RecordData N)
    → length (canonical_octets (type_number v) (map (named_by name) (data_fields v))) ≡ length (written_fields octets (data_fields v))
as_many name octets are v = canonical_long (type_number v) (map (named_by name) (data_fields v)) ∙ ap length (fields_written name octets are (data_fields v))
