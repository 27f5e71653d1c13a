-- Content that is compared or fed to a hasher with names of any type is so with their labels, and octets spell the content of what is read of them.
use Rattle.std.proofs.Common.{◌≡◌, ℕ, Bool, List, [], ◌∷◌, ◌++◌, Option, Some, refl, sym, ap, ◌∙◌}
use Rattle.std.proofs.Math.Bool.{beq}
use Rattle.std.specs.Prelude.{map, nat_eq, ◌&&◌, unwrap_or}
use Rattle.dns_name.specs.Hashing.{name_writes}
use Rattle.dns_wire.specs.Names.{plain_name}
use Rattle.dns_record.specs.Data.{data_as}
use Rattle.dns_record.specs.FieldOrder.{field_eq, fields_eq, field_writes, fields_writes}
use Rattle.dns_record.specs.Fields.{Field, FieldOf, named_by}
use Rattle.dns_record.specs.Fields.FieldOf.{CompressibleName, UncompressedName, CharacterString, CountedOctets, CharacterStrings, OtherOctets, Byte, Number}
use Rattle.dns_record.specs.Formats.{has_rdata_format}
use Rattle.dns_rdata.specs.Alike.{Content, content_of, is_known, same_name, same_content, type_writes, content_writes}
use Rattle.dns_boxed.specs.Boxed.{spelled_fields, spelled_content}
use Rattle.dns_rdata.specs.Data.{data_fields, type_number, IsProper, IsDataOf}
use Rattle.dns_rdata.specs.declared.record_data.RecordData.{RecordData}
use Rattle.dns_rdata.specs.declared.record_data.RecordData.TheVariants.{Unknown}

-- ---- names are seen as their labels

-- the content with what is seen of its names
abbrev pub content_named : {N : Type 0} → (N → List (List ℕ)) → Content N → Content (List (List ℕ))
content_named name c = record { rtype = c.rtype; known = c.known; fields = map (named_by name) c.fields }

module _ {N : Type 0} (name : N → List (List ℕ)) where
  module _ (names : N → N → Bool) (agree : (a b : N) → names a b ≡ same_name (name a) (name b)) where
    field_named : (f g : FieldOf N) → field_eq names same_name f g ≡ field_eq same_name same_name (named_by name f) (named_by name g)
    field_named (CompressibleName a) (CompressibleName b) = agree a b
    field_named (UncompressedName a) (UncompressedName b) = refl
    field_named (CharacterString a) (CharacterString b) = refl
    field_named (CountedOctets a) (CountedOctets b) = refl
    field_named (CharacterStrings a) (CharacterStrings b) = refl
    field_named (OtherOctets a) (OtherOctets b) = refl
    field_named (Byte a) (Byte b) = refl
    field_named (Number v a) (Number w b) = refl
    field_named f g = refl

    fields_named : (fs gs : List (FieldOf N)) → fields_eq names same_name fs gs ≡ fields_eq same_name same_name (map (named_by name) fs) (map (named_by name) gs)
    fields_named (f ∷ fs) (g ∷ gs) =
        ap (λ (b : Bool). b && fields_eq names same_name fs gs) (field_named f g)
        ∙ ap (λ (b : Bool). field_eq same_name same_name (named_by name f) (named_by name g) && b) (fields_named fs gs)
    fields_named [] [] = refl
    fields_named fs gs = refl

    pub same_named : (c d : Content N) → same_content names c d ≡ same_content same_name (content_named name c) (content_named name d)
    same_named c d = ap (λ (b : Bool). beq c.known d.known && (nat_eq c.rtype d.rtype && b)) (fields_named c.fields d.fields)

  module _ (names : N → List (List ℕ)) (agree : (a : N) → names a ≡ name_writes (name a)) where
    field_fed : (f : FieldOf N) → field_writes names name_writes f ≡ field_writes name_writes name_writes (named_by name f)
    field_fed (CompressibleName a) = agree a
    field_fed f = refl

    fields_fed : (fs : List (FieldOf N)) → fields_writes names name_writes fs ≡ fields_writes name_writes name_writes (map (named_by name) fs)
    fields_fed [] = refl
    fields_fed (f ∷ fs) =
        ap (λ (l : List (List ℕ)). l ++ fields_writes names name_writes fs) (field_fed f)
        ∙ ap (λ (l : List (List ℕ)). field_writes name_writes name_writes (named_by name f) ++ l) (fields_fed fs)

    pub fed_named : (c : Content N) → content_writes names c ≡ content_writes name_writes (content_named name c)
    fed_named c = ap (λ (l : List (List ℕ)). type_writes c ++ l) (fields_fed c.fields)

-- ---- what was read of octets has their content

known_format : {N : Type 0} (v : RecordData N) → IsProper v → is_known v ≡ has_rdata_format (type_number v)
known_format (Unknown rtype v) p = sym p
known_format v p = refl

abbrev these : ℕ → Bool → List Field → Content (List (List ℕ))
these rtype known fields = record { rtype = rtype; known = known; fields = fields }

pub content_spelled : {N : Type 0} (name : N → List (List ℕ)) (v : RecordData N) (rtype : ℕ) (bytes : List ℕ) → data_as plain_name rtype bytes ≡ Some (map (named_by name) (data_fields v)) → IsDataOf v rtype → content_named name (content_of v) ≡ spelled_content rtype bytes
content_spelled name v rtype bytes read is =
    let fields : map (named_by name) (data_fields v) ≡ spelled_fields rtype bytes = sym (ap (λ (found : Option (List Field)). unwrap_or found []) read) in
    ap (λ (n : ℕ). these n (is_known v) (map (named_by name) (data_fields v))) (sym is.0)
    ∙ ap (λ (b : Bool). these rtype b (map (named_by name) (data_fields v))) (known_format v is.1 ∙ ap has_rdata_format (sym is.0))
    ∙ ap (λ (fs : List Field). these rtype (has_rdata_format rtype) fs) fields
