-- The canonical octets of data in which no name may have pointers.
use Rattle.std.proofs.Common.{◌≡◌, ℕ, Bool, true, false, cond, List, [], ◌∷◌, ◌++◌, refl, ap, ◌∙◌}
use Rattle.std.specs.Prelude.{map}
use Rattle.dns_record.specs.Fields.{Field, named_by, field_octets, fields_octets, lowercased_field, canonical_octets}
use Rattle.dns_record.specs.Fields.FieldOf.{CompressibleName, UncompressedName, CharacterString, CountedOctets, CharacterStrings, OtherOctets, Byte, Number}
use Rattle.std.specs.Ordering.{nat_cmp}
use Rattle.std.specs.Cmp.Lexicographic.{slice_cmp}
use Rattle.std.specs.declared.cmp.Ordering.{Ordering}
use Rattle.dns_record.specs.Canonical.{ranked_cmp}
use Rattle.dns_record.specs.Types.{is_lowercased}
use Rattle.dns_rdata.specs.Data.{as_uncompressed}

field_plain : {N : Type 0} (name : N → List (List ℕ)) (field : Field) → field_octets (named_by name (as_uncompressed {N = N} field)) ≡ field_octets field
field_plain name (CompressibleName labels) = refl
field_plain name (UncompressedName labels) = refl
field_plain name (CharacterString octets) = refl
field_plain name (CountedOctets octets) = refl
field_plain name (CharacterStrings octets) = refl
field_plain name (OtherOctets octets) = refl
field_plain name (Byte b) = refl
field_plain name (Number w n) = refl

lowercased_uncompressed : {N : Type 0} (name : N → List (List ℕ)) (field : Field) → field_octets (lowercased_field (named_by name (as_uncompressed {N = N} field))) ≡ field_octets (lowercased_field field)
lowercased_uncompressed name (CompressibleName labels) = refl
lowercased_uncompressed name (UncompressedName labels) = refl
lowercased_uncompressed name (CharacterString octets) = refl
lowercased_uncompressed name (CountedOctets octets) = refl
lowercased_uncompressed name (CharacterStrings octets) = refl
lowercased_uncompressed name (OtherOctets octets) = refl
lowercased_uncompressed name (Byte b) = refl
lowercased_uncompressed name (Number w n) = refl

fields_plain : {N : Type 0} (name : N → List (List ℕ)) (fields : List Field) → fields_octets (map (named_by name) (map (as_uncompressed {N = N}) fields)) ≡ fields_octets fields
fields_plain name [] = refl
fields_plain {N} name (field ∷ fields) =
    ap (λ (l : List ℕ). l ++ fields_octets (map (named_by name) (map (as_uncompressed {N = N}) fields))) (field_plain name field)
    ∙ ap (λ (l : List ℕ). field_octets field ++ l) (fields_plain name fields)

fields_lowercased_uncompressed : {N : Type 0} (name : N → List (List ℕ)) (fields : List Field) → fields_octets (map lowercased_field (map (named_by name) (map (as_uncompressed {N = N}) fields))) ≡ fields_octets (map lowercased_field fields)
fields_lowercased_uncompressed name [] = refl
fields_lowercased_uncompressed {N} name (field ∷ fields) =
    ap (λ (l : List ℕ). l ++ fields_octets (map lowercased_field (map (named_by name) (map (as_uncompressed {N = N}) fields)))) (lowercased_uncompressed name field)
    ∙ ap (λ (l : List ℕ). field_octets (lowercased_field field) ++ l) (fields_lowercased_uncompressed name fields)

pub plain_canonical : {N : Type 0} (name : N → List (List ℕ)) (rtype : ℕ) (fields : List Field) → canonical_octets rtype (map (named_by name) (map (as_uncompressed {N = N}) fields)) ≡ canonical_octets rtype fields
plain_canonical {N} name rtype fields = by (is_lowercased rtype) where
  by : (b : Bool) → fields_octets (cond b (map lowercased_field (map (named_by name) (map (as_uncompressed {N = N}) fields))) (map (named_by name) (map (as_uncompressed {N = N}) fields))) ≡ fields_octets (cond b (map lowercased_field fields) fields)
  by true = fields_lowercased_uncompressed name fields
  by false = fields_plain name fields

-- and their order, if data of one type compare by it
pub plain_compared : {N : Type 0} (name : N → List (List ℕ)) (rtype : ℕ) (fields others : List Field) (found : Ordering) → found ≡ ranked_cmp 0 0 (canonical_octets rtype fields) (canonical_octets rtype others)
    → found ≡ slice_cmp nat_cmp (canonical_octets rtype (map (named_by name) (map (as_uncompressed {N = N}) fields))) (canonical_octets rtype (map (named_by name) (map (as_uncompressed {N = N}) others)))
plain_compared name rtype fields others found is = rw (plain_canonical name rtype fields, plain_canonical name rtype others) is
