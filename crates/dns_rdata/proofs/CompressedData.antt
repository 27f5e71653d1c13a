-- What data write in a message that have no name to which pointers may lead.
use Rattle.std.proofs.Common.{◌≡◌, ℕ, List, [], ◌∷◌, ◌++◌, take, Result, Ok, Err, refl, sym, ap, subst, ◌∙◌}
use Rattle.std.specs.Prelude.{map, ⊤}
use Rattle.dns_wire.specs.Compression.{CompressedWrite}
use Rattle.dns_wire.specs.InMessage.{BuildsIn}
use Rattle.dns_wire.specs.Layout.{octets_writes}
use Rattle.dns_record.specs.Fields.{FieldOf, Field, named_by, field_octets, fields_octets}
use Rattle.dns_record.specs.Fields.FieldOf.{CompressibleName, UncompressedName, CharacterString, CountedOctets, CharacterStrings, OtherOctets, Byte, Number}
use Rattle.dns_record.specs.InMessage.{of_field, fields_write, field_fits, fields_fit}
use Rattle.dns_rdata.specs.Data.{as_uncompressed}

-- the same, if what is prefixed fits in other words
builds_so : {E F G : Type 0} {compressed : List ℕ × List ℕ} {old new places after : List ℕ} {start : ℕ} {result : Result ℕ E} → (F → G) → (G → F) → BuildsIn F compressed old start places new after result → BuildsIn G compressed old start places new after result
builds_so {result = Ok end} there back b = record {
  accepted = there b.accepted;
  occurs = b.occurs;
  after_is = b.after_is;
  grows = b.grows;
  leads = b.leads;
  refused = tt;
  prefix = tt;
  size = tt;
  unchanged = tt;
}
builds_so {result = Err e} there back b = record {
  accepted = tt;
  occurs = tt;
  after_is = tt;
  grows = tt;
  leads = tt;
  refused = λ g. b.refused (back g);
  prefix = b.prefix;
  size = b.size;
  unchanged = b.unchanged;
}

module _ {N : Type 0} (fits : N → List ℕ → List ℕ → Type 0) (writes : N → CompressedWrite) where
  plain_field : (field : Field) → of_field writes octets_writes (as_uncompressed field) ≡ octets_writes (field_octets field)
  plain_field (CompressibleName labels) = refl
  plain_field (UncompressedName labels) = refl
  plain_field (CharacterString octets) = refl
  plain_field (CountedOctets octets) = refl
  plain_field (CharacterStrings octets) = refl
  plain_field (OtherOctets octets) = refl
  plain_field (Byte b) = refl
  plain_field (Number w n) = refl

  -- their fields, whole
  uncompressed_writes : (fields : List Field) (contents places : List ℕ) → fields_write writes (map as_uncompressed fields) contents places ≡ (fields_octets fields, places)
  uncompressed_writes [] contents places = refl
  uncompressed_writes (field ∷ fields) contents places =
      ap (λ (p : CompressedWrite). ((p contents places).0 ++ (fields_write writes (map as_uncompressed fields) (contents ++ (p contents places).0) (p contents places).1).0, (fields_write writes (map as_uncompressed fields) (contents ++ (p contents places).0) (p contents places).1).1)) (plain_field field)
      ∙ ap (λ (r : List ℕ × List ℕ). (field_octets field ++ r.0, r.1)) (uncompressed_writes fields (contents ++ field_octets field) places)

  field_fit : (field : Field) (contents places : List ℕ) → field_fits fits (as_uncompressed field) contents places
  field_fit (CompressibleName labels) contents places = tt
  field_fit (UncompressedName labels) contents places = tt
  field_fit (CharacterString octets) contents places = tt
  field_fit (CountedOctets octets) contents places = tt
  field_fit (CharacterStrings octets) contents places = tt
  field_fit (OtherOctets octets) contents places = tt
  field_fit (Byte b) contents places = tt
  field_fit (Number w n) contents places = tt

  -- and nothing in them is prefixed
  plain_fit : (fields : List Field) (contents places : List ℕ) → fields_fit fits writes (map as_uncompressed fields) contents places
  plain_fit [] contents places = tt
  plain_fit (field ∷ fields) contents places = (field_fit field contents places, plain_fit fields _ _)

  pub plain_built : {E : Type 0} {octets old new places after : List ℕ} {start : ℕ} {result : Result ℕ E} (fields : List Field) → octets ≡ fields_octets fields → BuildsIn ⊤ (octets, places) old start places new after result
      → BuildsIn (fields_fit fits writes (map as_uncompressed fields) (take start old) places) (fields_write writes (map as_uncompressed fields) (take start old) places) old start places new after result
  plain_built {octets = octets} {old} {new} {places} {after} {start} {result} fields same b =
      let all = plain_fit fields (take start old) places in
      subst (λ (r : List ℕ × List ℕ). BuildsIn (fields_fit fits writes (map as_uncompressed fields) (take start old) places) r old start places new after result) (sym (uncompressed_writes fields (take start old) places))
      (subst (λ (o : List ℕ). BuildsIn (fields_fit fits writes (map as_uncompressed fields) (take start old) places) (o, places) old start places new after result) same (builds_so (λ _. all) (λ _. tt) b))

-- ---- names by their labels

module _ {N S : Type 0} (name : N → S) (writes : S → CompressedWrite) where
  compressible_field : (field : FieldOf N) → of_field writes octets_writes (named_by name field) ≡ of_field (λ n. writes (name n)) octets_writes field
  compressible_field (CompressibleName n) = refl
  compressible_field (UncompressedName labels) = refl
  compressible_field (CharacterString octets) = refl
  compressible_field (CountedOctets octets) = refl
  compressible_field (CharacterStrings octets) = refl
  compressible_field (OtherOctets octets) = refl
  compressible_field (Byte b) = refl
  compressible_field (Number w n) = refl

  pub compressible_writes : (fields : List (FieldOf N)) (contents places : List ℕ) → fields_write writes (map (named_by name) fields) contents places ≡ fields_write (λ n. writes (name n)) fields contents places
  compressible_writes [] contents places = refl
  compressible_writes (field ∷ fields) contents places =
      let here = of_field (λ n. writes (name n)) octets_writes field contents places in
      ap (λ (p : CompressedWrite). ((p contents places).0 ++ (fields_write writes (map (named_by name) fields) (contents ++ (p contents places).0) (p contents places).1).0, (fields_write writes (map (named_by name) fields) (contents ++ (p contents places).0) (p contents places).1).1)) (compressible_field field)
      ∙ ap (λ (r : List ℕ × List ℕ). (here.0 ++ r.0, r.1)) (compressible_writes fields (contents ++ here.0) here.1)

  compressible_fits : (field : FieldOf N) (contents places : List ℕ) → field_fits (λ _ _ _. ⊤) field contents places
  compressible_fits (CompressibleName n) contents places = tt
  compressible_fits (UncompressedName labels) contents places = tt
  compressible_fits (CharacterString octets) contents places = tt
  compressible_fits (CountedOctets octets) contents places = tt
  compressible_fits (CharacterStrings octets) contents places = tt
  compressible_fits (OtherOctets octets) contents places = tt
  compressible_fits (Byte b) contents places = tt
  compressible_fits (Number w n) contents places = tt

  compressible_fit : (fields : List (FieldOf N)) (contents places : List ℕ) → fields_fit (λ _ _ _. ⊤) (λ n. writes (name n)) fields contents places
  compressible_fit [] contents places = tt
  compressible_fit (field ∷ fields) contents places = (compressible_fits field contents places, compressible_fit fields _ _)

  pub compressible_built : {E : Type 0} {old new places after : List ℕ} {start : ℕ} {result : Result ℕ E} (spelled : List (FieldOf S)) (fields : List (FieldOf N)) → spelled ≡ map (named_by name) fields
      → BuildsIn (fields_fit (λ _ _ _. ⊤) (λ n. writes (name n)) fields (take start old) places) (fields_write (λ n. writes (name n)) fields (take start old) places) old start places new after result
      → BuildsIn ⊤ (fields_write writes spelled (take start old) places) old start places new after result
  compressible_built {old = old} {new} {places} {after} {start} {result} spelled fields same b =
      let all = compressible_fit fields (take start old) places in
      subst (λ (r : List ℕ × List ℕ). BuildsIn ⊤ r old start places new after result)
      (sym (compressible_writes fields (take start old) places) ∙ ap (λ (fs : List (FieldOf S)). fields_write writes fs (take start old) places) (sym same))
      (builds_so (λ _. tt) (λ _. all) b)
