-- What a record writes as an answer that is read from canonical octets.
use Rattle.std.proofs.Common.{Bor, ◌≡◌, ℕ, ◌<◌, List, [], ◌∷◌, ◌++◌, length, map, Some, refl, sym, ap, ◌∙◌, arith}
use Rattle.std.specs.Prelude.{⊤, IsOk, OnOk, Result, Ok, Err}
use Rattle.std.specs.Int.{w16}
use Rattle.std.proofs.lemmas.Option.{some_pair_parts}
use Rattle.dns_wire.specs.Compression.{CompressedWrite, compressed_name_writes}
use Rattle.dns_wire.specs.Layout.{laid}
use Rattle.dns_wire.specs.Layout.LayoutPart.{NamePart}
use Rattle.dns_wire.specs.LayoutLemmas.{part_matches}
use Rattle.dns_wire.specs.Reading.{Gives}
use Rattle.dns_num.specs.InMessage.{zeros}
use Rattle.dns_record.specs.Fields.{FieldOf, fields_octets, named_by}
use Rattle.dns_record.specs.Fields.FieldOf.{CompressibleName, UncompressedName, CharacterString, CountedOctets, CharacterStrings, OtherOctets, Byte, Number}
use Rattle.dns_record.specs.InMessage.{fields_write, fields_fit, fixed_header}
use Rattle.dns_record.specs.Seen.{record_seen}
use Rattle.dns_record.specs.declared.record.Record.{Record}
use Rattle.dns_rdata.specs.Data.{data_fields}
use Rattle.dns_rdata.specs.declared.record_data.RecordData.{RecordData}
use Rattle.dns_message.specs.Building.{Draft, PushResults, pushed, record_fits_in, record_compressed}
use Rattle.dns_message.specs.Built.{field_part, built}
use Rattle.dns_message.specs.Canonical.{canonical_wire, lowercase_names, plain_record}
use Rattle.dns_message.specs.Messages.{RecordValue}
use Rattle.dns_message.specs.WellFormed.{WellFormed}
use Rattle.dns_message.specs.declared.build_error.MessageBuildError.{MessageBuildError}
use Rattle.dns_message.proofs.BuiltSo.{content_compressed, record_built}
use Rattle.dns_message.proofs.Shorter.{fields_no_longer}
use Rattle.dns_message.proofs.Whole.{canonical_wire_back}
use Rattle.dns_normal.specs.Answers.{HasAnswers, HasAnswersIfFew}
use Rattle.dns_normal.proofs.AnswersLemmas.{pushed_more}

-- nothing is prefixed in names, so all fits
all_fit : {N : Type 0} (writes : N → CompressedWrite) (fields : List (FieldOf N)) (contents places : List ℕ) → fields_fit (λ _ _ _. ⊤) writes fields contents places
all_fit writes [] contents places = tt
all_fit writes (CompressibleName n ∷ fields) contents places = (tt, all_fit writes fields _ _)
all_fit writes (UncompressedName labels ∷ fields) contents places = (tt, all_fit writes fields _ _)
all_fit writes (CharacterString octets ∷ fields) contents places = (tt, all_fit writes fields _ _)
all_fit writes (CountedOctets octets ∷ fields) contents places = (tt, all_fit writes fields _ _)
all_fit writes (CharacterStrings octets ∷ fields) contents places = (tt, all_fit writes fields _ _)
all_fit writes (OtherOctets octets ∷ fields) contents places = (tt, all_fit writes fields _ _)
all_fit writes (Byte b ∷ fields) contents places = (tt, all_fit writes fields _ _)
all_fit writes (Number w n ∷ fields) contents places = (tt, all_fit writes fields _ _)

module _ {N : Type 0} (name : N → List (List ℕ)) where
  abbrev writes_name : N → CompressedWrite
  writes_name n = compressed_name_writes (name n)

  abbrev seen : Record N (RecordData N) → RecordValue
  seen = record_seen name (λ v. map (named_by name) (data_fields v))

  record_writes_built : (x : Record N (RecordData N)) (r : RecordValue) → seen x ≡ r → record_compressed writes_name (λ v. fields_write writes_name (data_fields v)) x ≡ built r
  record_writes_built x r is = record_built writes_name (λ n. Some (NamePart (name n) ∷ [])) (λ n. part_matches (NamePart (name n))) name (λ n. refl) x ∙ ap built is

  -- the data are few octets, whatever names are known
  data_few : (x : Record N (RecordData N)) (r : RecordValue) → seen x ≡ r → WellFormed r → (contents places : List ℕ) → length (fields_write writes_name (data_fields x.rdata) contents places).0 < 65536
  data_few x r is well contents places =
      let compressed : fields_write writes_name (data_fields x.rdata) ≡ laid (map field_part (map (named_by name) (data_fields x.rdata))) =
      content_compressed writes_name (λ n. Some (NamePart (name n) ∷ [])) (λ n. part_matches (NamePart (name n))) name (λ n. refl) (data_fields x.rdata) in
      let few : length (fields_octets r.content) < 65536 = well.size in
      omega (
        arith,
        ap (λ (p : CompressedWrite). length (p contents places).0) compressed,
        fields_no_longer (map (named_by name) (data_fields x.rdata)) contents places,
        ap (λ (r : RecordValue). length (fields_octets r.content)) is,
        few,
      )

  record_fits_room : (x : Record N (RecordData N)) (r : RecordValue) → seen x ≡ r → WellFormed r → (contents places : List ℕ)
      → record_fits_in (λ _ _ _. ⊤) writes_name (λ v. fields_fit (λ _ _ _. ⊤) writes_name (data_fields v)) (λ v. fields_write writes_name (data_fields v)) x contents places
  record_fits_room x r is well contents places =
      let owner = writes_name x.rname contents places in
      let at = ((contents ++ owner.0) ++ fixed_header x.rtype.code.value x.rclass.code.value x.ttl.value.value) ++ zeros w16 in
      (tt, (data_few x r is well at owner.1, all_fit writes_name (data_fields x.rdata) at owner.1))

  -- what a push of the record leaves
  abbrev pub writes_record : Record N (RecordData N) → CompressedWrite
  writes_record = record_compressed writes_name (λ v. fields_write writes_name (data_fields v))

  abbrev pub fits_record : Record N (RecordData N) → List ℕ → List ℕ → Type 0
  fits_record = record_fits_in (λ _ _ _. ⊤) writes_name (λ v. fields_fit (λ _ _ _. ⊤) writes_name (data_fields v)) (λ v. fields_write writes_name (data_fields v))

  pub push_leaves : {A : Type 0} (most : ℕ) (rs : List RecordValue) (r : RecordValue) (x : Record N (RecordData N)) (draft after : Draft) (result : Result A MessageBuildError) → HasAnswers most rs draft → WellFormed r → seen x ≡ r
      → PushResults 1 (fits_record x) (writes_record x) draft result → OnOk result (after ≡ pushed 1 (writes_record x) draft) → HasAnswersIfFew most (rs ++ r ∷ []) after result
  push_leaves most rs r x draft after result has well is answers leaves =
      pushed_more most rs r draft after (fits_record x) (writes_record x) result has well (record_writes_built x r is) (record_fits_room x r is well draft.contents draft.places) answers leaves

  -- ---- what is read from canonical octets

  module _ {E : Type 0} (r : RecordValue) (octets : List ℕ) (well : WellFormed r) (is : canonical_wire r ≡ octets) where
    pub read_ok : (result : Result (Record N (RecordData N) × Bor (List ℕ)) E) → Gives (λ x. (seen x.0, x.1.now)) result (plain_record octets) → IsOk result
    read_ok (Ok x) gives = refl
    read_ok (Err e) gives = let clash = sym (canonical_wire_back r well) ∙ ap plain_record is ∙ gives in absurd cc

    pub read_is : (result : Result (Record N (RecordData N) × Bor (List ℕ)) E) (x : Record N (RecordData N) × Bor (List ℕ)) → result ≡ Ok x → Gives (λ x. (seen x.0, x.1.now)) result (plain_record octets) → seen x.0 ≡ lowercase_names r
    read_is (Ok y) x ok gives =
        let same : y ≡ x = cc in
        let parts = some_pair_parts (lowercase_names r) (seen y.0) [] y.1.now (sym (canonical_wire_back r well) ∙ ap plain_record is ∙ gives) in
        sym (parts.0 ∙ ap (λ (z : Record N (RecordData N) × Bor (List ℕ)). seen z.0) same)
    read_is (Err e) x ok gives = absurd cc
