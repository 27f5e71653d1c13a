-- What the record of a number writes as an answer, and that it is accepted.
use Rattle.std.proofs.Common.{◌≡◌, ℕ, suc, ◌+◌, ◌%◌, ◌<◌, List, [], ◌∷◌, ◌++◌, length, map, Some, refl, sym, ap, subst, ◌∙◌, arith}
use Rattle.std.specs.Prelude.{⊤, IsOk, OnOk, Result, Ok, Err}
use Rattle.std.specs.Int.{w16}
use Rattle.dns_wire.specs.Compression.{compressed_name_writes}
use Rattle.dns_wire.specs.Layout.{laid}
use Rattle.dns_wire.specs.Layout.LayoutPart.{NamePart}
use Rattle.dns_wire.specs.LayoutLemmas.{part_matches}
use Rattle.dns_num.specs.InMessage.{zeros}
use Rattle.dns_record.specs.Fields.{Field, fields_octets}
use Rattle.dns_record.specs.Fields.FieldOf.{CompressibleName, UncompressedName, CharacterString, CountedOctets, CharacterStrings, OtherOctets, Byte, Number}
use Rattle.dns_record.specs.InMessage.{fields_write, fields_fit, fixed_header}
use Rattle.dns_record.specs.declared.record.Record.{Record}
use Rattle.dns_rdata.specs.Data.{data_fields}
use Rattle.dns_rdata.specs.declared.record_data.RecordData.{RecordData}
use Rattle.dns_message.specs.Building.{Draft, pushed, record_fits_in, record_compressed, HasRoom, PushResults}
use Rattle.dns_message.specs.Built.{field_part, built}
use Rattle.dns_message.specs.Seen.{data_seen, record_value}
use Rattle.dns_message.specs.declared.build_error.MessageBuildError.{MessageBuildError}
use Rattle.dns_message.proofs.BuiltSo.{content_compressed, record_built}
use Rattle.dns_message.proofs.Shorter.{fields_no_longer}
use Rattle.dns_canon.specs.Generated.{generated_owner, generated_type, generated_content, generated_record}
use Rattle.dns_canon.specs.Making.{HasMade}
use Rattle.dns_canon.proofs.GeneratedRecords.{generated_few}
use Rattle.dns_canon.proofs.MadeLemmas.{has_room, accepted, one_more_made}

-- a record whose names are seen as their labels
abbrev Found : Type 0
Found = Record (List (List ℕ)) (RecordData (List (List ℕ)))

-- the record of a number, part by part
pub record IsGenerated (i : ℕ) (r : Found) : Type 0 where
  pub owner : r.rname ≡ generated_owner i
  pub rtype : r.rtype.code.value ≡ generated_type (i % 4)
  pub class : r.rclass.code.value ≡ 1
  pub ttl : r.ttl.value.value ≡ 60 + i % 3
  pub content : data_seen r.rdata ≡ generated_content (i % 4) i

record_item_is : (i : ℕ) (r : Found) → IsGenerated i r → record_value r ≡ generated_record i
record_item_is i r is = λ k. record { owner = is.owner k; rtype = is.rtype k; class = is.class k; ttl = is.ttl k; content = is.content k }

-- nothing is prefixed in names, so all fits
all_fit : (fields : List Field) (contents places : List ℕ) → fields_fit (λ _ _ _. ⊤) compressed_name_writes fields contents places
all_fit [] contents places = tt
all_fit (CompressibleName labels ∷ fields) contents places = let first = compressed_name_writes labels contents places in (tt, all_fit fields (contents ++ first.0) first.1)
all_fit (UncompressedName labels ∷ fields) contents places = (tt, all_fit fields _ _)
all_fit (CharacterString octets ∷ fields) contents places = (tt, all_fit fields _ _)
all_fit (CountedOctets octets ∷ fields) contents places = (tt, all_fit fields _ _)
all_fit (CharacterStrings octets ∷ fields) contents places = (tt, all_fit fields _ _)
all_fit (OtherOctets octets ∷ fields) contents places = (tt, all_fit fields _ _)
all_fit (Byte b ∷ fields) contents places = (tt, all_fit fields _ _)
all_fit (Number w n ∷ fields) contents places = (tt, all_fit fields _ _)

module _ (i : ℕ) (r : Found) (few : i < 1000) (is : IsGenerated i r) where
  abbrev writes : List ℕ → List ℕ → List ℕ × List ℕ
  writes = record_compressed compressed_name_writes (λ v. fields_write compressed_name_writes (data_fields v)) r

  abbrev fits : List ℕ → List ℕ → Type 0
  fits = record_fits_in (λ _ _ _. ⊤) compressed_name_writes (λ v. fields_fit (λ _ _ _. ⊤) compressed_name_writes (data_fields v)) (λ v. fields_write compressed_name_writes (data_fields v)) r

  writes_is : writes ≡ built (generated_record i)
  writes_is = record_built compressed_name_writes (λ labels. Some (NamePart labels ∷ [])) (λ labels. part_matches (NamePart labels)) (λ labels. labels) (λ labels. refl) r ∙ ap built (record_item_is i r is)

  -- the data are few octets, whatever names are known
  data_few : (contents places : List ℕ) → length (fields_write compressed_name_writes (data_fields r.rdata) contents places).0 < 65536
  data_few contents places =
      let compressed : fields_write compressed_name_writes (data_fields r.rdata) ≡ laid (map field_part (data_seen r.rdata)) =
      content_compressed compressed_name_writes (λ labels. Some (NamePart labels ∷ [])) (λ labels. part_matches (NamePart labels)) (λ labels. labels) (λ labels. refl) (data_fields r.rdata) in
      omega (
        arith,
        ap (λ (p : List ℕ → List ℕ → List ℕ × List ℕ). length (p contents places).0) compressed,
        fields_no_longer (data_seen r.rdata) contents places,
        ap (λ (fs : List Field). length (fields_octets fs)) is.content,
        generated_few i few,
      )

  all_fits : (contents places : List ℕ) → fits contents places
  all_fits contents places =
      let owner = compressed_name_writes r.rname contents places in
      let at = ((contents ++ owner.0) ++ fixed_header r.rtype.code.value r.rclass.code.value r.ttl.value.value) ++ zeros w16 in
      (tt, (data_few at owner.1, all_fit (data_fields r.rdata) at owner.1))

  pub push_is_accepted : {A : Type 0} (draft : Draft) (result : Result A MessageBuildError) → HasMade i draft → PushResults 1 fits writes draft result → IsOk result
  push_is_accepted draft result made answers =
      let room : HasRoom fits (built (generated_record i)) draft = has_room i draft fits few made (all_fits draft.contents draft.places) in
      accepted i draft fits writes result few made (subst (λ (p : List ℕ → List ℕ → List ℕ × List ℕ). HasRoom fits p draft) (sym writes_is) room) answers

  pub push_makes : (draft after : Draft) → HasMade i draft → after ≡ pushed 1 writes draft → HasMade (suc i) after
  push_makes draft after made e =
      subst (HasMade (suc i)) (sym (e ∙ ap (λ (p : List ℕ → List ℕ → List ℕ × List ℕ). pushed 1 p draft) writes_is)) (one_more_made i draft few made)

-- what holds of an accepted push
pub of_accepted : {A E P : Type 0} (r : Result A E) (x : A) → r ≡ Ok x → OnOk r P → P
of_accepted (Ok y) x is h = h
of_accepted (Err e) x is h = absurd cc
