-- What records write in a message whose names report their own layout.
use Rattle.std.proofs.Common.{◌≡◌, ℕ, List, [], ◌∷◌, Option, Some, refl, ap, subst, ◌∙◌}
use Rattle.std.specs.Prelude.{map}
use Rattle.dns_wire.specs.Compression.{CompressedWrite, compressed_name_writes}
use Rattle.dns_wire.specs.Layout.{LayoutPart, part_writes, laid, LayoutMatches}
use Rattle.dns_wire.specs.Layout.LayoutPart.{NamePart}
use Rattle.dns_wire.specs.LayoutLemmas.{list_writes-one}
use Rattle.dns_record.specs.Fields.{FieldOf, named_by}
use Rattle.dns_record.specs.Fields.FieldOf.{CompressibleName, UncompressedName, CharacterString, CountedOctets, CharacterStrings, OtherOctets, Byte, Number}
use Rattle.dns_record.specs.InMessage.{fixed_header, record_writes, fields_write, fields_layout}
use Rattle.dns_record.specs.Seen.{record_seen}
use Rattle.dns_record.proofs.FieldLayoutLemmas.{fields_match}
use Rattle.dns_record.specs.declared.record.Record.{Record}
use Rattle.dns_rdata.specs.Data.{data_fields}
use Rattle.dns_rdata.specs.declared.record_data.RecordData.{RecordData}
use Rattle.dns_message.specs.Built.{field_part, built}

module _ {N : Type 0} (writes : N → CompressedWrite) (layout : N → Option (List LayoutPart)) (matches : (n : N) → LayoutMatches (layout n) (writes n)) (name : N → List (List ℕ)) (named : (n : N) → layout n ≡ Some (NamePart (name n) ∷ [])) where
  owner_compressed : (n : N) → writes n ≡ compressed_name_writes (name n)
  owner_compressed n =
      let each : (c k : List ℕ) → writes n c k ≡ laid (NamePart (name n) ∷ []) c k = subst (λ (t : Option (List LayoutPart)). LayoutMatches t (writes n)) (named n) (matches n) in
      λ i c k. (each c k ∙ list_writes-one part_writes (NamePart (name n)) c k) i

  fields_layout_matches : (fields : List (FieldOf N)) → fields_layout layout fields ≡ Some (map field_part (map (named_by name) fields))
  fields_layout_matches [] = refl
  fields_layout_matches (CompressibleName n ∷ fields) = rw (named n, fields_layout_matches fields) refl
  fields_layout_matches (UncompressedName labels ∷ fields) = rw (fields_layout_matches fields) refl
  fields_layout_matches (CharacterString octets ∷ fields) = rw (fields_layout_matches fields) refl
  fields_layout_matches (CountedOctets octets ∷ fields) = rw (fields_layout_matches fields) refl
  fields_layout_matches (CharacterStrings octets ∷ fields) = rw (fields_layout_matches fields) refl
  fields_layout_matches (OtherOctets octets ∷ fields) = rw (fields_layout_matches fields) refl
  fields_layout_matches (Byte b ∷ fields) = rw (fields_layout_matches fields) refl
  fields_layout_matches (Number w n ∷ fields) = rw (fields_layout_matches fields) refl

  pub content_compressed : (fields : List (FieldOf N)) → fields_write writes fields ≡ laid (map field_part (map (named_by name) fields))
  content_compressed fields =
      let each : (c k : List ℕ) → fields_write writes fields c k ≡ laid (map field_part (map (named_by name) fields)) c k = subst (λ (t : Option (List LayoutPart)). LayoutMatches t (fields_write writes fields)) (fields_layout_matches fields) (fields_match writes layout matches fields) in
      λ i c k. each c k i

  pub record_built : (r : Record N (RecordData N)) → record_writes (writes r.rname) (fixed_header r.rtype.code.value r.rclass.code.value r.ttl.value.value) (fields_write writes (data_fields r.rdata)) ≡ built (record_seen name (λ v. map (named_by name) (data_fields v)) r)
  record_built r =
      let numbers = fixed_header r.rtype.code.value r.rclass.code.value r.ttl.value.value in
      ap (λ (o : CompressedWrite). record_writes o numbers (fields_write writes (data_fields r.rdata))) (owner_compressed r.rname)
      ∙ ap (λ (d : CompressedWrite). record_writes (compressed_name_writes (name r.rname)) numbers d) (content_compressed (data_fields r.rdata))
