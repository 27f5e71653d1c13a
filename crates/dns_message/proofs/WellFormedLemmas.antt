-- Records that are read in a message are well formed.
use Rattle.std.proofs.Common.{◌≡◌, ℕ, ◌+◌, ◌^◌, ◌<◌, true, List, [], ◌∷◌, ◌++◌, length, take, drop, get_or, Some, sym, subst, append_assoc, arith}
use Rattle.std.specs.Int.{Width, w8, w16, w32, w64, w128, to_be_bytes}
use Rattle.std.specs.List.{All, AllByRecursion}
use Rattle.std.proofs.lemmas.List.{length-take}
use Rattle.std.proofs.lemmas.List.Elements.{All-from_recursion}
use Rattle.dns_wire.specs.Names.{labels_wire, wire}
use Rattle.dns_wire.specs.Pointers.{Segment, NameAt}
use Rattle.dns_wire.specs.Pointers.Segment.{at_root, at_label, at_pointer}
use Rattle.dns_wire.specs.Reading.{AreOctets}
use Rattle.dns_wire.proofs.Following.{name_at_name}
use Rattle.dns_record.specs.Fields.{Field, field_octets, fields_octets}
use Rattle.dns_record.specs.Fields.FieldOf.{CompressibleName, UncompressedName, CharacterString, CountedOctets, CharacterStrings, OtherOctets, Byte, Number}
use Rattle.dns_record.specs.InPlace.{OctetsAt, NumberAt, FieldAt, FieldsAt, RecordAt}
use Rattle.dns_record.specs.Kinds.{Kind}
use Rattle.dns_record.specs.Formats.{rdata_format}
use Rattle.dns_record.proofs.Bitmaps.{is_this_bitmap}
use Rattle.dns_record.proofs.Opted.{are_these_options}
use Rattle.dns_record.proofs.Sizes.{data_short_at}
use Rattle.dns_record.proofs.CharacterStringLemmas.{are_character_strings}
use Rattle.dns_message.specs.Messages.{Item, RecordValue, item_at, slots_from, counts_of, records_among, Valid}
use Rattle.dns_message.specs.Messages.Item.{QuestionItem, RecordItem}
use Rattle.dns_message.specs.WellFormed.{WellFormed}
use Rattle.dns_message.specs.Worded.{ItemAt, ItemsAt}
use Rattle.dns_message.proofs.Octets.{no_octets, one_more, octets_of_both, octets_from, octets_up_to, number_octets_2, number_octets_4}
use Rattle.dns_message.proofs.Phrased.{read_whole}
use Rattle.dns_message.proofs.ItemLemmas.{item_is}
use Rattle.dns_message.proofs.KindLemmas.{FitsWidth, Suits, AllSuit, is_known, is_format, format_is_format, format_parts}
use Rattle.dns_message.proofs.Whole.{data_back, parts_octets}

-- ---- octets that are in a message

standing_octets : (contents : List ℕ) (at : ℕ) (found : List ℕ) (end : ℕ) → AreOctets contents → OctetsAt contents at found end → AreOctets found
standing_octets contents at found end are is = subst AreOctets (sym is.occur) (octets_up_to (length found) (drop at contents) (octets_from at contents are))

segment_octets : (contents : List ℕ) → AreOctets contents → {start at end : ℕ} {labels : List (List ℕ)} → Segment contents start at labels end → AreOctets (wire labels)
segment_octets contents are (at_root within zero_is labels_is end_is) = rw labels_is (one_more 0 [] (omega arith) no_octets)
segment_octets contents are {start} {at} (at_label {others = others} some small room labels_is later) =
    let label = take (get_or contents at 0) (drop (at + 1) contents) in
    let long : length label < 256 = omega (arith, length-take (get_or contents at 0) (drop (at + 1) contents)) in
    let body : AreOctets (label ++ labels_wire others ++ 0 ∷ []) = subst AreOctets (sym (append_assoc label (labels_wire others) (0 ∷ [])))
    (octets_of_both label (wire others) (octets_up_to (get_or contents at 0) (drop (at + 1) contents) (octets_from (at + 1) contents are)) (segment_octets contents are later)) in
    rw labels_is (one_more (length label) (label ++ labels_wire others ++ 0 ∷ []) long body)
segment_octets contents are (at_pointer high room is before later end_is) = segment_octets contents are later

pub name_octets : (contents : List ℕ) (at : ℕ) (labels : List (List ℕ)) (end : ℕ) → AreOctets contents → NameAt contents at labels end → AreOctets (wire labels)
name_octets contents at labels end are is = segment_octets contents are is.reads

number_2 : (contents : List ℕ) (at n end : ℕ) → AreOctets contents → NumberAt contents at w16 n end → n < 2 ^ 16
number_2 contents at n end are is = let o = octets_up_to 2 (drop at contents) (octets_from at contents are) in omega (arith, is.is, o 0, o 1)

number_4 : (contents : List ℕ) (at n end : ℕ) → AreOctets contents → NumberAt contents at w32 n end → n < 2 ^ 32
number_4 contents at n end are is = let o = octets_up_to 4 (drop at contents) (octets_from at contents are) in omega (arith, is.is, o 0, o 1, o 2, o 3)

number_fits : (w : Width) (contents : List ℕ) (at n end : ℕ) → is_known (Kind.Number w) ≡ true → AreOctets contents → NumberAt contents at w n end → FitsWidth w n
number_fits w8 contents at n end known are is = absurd cc
number_fits w16 contents at n end known are is = number_2 contents at n end are is
number_fits w32 contents at n end known are is = number_4 contents at n end are is
number_fits w64 contents at n end known are is = absurd cc
number_fits w128 contents at n end known are is = absurd cc

number_octets : (w : Width) (n : ℕ) → FitsWidth w n → AreOctets (to_be_bytes w n)
number_octets w8 n fits = absurd fits
number_octets w16 n fits = number_octets_2 n
number_octets w32 n fits = number_octets_4 n
number_octets w64 n fits = absurd fits
number_octets w128 n fits = absurd fits

-- ---- fields that are in a message

field_suits : (kind : Kind) (contents : List ℕ) (at : ℕ) (f : Field) (end : ℕ) → is_known kind ≡ true → AreOctets contents → FieldAt kind contents at f end → Suits kind f
field_suits Kind.Byte contents at (Byte b) end known are is = tt
field_suits (Kind.Number w) contents at (Number v n) end known are is = (is.0, number_fits w contents at n end known are is.1)
field_suits (Kind.FixedOctets n) contents at (OtherOctets octets) end known are is = is.0
field_suits Kind.CompressibleName contents at (CompressibleName labels) end known are is = name_at_name contents at labels end is
field_suits Kind.UncompressedName contents at (UncompressedName labels) end known are is = is.name
field_suits Kind.CharacterString contents at (CharacterString octets) end known are is = tt
field_suits Kind.CountedOctets contents at (CountedOctets octets) end known are is = tt
field_suits Kind.CharacterStrings contents at (CharacterStrings octets) end known are is = are_character_strings octets is.2
field_suits Kind.Options contents at (OtherOctets octets) end known are is = are_these_options octets is.2
field_suits Kind.TypeBitMaps contents at (OtherOctets octets) end known are is = is_this_bitmap octets is.2
field_suits Kind.NonEmptyTypeBitMaps contents at (OtherOctets octets) end known are is = (omega (arith, is.3), is_this_bitmap octets is.2)
field_suits Kind.Rest contents at (OtherOctets octets) end known are is = tt
field_suits kind contents at f end known are is = absurd is

field_are : (kind : Kind) (contents : List ℕ) (at : ℕ) (f : Field) (end : ℕ) → AreOctets contents → Suits kind f → FieldAt kind contents at f end → AreOctets (field_octets f)
field_are Kind.Byte contents at (Byte b) end are fits is = standing_octets contents at (b ∷ []) end are is
field_are (Kind.Number w) contents at (Number v n) end are fits is = rw fits.0 (number_octets w n fits.1)
field_are (Kind.FixedOctets n) contents at (OtherOctets octets) end are fits is = standing_octets contents at octets end are is.1
field_are Kind.CompressibleName contents at (CompressibleName labels) end are fits is = name_octets contents at labels end are is
field_are Kind.UncompressedName contents at (UncompressedName labels) end are fits is = standing_octets contents at (wire labels) end are is.occurs
field_are Kind.CharacterString contents at (CharacterString octets) end are fits is = standing_octets contents at (length octets ∷ octets) end are is
field_are Kind.CountedOctets contents at (CountedOctets octets) end are fits is = standing_octets contents at (length octets ∷ octets) end are is
field_are Kind.CharacterStrings contents at (CharacterStrings octets) end are fits is = standing_octets contents at octets end are is.1
field_are Kind.Options contents at (OtherOctets octets) end are fits is = standing_octets contents at octets end are is.1
field_are Kind.TypeBitMaps contents at (OtherOctets octets) end are fits is = standing_octets contents at octets end are is.1
field_are Kind.NonEmptyTypeBitMaps contents at (OtherOctets octets) end are fits is = standing_octets contents at octets end are is.1
field_are Kind.Rest contents at (OtherOctets octets) end are fits is = standing_octets contents at octets end are is.1
field_are kind contents at f end are fits is = absurd is

abbrev SuitAndAre : List Kind → List Field → Type 0
SuitAndAre kinds fields = AllSuit kinds fields × AreOctets (fields_octets fields)

fields_suit : (kinds : List Kind) (contents : List ℕ) (at : ℕ) (fields : List Field) (end : ℕ) → is_format kinds ≡ true → AreOctets contents → FieldsAt kinds contents at fields end → SuitAndAre kinds fields
fields_suit [] contents at fields end rdata_format are (none, here) = subst (SuitAndAre []) (sym none) (tt, no_octets)
fields_suit (kind ∷ kinds) contents at fields end rdata_format are (field, next, others, here, is, later) =
    let parts = format_parts kind kinds rdata_format in
    let suits = field_suits kind contents at field next parts.known are here in
    let more = fields_suit kinds contents next others end parts.others are later in
    subst (SuitAndAre (kind ∷ kinds)) (sym is)
    ((suits, more.0), octets_of_both (field_octets field) (fields_octets others) (field_are kind contents at field next are suits here) more.1)

-- ---- records

pub record_well : (contents : List ℕ) (at : ℕ) (r : RecordValue) (end : ℕ) → AreOctets contents → RecordAt contents at r end → WellFormed r
record_well contents at r end are is =
    let up_to = octets_up_to end contents are in
    let found = fields_suit (rdata_format r.rtype) (take end contents) is.size_end r.content (length (take end contents)) (format_is_format r.rtype) up_to is.content in
    let small : is.size < 2 ^ 16 = number_2 contents is.ttl_end is.size is.size_end are is.size_is in
    record {
      owner = name_at_name contents at r.owner is.owner_end is.owner;
      rtype = number_2 contents is.owner_end r.rtype is.type_end are is.rtype;
      class = number_2 contents is.type_end r.class is.class_end are is.class;
      ttl = number_4 contents is.class_end r.ttl is.ttl_end are is.ttl;
      size = data_short_at r.rtype (take end contents) is.size_end r.content (omega (arith, small, is.end_is, length-take end contents)) is.content;
      content = data_back r.rtype r.content found.0;
      octets = parts_octets r.owner r.rtype r.class r.ttl (fields_octets r.content) (name_octets contents at r.owner is.owner_end are is.owner) found.1;
    }

pub record_item_well : (section : ℕ) (contents : List ℕ) (at : ℕ) (r : RecordValue) (end : ℕ) → AreOctets contents → item_at section contents at ≡ Some (RecordItem r, end) → WellFormed r
record_item_well section contents at r end are e = record_well contents at r end are (item_is section contents at (RecordItem r) end e).1

-- ---- the records of a message

items_well : (contents : List ℕ) (slots : List (ℕ × ℕ)) (at : ℕ) (items : List Item) (end : ℕ) → AreOctets contents → ItemsAt contents slots at items end → AllByRecursion WellFormed (records_among items)
items_well contents [] at items end are is = subst (λ (l : List Item). AllByRecursion WellFormed (records_among l)) (sym is.0) tt
items_well contents (slot ∷ slots) at items end are (item, next, others, here, is, later) =
    let more = items_well contents slots next others end are later in
    subst (λ (l : List Item). AllByRecursion WellFormed (records_among l)) (sym is) (by item here more) where
      by : (item : Item) → ItemAt slot.0 contents at item next → AllByRecursion WellFormed (records_among others) → AllByRecursion WellFormed (records_among (item ∷ others))
      by (QuestionItem q) here more = more
      by (RecordItem r) here more = (record_well contents at r next are here.1, more)

pub each_well : (m : List ℕ) (rs : List RecordValue) → AreOctets m → Valid m rs → AllByRecursion WellFormed rs
each_well m rs are (items, end, read, is) =
    subst (AllByRecursion WellFormed) (sym is) (items_well (drop 12 m) (slots_from 0 (counts_of m)) 0 items end (octets_from 12 m are) (read_whole m items end read).read)

pub all_well : (m : List ℕ) (rs : List RecordValue) → AreOctets m → Valid m rs → All WellFormed rs
all_well m rs are valid = All-from_recursion WellFormed rs (each_well m rs are valid)
