-- Data in which no name may have pointers are the same whatever the names of other data are seen as.
use Rattle.std.proofs.Common.{◌≡◌, ℕ, ◌<◌, ◌≤◌, Bool, true, false, cond, ltb, List, [], ◌∷◌, length, drop, ◌-◌, Option, Some, None, Result, Ok, Err, refl, sym, ap, ◌∙◌}
use Rattle.std.specs.Prelude.{map, option_map, unwrap_or, is_some, ◌==◌, ◌&&◌, ◌||◌, MatchResult, IsOkAnd}
use Rattle.std.specs.Cmp.{first_so, second_so}
use Rattle.std.proofs.lemmas.Bool.{eqb-true, lt-ltb}
use Rattle.dns_wire.proofs.AtPlaces.{all_from}
use Rattle.dns_wire.specs.Names.{plain_name}
use Rattle.dns_wire.specs.Reading.{Gives, LeavesRest, octet, octets, number, plain_at, all_of, all_at, with_end}
use Rattle.dns_wire.specs.Steps.{◌>>=◌, first_to}
use Rattle.dns_record.specs.Data.{data_as, data_in}
use Rattle.dns_record.specs.Fields.{Field, FieldOf, named_by}
use Rattle.dns_record.specs.Fields.FieldOf.{CompressibleName, UncompressedName, CharacterString, CountedOctets, CharacterStrings, OtherOctets, Byte, Number}
use Rattle.dns_record.specs.Kinds.{Kind, field_of, fields_of, fields_in, no_name}
use Rattle.dns_record.specs.DataLemmas.{uncompressed_leave}
use Rattle.dns_record.specs.Options.{options}
use Rattle.dns_record.specs.Formats.{rdata_format, rdata_formats, format_under, format_unknown, has_rdata_format}
use Rattle.dns_record.specs.CharacterStrings.{character_string, character_strings}
use Rattle.dns_record.specs.TypeBitMaps.{bitmap, some_bitmap}
use Rattle.dns_record.proofs.UncompressedNames.{is_uncompressed, all_uncompressed, is_uncompressed_format, all_placed}
use Rattle.dns_rdata.specs.Data.{as_uncompressed, data_fields, IsDataOf}
use Rattle.dns_rdata.specs.Compressible.{is_compressible_type, IsRead}
use Rattle.dns_rdata.specs.Plain.{is_uncompressed_type, no_compressible, ReadsPlain}
use Rattle.dns_rdata.specs.declared.record_data.RecordData.{RecordData}

-- ---- kinds that have no name with pointers

twice : {A B C S : Type 0} (f : A → B) (g : B → C) (o : Option (A × S)) → first_to (λ x. g (f x)) o ≡ first_to g (first_to f o)
twice f g None = refl
twice f g (Some (x, s)) = refl

plain_kind : {N : Type 0} (name : List ℕ → Option (N × List ℕ)) (kind : Kind) (bytes : List ℕ) → is_uncompressed kind ≡ true → field_of name kind bytes ≡ first_to as_uncompressed (field_of no_name kind bytes)
plain_kind name Kind.Byte bytes uncompressed = twice Byte as_uncompressed (octet bytes)
plain_kind name (Kind.Number w) bytes uncompressed = twice (Number w) as_uncompressed (number w bytes)
plain_kind name (Kind.FixedOctets n) bytes uncompressed = twice OtherOctets as_uncompressed (octets n bytes)
plain_kind name Kind.CompressibleName bytes uncompressed = absurd cc
plain_kind name Kind.UncompressedName bytes uncompressed = twice UncompressedName as_uncompressed (plain_name bytes)
plain_kind name Kind.CharacterString bytes uncompressed = twice CharacterString as_uncompressed (character_string bytes)
plain_kind name Kind.CountedOctets bytes uncompressed = twice CountedOctets as_uncompressed (character_string bytes)
plain_kind name Kind.CharacterStrings bytes uncompressed = twice CharacterStrings as_uncompressed (character_strings bytes)
plain_kind name Kind.Options bytes uncompressed = twice OtherOctets as_uncompressed (options bytes)
plain_kind name Kind.TypeBitMaps bytes uncompressed = twice OtherOctets as_uncompressed (bitmap bytes)
plain_kind name Kind.NonEmptyTypeBitMaps bytes uncompressed = twice OtherOctets as_uncompressed (some_bitmap bytes)
plain_kind name Kind.Rest bytes uncompressed = refl

abbrev put_first : {N : Type 0} → FieldOf N → Option (List (FieldOf N) × List ℕ) → Option (List (FieldOf N) × List ℕ)
put_first {N} f read = ◌>>=◌ {A = List (FieldOf N) × List ℕ} {B = List (FieldOf N) × List ℕ} read (λ others. Some (f ∷ others.0, others.1))

plain_first : {N : Type 0} (f : Field) (read : Option (List Field × List ℕ)) → put_first {N = N} (as_uncompressed f) (first_to (map as_uncompressed) read) ≡ first_to (map as_uncompressed) (put_first f read)
plain_first f None = refl
plain_first f (Some (others, rest)) = refl

-- the kinds after a field that was read
after_kind : {N : Type 0} (name : List ℕ → Option (N × List ℕ)) (kinds : List Kind) (read : Option (Field × List ℕ)) → ((rest : List ℕ) → fields_of name kinds rest ≡ first_to (map as_uncompressed) (fields_of no_name kinds rest))
    → ◌>>=◌ {A = FieldOf N × List ℕ} {B = List (FieldOf N) × List ℕ} (first_to as_uncompressed read) (λ field. put_first field.0 (fields_of name kinds field.1))
    ≡ first_to (map as_uncompressed) (◌>>=◌ {A = Field × List ℕ} {B = List Field × List ℕ} read (λ field. put_first field.0 (fields_of no_name kinds field.1)))
after_kind name kinds None again = refl
after_kind name kinds (Some (f, rest)) again = ap (put_first (as_uncompressed f)) (again rest) ∙ plain_first f (fields_of no_name kinds rest)

plain_kinds : {N : Type 0} (name : List ℕ → Option (N × List ℕ)) (kinds : List Kind) (bytes : List ℕ) → all_uncompressed kinds ≡ true → fields_of name kinds bytes ≡ first_to (map as_uncompressed) (fields_of no_name kinds bytes)
plain_kinds name [] bytes uncompressed = refl
plain_kinds {N} name (kind ∷ kinds) bytes uncompressed =
    ap (λ (read : Option (FieldOf N × List ℕ)). ◌>>=◌ {A = FieldOf N × List ℕ} {B = List (FieldOf N) × List ℕ} read (λ field. put_first field.0 (fields_of name kinds field.1))) (plain_kind name kind bytes (first_so _ _ uncompressed))
    ∙ after_kind name kinds (field_of no_name kind bytes) (λ rest. plain_kinds name kinds rest (second_so _ _ uncompressed))

-- ---- up to the end

all_of_plain : {A B : Type 0} (g : A → B) (read : Option (A × List ℕ)) → all_of (first_to g read) ≡ option_map g (all_of read)
all_of_plain g None = refl
all_of_plain g (Some (x, [])) = refl
all_of_plain g (Some (x, b ∷ rest)) = refl

end_plain : {A B : Type 0} (g : A → B) (c : List ℕ) (x : A) (end : ℕ) (b : Bool) → (end == length c) ≡ b → cond {A = Option B} b (Some (g x)) None ≡ option_map g (cond {A = Option A} b (Some x) None)
end_plain g c x end true is = refl
end_plain g c x end false is = refl

all_at_plain : {A B : Type 0} (g : A → B) (c : List ℕ) (b : Bool) (read : Option (A × List ℕ)) → all_at c (cond b None (with_end c (first_to g read))) ≡ option_map g (all_at c (cond b None (with_end c read)))
all_at_plain g c true read = refl
all_at_plain g c false None = refl
all_at_plain g c false (Some (x, rest)) = end_plain g c x (length c - length rest) ((length c - length rest) == length c) refl

uncompressed_format : (kinds : List Kind) → is_uncompressed_format kinds ≡ true → all_uncompressed kinds ≡ true
uncompressed_format [] uncompressed = absurd cc
uncompressed_format (kind ∷ kinds) uncompressed = uncompressed

-- no name at all
abbrev none_at : {N : Type 0} → List ℕ → Option (N × List ℕ)
none_at bytes = None

nothing_left : {N : Type 0} → LeavesRest (none_at {N = N})
nothing_left bytes labels rest e = absurd cc

-- ---- data

pub data_plain : {N : Type 0} (name : List ℕ → Option (N × List ℕ)) (number rtype : ℕ) (bytes : List ℕ) → rtype ≡ number → is_uncompressed_format (rdata_format number) ≡ true
    → data_as name rtype bytes ≡ option_map (map as_uncompressed) (all_of (fields_of no_name (rdata_format number) bytes))
unfolding data_as
data_plain name number rtype bytes is uncompressed = rw is (ap all_of (plain_kinds name (rdata_format number) bytes (uncompressed_format (rdata_format number) uncompressed)) ∙ all_of_plain (map as_uncompressed) (fields_of no_name (rdata_format number) bytes))

pub data_placed : {N : Type 0} (place : List ℕ → ℕ → Option (N × ℕ)) (number rtype : ℕ) (contents : List ℕ) (at : ℕ) → rtype ≡ number → is_uncompressed_format (rdata_format number) ≡ true
    → data_in place rtype contents at ≡ option_map (map as_uncompressed) (all_at contents (plain_at (fields_of no_name (rdata_format number)) contents at))
unfolding data_in
data_placed {N} place number rtype contents at is uncompressed =
    rw is (
    all_placed place none_at nothing_left (rdata_format number) contents at uncompressed
    ∙ ap (λ (read : Option (List (FieldOf N) × List ℕ)). all_at contents (cond (ltb (length contents) at) None (with_end contents read))) (plain_kinds none_at (rdata_format number) (drop at contents) (uncompressed_format (rdata_format number) uncompressed))
    ∙ all_at_plain (map as_uncompressed) contents (ltb (length contents) at) (fields_of no_name (rdata_format number) (drop at contents))
    )

-- if no name with pointers is among the kinds, they are read of octets whatever such names are seen as
pub seen_plain : {N S : Type 0} (seen : N → S) (name : List ℕ → Option (S × List ℕ)) (rtype : ℕ) (bytes : List ℕ) → is_uncompressed_type rtype ≡ true
    → data_as name rtype bytes ≡ option_map (map (named_by seen)) (data_as {N = N} no_compressible rtype bytes)
unfolding is_uncompressed_type
seen_plain {N} {S} seen name rtype bytes plain =
    data_plain name rtype rtype bytes refl plain
    ∙ sym (ap (option_map (map (named_by seen))) (data_plain {N = N} no_compressible rtype rtype bytes refl plain) ∙ same (all_of (fields_of no_name (rdata_format rtype) bytes)))
  where
    each : (fields : List Field) → map (named_by seen) (map as_uncompressed fields) ≡ map as_uncompressed fields
    each [] = refl
    each (CompressibleName labels ∷ fields) = ap (λ (l : List (FieldOf S)). UncompressedName labels ∷ l) (each fields)
    each (UncompressedName labels ∷ fields) = ap (λ (l : List (FieldOf S)). UncompressedName labels ∷ l) (each fields)
    each (CharacterString octets ∷ fields) = ap (λ (l : List (FieldOf S)). CharacterString octets ∷ l) (each fields)
    each (CountedOctets octets ∷ fields) = ap (λ (l : List (FieldOf S)). CountedOctets octets ∷ l) (each fields)
    each (CharacterStrings octets ∷ fields) = ap (λ (l : List (FieldOf S)). CharacterStrings octets ∷ l) (each fields)
    each (OtherOctets octets ∷ fields) = ap (λ (l : List (FieldOf S)). OtherOctets octets ∷ l) (each fields)
    each (Byte b ∷ fields) = ap (λ (l : List (FieldOf S)). Byte b ∷ l) (each fields)
    each (Number w n ∷ fields) = ap (λ (l : List (FieldOf S)). Number w n ∷ l) (each fields)

    same : (read : Option (List Field)) → option_map (map (named_by seen)) (option_map (map as_uncompressed) read) ≡ option_map (map as_uncompressed) read
    same None = refl
    same (Some fields) = ap Some (each fields)

-- and in a message of the octets from their place on
pub seen_placed : {N : Type 0} (place : List ℕ → ℕ → Option (N × ℕ)) (name : List ℕ → Option (N × List ℕ)) (rtype : ℕ) (contents : List ℕ) (at : ℕ) → is_uncompressed_type rtype ≡ true → at ≤ length contents
    → data_in place rtype contents at ≡ data_as name rtype (drop at contents)
unfolding is_uncompressed_type
seen_placed place name rtype contents at plain within =
    data_placed place rtype rtype contents at refl plain
    ∙ ap (option_map (map as_uncompressed)) (all_from (fields_of no_name (rdata_format rtype)) contents at (uncompressed_leave (rdata_format rtype)) within)
    ∙ sym (data_plain name rtype rtype (drop at contents) refl plain)

-- after the end there are none
pub none_placed : {N : Type 0} (place : List ℕ → ℕ → Option (N × ℕ)) (rtype : ℕ) (contents : List ℕ) (at : ℕ) → is_uncompressed_type rtype ≡ true → length contents < at → data_in place rtype contents at ≡ None
unfolding is_uncompressed_type
none_placed place rtype contents at plain trailing =
    let past : ltb (length contents) at ≡ true = lt-ltb _ _ trailing in
    data_placed place rtype rtype contents at refl plain ∙ rw past refl

-- ---- types by their numbers

abbrev all_formats_so : List (ℕ × List Kind) → Bool
all_formats_so [] = true
all_formats_so (first ∷ others) = (is_compressible_type first.0 || is_uncompressed_format first.1) && all_formats_so others

uncompressed_unless : (b : Bool) (kinds : List Kind) → b ≡ false → (b || is_uncompressed_format kinds) ≡ true → is_uncompressed_format kinds ≡ true
uncompressed_unless true kinds not so = absurd cc
uncompressed_unless false kinds not so = so

found_uncompressed : (table : List (ℕ × List Kind)) (n : ℕ) → all_formats_so table ≡ true → is_compressible_type n ≡ false → is_uncompressed_format (unwrap_or (format_under table n) format_unknown) ≡ true
found_uncompressed [] n all other = refl
found_uncompressed (first ∷ others) n all other = by (n == first.0) refl (found_uncompressed others n (second_so _ _ all) other) where
  by : (b : Bool) → (n == first.0) ≡ b → is_uncompressed_format (unwrap_or (format_under others n) format_unknown) ≡ true → is_uncompressed_format (unwrap_or (cond b (Some first.1) (format_under others n)) format_unknown) ≡ true
  by true is later = uncompressed_unless (is_compressible_type first.0) first.1 (ap is_compressible_type (sym (eqb-true n first.0 is)) ∙ other) (first_so _ _ all)
  by false is later = later

pub uncompressed_unless_compressible : (n : ℕ) → is_compressible_type n ≡ false → is_uncompressed_type n ≡ true
unfolding is_uncompressed_type
uncompressed_unless_compressible n other = found_uncompressed rdata_formats n refl other

-- a plain type is none of those
pub plain_is_not : (n named : ℕ) → is_uncompressed_type n ≡ true → is_uncompressed_type named ≡ false → (n == named) ≡ false
plain_is_not n named plain not = by (n == named) refl where
  by : (b : Bool) → (n == named) ≡ b → b ≡ false
  by false is = refl
  by true is = let both : is_uncompressed_type n ≡ false = ap is_uncompressed_type (eqb-true n named is) ∙ not in absurd cc

pub compressible_types : (is_uncompressed_type 2 ≡ false) × (is_uncompressed_type 5 ≡ false) × (is_uncompressed_type 6 ≡ false) × (is_uncompressed_type 12 ≡ false) × (is_uncompressed_type 15 ≡ false) × (is_uncompressed_type 17 ≡ false)
unfolding is_uncompressed_type
compressible_types = (refl, refl, refl, refl, refl, refl)

-- ---- types without an RDATA format

no_format : (rtype : ℕ) → has_rdata_format rtype ≡ false → rdata_format rtype ≡ format_unknown
no_format rtype none = by (format_under rdata_formats rtype) none where
  by : (found : Option (List Kind)) → is_some found ≡ false → unwrap_or found format_unknown ≡ format_unknown
  by None e = refl
  by (Some kinds) e = absurd cc

pub unknown_read : {N : Type 0} (name : List ℕ → Option (N × List ℕ)) (rtype : ℕ) (bytes : List ℕ) → has_rdata_format rtype ≡ false → data_as name rtype bytes ≡ Some (OtherOctets bytes ∷ [])
unfolding data_as
unknown_read name rtype bytes none = rw (no_format rtype none) refl

-- ---- what was read as data of one type, as data of any type

pub plain_made : {N X : Type 0} (make : X → RecordData N) (fields : X → List Field) (number rtype : ℕ) (bytes : List ℕ) (v : X) → rtype ≡ number → is_uncompressed_format (rdata_format number) ≡ true
    → (data_fields (make v) ≡ map as_uncompressed (fields v)) × IsDataOf (make v) number
    → all_of (fields_of no_name (rdata_format number) bytes) ≡ Some (fields v) → (data_as {N = N} no_compressible rtype bytes ≡ Some (data_fields (make v))) × IsDataOf (make v) rtype
plain_made make fields number rtype bytes v is uncompressed so gives = (
  data_plain no_compressible number rtype bytes is uncompressed ∙ ap (option_map (map as_uncompressed)) gives ∙ ap Some (sym so.0),
  rw is so.1,
)

-- and what was refused
pub plain_refused : {N : Type 0} (number rtype : ℕ) (bytes : List ℕ) → rtype ≡ number → is_uncompressed_format (rdata_format number) ≡ true
    → all_of (fields_of no_name (rdata_format number) bytes) ≡ None → data_as {N = N} no_compressible rtype bytes ≡ None
plain_refused number rtype bytes is uncompressed gives = data_plain no_compressible number rtype bytes is uncompressed ∙ ap (option_map (map as_uncompressed)) gives

pub compressible_given : {N S X : Type 0} (seen : N → S) (make : X → RecordData N) (fields : X → List (FieldOf N)) (number rtype : ℕ) (reads : ℕ → Option (List (FieldOf S))) (found : Option (List (FieldOf S))) (v : X) → rtype ≡ number → reads number ≡ found
    → (data_fields (make v) ≡ fields v) × IsDataOf (make v) number
    → found ≡ Some (map (named_by seen) (fields v)) → (reads rtype ≡ Some (map (named_by seen) (data_fields (make v)))) × IsDataOf (make v) rtype
compressible_given {N} seen make fields number rtype reads found v is same so gives =
    rw is (same ∙ gives ∙ ap (λ (fs : List (FieldOf N)). Some (map (named_by seen) fs)) (sym so.0), so.1)

pub compressible_refused : {S : Type 0} (number rtype : ℕ) (reads : ℕ → Option (List (FieldOf S))) (found : Option (List (FieldOf S))) → rtype ≡ number → reads number ≡ found → found ≡ None → reads rtype ≡ None
compressible_refused number rtype reads found is same gives = rw is (same ∙ gives)

-- the same of what was converted
pub compressible_made : {N S X E : Type 0} (seen : N → S) (make : X → RecordData N) (fields : X → List (FieldOf N)) (number rtype : ℕ) (reads : ℕ → Option (List (FieldOf S))) (found : Option (List (FieldOf S))) (read : Result X E) (made : Result (RecordData N) E) → rtype ≡ number → reads number ≡ found
    → ((v : X) → (data_fields (make v) ≡ fields v) × IsDataOf (make v) number)
    → Gives (λ v. map (named_by seen) (fields v)) read found → MatchResult read (λ v. IsOkAnd made (λ w. w ≡ make v)) (λ e. made ≡ Err e) → IsRead seen made rtype (reads rtype)
compressible_made seen make fields number rtype reads found (Ok v) (Ok w) is same so gives by = rw by (compressible_given seen make fields number rtype reads found v is same (so v) gives)
compressible_made seen make fields number rtype reads found (Ok v) (Err e) is same so gives by = absurd by
compressible_made seen make fields number rtype reads found (Err e) made is same so gives by = rw by (compressible_refused number rtype reads found is same gives, tt)

pub plain_read : {N S E : Type 0} (seen : N → S) (name : List ℕ → Option (S × List ℕ)) (rtype : ℕ) (bytes : List ℕ) (made : Result (RecordData N) E) → is_uncompressed_type rtype ≡ true → ReadsPlain made rtype bytes → IsRead seen made rtype (data_as name rtype bytes)
plain_read seen name rtype bytes (Ok v) plain reads = (seen_plain seen name rtype bytes plain ∙ ap (option_map (map (named_by seen))) reads.0, reads.1)
plain_read seen name rtype bytes (Err e) plain reads = (seen_plain seen name rtype bytes plain ∙ ap (option_map (map (named_by seen))) reads, tt)

-- data with names are read by their RDATA format as it is
pub compressible_read : {N : Type 0} (name : List ℕ → Option (N × List ℕ)) (number : ℕ) (bytes : List ℕ) → data_as name number bytes ≡ all_of (fields_of name (rdata_format number) bytes)
unfolding data_as
compressible_read name number bytes = refl

pub compressible_placed : {N : Type 0} (place : List ℕ → ℕ → Option (N × ℕ)) (number : ℕ) (contents : List ℕ) (at : ℕ) → data_in place number contents at ≡ all_at contents (fields_in place (rdata_format number) contents at)
unfolding data_in
compressible_placed place number contents at = refl
