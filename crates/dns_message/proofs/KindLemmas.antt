-- Which fields a kind can have; and that octets are read as the fields that are written so.
use Rattle.std.proofs.Common.{◌≡◌, ℕ, ◌^◌, ◌<◌, ◌≤◌, Bool, true, false, cond, ltb, List, [], ◌∷◌, ◌++◌, length, take, drop, Option, Some, None, refl, sym, ap, subst, ◌∙◌, append_assoc, append-nil, arith}
use Rattle.std.specs.Prelude.{◌&&◌, ◌||◌, not}
use Rattle.std.specs.Cmp.{first_so, second_so}
use Rattle.std.specs.Int.{Width, w8, w16, w32, w64, w128, to_be_bytes, from_be_bytes}
use Rattle.std.proofs.lemmas.Bool.{le-ltb, ltb-false}
use Rattle.std.proofs.lemmas.Nat.{be_bytes_2, be_bytes_4, from_be_bytes-to_be_bytes_2, from_be_bytes-to_be_bytes_4}
use Rattle.std.proofs.lemmas.List.{take_at, drop_at, take-append-drop, length-append, length-take}
use Rattle.std.proofs.lemmas.Option.{some_pair_parts}
use Rattle.dns_wire.specs.Names.{wire, IsName, plain_name}
use Rattle.dns_wire.specs.Reading.{AreOctets, octet, octets, number}
use Rattle.dns_wire.specs.Steps.{◌>>=◌, first_to}
use Rattle.dns_wire.proofs.Spelled.{plain_name_takes, plain_name_again}
use Rattle.dns_record.specs.Fields.{Field, field_octets, fields_octets}
use Rattle.dns_record.specs.Fields.FieldOf.{CompressibleName, UncompressedName, CharacterString, CountedOctets, CharacterStrings, OtherOctets, Byte, Number}
use Rattle.dns_record.specs.Kinds.{Kind, field_of, fields_of}
use Rattle.dns_record.specs.Options.{options, is_option_data}
use Rattle.dns_record.specs.Formats.{rdata_format}
use Rattle.dns_record.specs.CharacterStrings.{character_string, character_strings, is_txt_data}
use Rattle.dns_record.specs.TypeBitMaps.{bitmap, some_bitmap, is_bitmap}
use Rattle.dns_record.proofs.EachFormat.{of_each_format}
use Rattle.dns_record.proofs.Places.{octet_spelled, octets_spelled, octets_read, text_spelled, text_read}
use Rattle.dns_record.proofs.Stepped.{stepped}
use Rattle.dns_message.proofs.Octets.{octets_up_to, octets_after}

-- ---- which fields

abbrev pub FitsWidth : Width → ℕ → Type 0
FitsWidth w16 n = n < 2 ^ 16
FitsWidth w32 n = n < 2 ^ 32
FitsWidth w n = ⊥

-- a field of this kind
abbrev pub Suits : Kind → Field → Type 0
Suits Kind.Byte (Byte b) = Unit {0}
Suits (Kind.Number w) (Number v n) = (v ≡ w) × FitsWidth w n
Suits (Kind.FixedOctets n) (OtherOctets octets) = length octets ≡ n
Suits Kind.CompressibleName (CompressibleName labels) = IsName labels
Suits Kind.UncompressedName (UncompressedName labels) = IsName labels
Suits Kind.CharacterString (CharacterString octets) = Unit {0}
Suits Kind.CountedOctets (CountedOctets octets) = Unit {0}
Suits Kind.CharacterStrings (CharacterStrings octets) = is_txt_data octets ≡ true
Suits Kind.Options (OtherOctets octets) = is_option_data octets ≡ true
Suits Kind.TypeBitMaps (OtherOctets octets) = is_bitmap octets ≡ true
Suits Kind.NonEmptyTypeBitMaps (OtherOctets octets) = (0 < length octets) × (is_bitmap octets ≡ true)
Suits Kind.Rest (OtherOctets octets) = Unit {0}
Suits kind field = ⊥

-- fields of these kinds
abbrev pub AllSuit : List Kind → List Field → Type 0
AllSuit [] [] = Unit {0}
AllSuit (kind ∷ kinds) (field ∷ fields) = Suits kind field × AllSuit kinds fields
AllSuit kinds fields = ⊥

-- ---- RDATA formats

-- a kind that reads all that is left
abbrev pub is_last : Kind → Bool
is_last Kind.CharacterStrings = true
is_last Kind.Options = true
is_last Kind.TypeBitMaps = true
is_last Kind.NonEmptyTypeBitMaps = true
is_last Kind.Rest = true
is_last kind = false

-- numbers in RDATA formats have two octets or four
abbrev pub is_known : Kind → Bool
is_known (Kind.Number w16) = true
is_known (Kind.Number w32) = true
is_known (Kind.Number w) = false
is_known kind = true

abbrev pub is_none : List Kind → Bool
is_none [] = true
is_none (kind ∷ kinds) = false

-- only the last kind reads all that is left
abbrev pub is_format : List Kind → Bool
is_format [] = true
is_format (kind ∷ kinds) = is_known kind && ((not (is_last kind) || is_none kinds) && is_format kinds)

pub format_is_format : (rtype : ℕ) → is_format (rdata_format rtype) ≡ true
format_is_format rtype = of_each_format is_format refl rtype

pub record FormatParts (kind : Kind) (kinds : List Kind) : Type 0 where
  pub known : is_known kind ≡ true
  pub last : (not (is_last kind) || is_none kinds) ≡ true
  pub others : is_format kinds ≡ true

pub format_parts : (kind : Kind) (kinds : List Kind) → is_format (kind ∷ kinds) ≡ true → FormatParts kind kinds
format_parts kind kinds rdata_format =
    let more = second_so (is_known kind) ((not (is_last kind) || is_none kinds) && is_format kinds) rdata_format in
    record {
      known = first_so (is_known kind) ((not (is_last kind) || is_none kinds) && is_format kinds) rdata_format;
      last = first_so (not (is_last kind) || is_none kinds) (is_format kinds) more;
      others = second_so (not (is_last kind) || is_none kinds) (is_format kinds) more;
    }

-- ---- fields are read from their octets

number_2 : (n : ℕ) (rest : List ℕ) → n < 2 ^ 16 → number w16 (to_be_bytes w16 n ++ rest) ≡ Some (n, rest)
number_2 n rest h =
    let fits : ltb (length (to_be_bytes w16 n ++ rest)) 2 ≡ false = le-ltb _ _ (omega (arith, length-append (to_be_bytes w16 n) rest)) in
    let prefix : take 2 (to_be_bytes w16 n ++ rest) ≡ to_be_bytes w16 n = take_at (to_be_bytes w16 n) rest 2 refl in
    let back : drop 2 (to_be_bytes w16 n ++ rest) ≡ rest = drop_at (to_be_bytes w16 n) rest 2 refl in
    ap (λ (b : Bool). cond {A = Option (ℕ × List ℕ)} b None (Some (from_be_bytes w16 (take 2 (to_be_bytes w16 n ++ rest)), drop 2 (to_be_bytes w16 n ++ rest)))) fits
    ∙ ap (λ (l : List ℕ). Some (from_be_bytes w16 l, drop 2 (to_be_bytes w16 n ++ rest))) prefix
    ∙ ap (λ (k : ℕ). Some (k, drop 2 (to_be_bytes w16 n ++ rest))) (from_be_bytes-to_be_bytes_2 n h)
    ∙ ap (λ (l : List ℕ). Some (n, l)) back

number_4 : (n : ℕ) (rest : List ℕ) → n < 2 ^ 32 → number w32 (to_be_bytes w32 n ++ rest) ≡ Some (n, rest)
number_4 n rest h =
    let fits : ltb (length (to_be_bytes w32 n ++ rest)) 4 ≡ false = le-ltb _ _ (omega (arith, length-append (to_be_bytes w32 n) rest)) in
    let prefix : take 4 (to_be_bytes w32 n ++ rest) ≡ to_be_bytes w32 n = take_at (to_be_bytes w32 n) rest 4 refl in
    let back : drop 4 (to_be_bytes w32 n ++ rest) ≡ rest = drop_at (to_be_bytes w32 n) rest 4 refl in
    ap (λ (b : Bool). cond {A = Option (ℕ × List ℕ)} b None (Some (from_be_bytes w32 (take 4 (to_be_bytes w32 n ++ rest)), drop 4 (to_be_bytes w32 n ++ rest)))) fits
    ∙ ap (λ (l : List ℕ). Some (from_be_bytes w32 l, drop 4 (to_be_bytes w32 n ++ rest))) prefix
    ∙ ap (λ (k : ℕ). Some (k, drop 4 (to_be_bytes w32 n ++ rest))) (from_be_bytes-to_be_bytes_4 n h)
    ∙ ap (λ (l : List ℕ). Some (n, l)) back

pub number_back : (w : Width) (n : ℕ) (rest : List ℕ) → FitsWidth w n → number w (to_be_bytes w n ++ rest) ≡ Some (n, rest)
number_back w8 n rest h = absurd h
number_back w16 n rest h = number_2 n rest h
number_back w32 n rest h = number_4 n rest h
number_back w64 n rest h = absurd h
number_back w128 n rest h = absurd h

name_back : (labels : List (List ℕ)) (rest : List ℕ) → IsName labels → plain_name (wire labels ++ rest) ≡ Some (labels, rest)
name_back labels rest is = plain_name_again (wire labels ++ rest) labels rest is refl

whole_back : (to : List ℕ → Field) (b : Bool) (o : List ℕ) → b ≡ true → ◌≡◌ {A = Option (Field × List ℕ)} (first_to to (cond {A = Option (List ℕ × List ℕ)} b (Some (o, [])) None)) (Some (to o, []))
whole_back to b o e = rw e refl

some_back : (o : List ℕ) → 0 < length o → is_bitmap o ≡ true → ◌≡◌ {A = Option (Field × List ℕ)} (first_to OtherOctets (some_bitmap o)) (Some (OtherOctets o, []))
some_back [] some e = absurd (omega arith)
some_back (x ∷ o) some e = rw e refl

pub field_back : (kind : Kind) (f : Field) (rest : List ℕ) → Suits kind f → (is_last kind ≡ true → rest ≡ []) → field_of plain_name kind (field_octets f ++ rest) ≡ Some (f, rest)
field_back Kind.Byte (Byte b) rest is last = refl
field_back (Kind.Number w) (Number v n) rest is last = rw is.0 (ap (first_to (Number w)) (number_back w n rest is.1))
field_back (Kind.FixedOctets n) (OtherOctets o) rest is last = ap (first_to OtherOctets) (octets_read n o rest is)
field_back Kind.CompressibleName (CompressibleName labels) rest is last = ap (first_to CompressibleName) (name_back labels rest is)
field_back Kind.UncompressedName (UncompressedName labels) rest is last = ap (first_to UncompressedName) (name_back labels rest is)
field_back Kind.CharacterString (CharacterString o) rest is last = ap (first_to CharacterString) (text_read o rest)
field_back Kind.CountedOctets (CountedOctets o) rest is last = ap (first_to CountedOctets) (text_read o rest)
field_back Kind.CharacterStrings (CharacterStrings o) rest is last = rw (last refl, append-nil) (whole_back CharacterStrings (is_txt_data o) o is)
field_back Kind.Options (OtherOctets o) rest is last = rw (last refl, append-nil) (whole_back OtherOctets (is_option_data o) o is)
field_back Kind.TypeBitMaps (OtherOctets o) rest is last = rw (last refl, append-nil) (whole_back OtherOctets (is_bitmap o) o is)
field_back Kind.NonEmptyTypeBitMaps (OtherOctets o) rest is last =
    ap (λ (l : List ℕ). first_to OtherOctets (some_bitmap (o ++ l))) (last refl) ∙ ap (λ (l : List ℕ). first_to OtherOctets (some_bitmap l)) (append-nil o)
    ∙ some_back o is.0 is.1 ∙ ap (λ (l : List ℕ). Some (OtherOctets o, l)) (sym (last refl))
field_back Kind.Rest (OtherOctets o) rest is last = rw (last refl, append-nil) refl
field_back kind f rest is last = absurd is

last_none : (b : Bool) (kinds : List Kind) → b ≡ true → (not b || is_none kinds) ≡ true → is_none kinds ≡ true
last_none true kinds e h = h
last_none false kinds e h = absurd cc

nothing_written : (kinds : List Kind) (fs : List Field) → is_none kinds ≡ true → AllSuit kinds fs → fields_octets fs ≡ []
nothing_written [] [] e is = refl
nothing_written [] (f ∷ fs) e is = absurd is
nothing_written (kind ∷ kinds) fs e is = absurd cc

pub fields_back : (kinds : List Kind) (fs : List Field) → is_format kinds ≡ true → AllSuit kinds fs → fields_of plain_name kinds (fields_octets fs) ≡ Some (fs, [])
fields_back [] [] rdata_format is = refl
fields_back [] (f ∷ fs) rdata_format is = absurd is
fields_back (kind ∷ kinds) [] rdata_format is = absurd is
fields_back (kind ∷ kinds) (f ∷ fs) rdata_format is =
    let parts = format_parts kind kinds rdata_format in
    rw (field_back kind f (fields_octets fs) is.0 (λ e. nothing_written kinds fs (last_none (is_last kind) kinds e parts.last) is.1), fields_back kinds fs parts.others is.1) refl

-- ---- what is read is written so

-- a kind reads this field from these octets
pub record Reads (kind : Kind) (f : Field) (bytes rest : List ℕ) : Type 0 where
  pub suits : Suits kind f
  pub parts : bytes ≡ field_octets f ++ rest

record Counted (n : ℕ) (bytes : List ℕ) {A : Type 0} (x y : A) (rest : List ℕ) : Type 0 where
  enough : n ≤ length bytes
  same : x ≡ y
  left : drop n bytes ≡ rest

counted : {A : Type 0} (b : Bool) (n : ℕ) (bytes : List ℕ) (x y : A) (rest : List ℕ) → ltb (length bytes) n ≡ b → ◌≡◌ {A = Option (A × List ℕ)} (cond b None (Some (x, drop n bytes))) (Some (y, rest)) → Counted n bytes x y rest
counted true n bytes x y rest is e = absurd cc
counted false n bytes x y rest is e = let same = some_pair_parts x y (drop n bytes) rest e in record { enough = ltb-false _ _ is; same = same.0; left = same.1 }

number_reads : (w : Width) (n : ℕ) (bytes rest : List ℕ) → is_known (Kind.Number w) ≡ true → AreOctets bytes → number w bytes ≡ Some (n, rest) → FitsWidth w n × (bytes ≡ to_be_bytes w n ++ rest)
number_reads w8 n bytes rest known h e = absurd cc
number_reads w16 n bytes rest known h e =
    let c = counted (ltb (length bytes) 2) 2 bytes (from_be_bytes w16 (take 2 bytes)) n rest refl e in
    let o = octets_up_to 2 bytes h in
    let spelled : to_be_bytes w16 n ≡ take 2 bytes = be_bytes_2 (take 2 bytes) n (omega (arith, c.enough, length-take 2 bytes)) o (sym c.same) in
    (omega (arith, c.same, o 0, o 1), sym (take-append-drop 2 bytes) ∙ rw (sym spelled, c.left) refl)
number_reads w32 n bytes rest known h e =
    let c = counted (ltb (length bytes) 4) 4 bytes (from_be_bytes w32 (take 4 bytes)) n rest refl e in
    let o = octets_up_to 4 bytes h in
    let spelled : to_be_bytes w32 n ≡ take 4 bytes = be_bytes_4 (take 4 bytes) n (omega (arith, c.enough, length-take 4 bytes)) o (sym c.same) in
    (omega (arith, c.same, o 0, o 1, o 2, o 3), sym (take-append-drop 4 bytes) ∙ rw (sym spelled, c.left) refl)
number_reads w64 n bytes rest known h e = absurd cc
number_reads w128 n bytes rest known h e = absurd cc

-- what is put into a field
record Put {A : Type 0} (to : A → Field) (read : Option (A × List ℕ)) (f : Field) (rest : List ℕ) : Type 0 where
  value : A
  found : read ≡ Some (value, rest)
  field_is : to value ≡ f

put_is : {A : Type 0} (to : A → Field) (read : Option (A × List ℕ)) (f : Field) (rest : List ℕ) → first_to to read ≡ Some (f, rest) → Put to read f rest
put_is to None f rest e = absurd cc
put_is to (Some (x, later)) f rest e = let same = some_pair_parts (to x) f later rest e in record { value = x; found = ap (λ (r : List ℕ). Some (x, r)) same.1; field_is = same.0 }

reads_as : {A : Type 0} (kind : Kind) (to : A → Field) (read : Option (A × List ℕ)) (f : Field) (bytes rest : List ℕ) → first_to to read ≡ Some (f, rest)
    → ((x : A) → read ≡ Some (x, rest) → Suits kind (to x) × (bytes ≡ field_octets (to x) ++ rest)) → Reads kind f bytes rest
reads_as kind to read f bytes rest e by =
    let p = put_is to read f rest e in
    let h = by p.value p.found in
    subst (λ (g : Field). Reads kind g bytes rest) p.field_is (record { suits = h.0; parts = h.1 })

whole_reads : (b : Bool) (o bytes rest : List ℕ) → ◌≡◌ {A = Option (List ℕ × List ℕ)} (cond b (Some (bytes, [])) None) (Some (o, rest)) → (b ≡ true) × (bytes ≡ o) × (rest ≡ [])
whole_reads true o bytes rest e = let same = some_pair_parts bytes o [] rest e in (refl, same.0, sym same.1)
whole_reads false o bytes rest e = absurd cc

all_reads : (good : List ℕ → Bool) (o bytes rest : List ℕ) → ◌≡◌ {A = Option (List ℕ × List ℕ)} (cond (good bytes) (Some (bytes, [])) None) (Some (o, rest)) → (good o ≡ true) × (bytes ≡ o ++ rest)
all_reads good o bytes rest e =
    let h = whole_reads (good bytes) o bytes rest e in
    (ap good (sym h.1) ∙ h.0, h.1 ∙ sym (ap (λ (l : List ℕ). o ++ l) h.2 ∙ append-nil o))

some_reads : (o bytes rest : List ℕ) → some_bitmap bytes ≡ Some (o, rest) → (0 < length o) × (is_bitmap o ≡ true) × (bytes ≡ o ++ rest)
some_reads o [] rest e = absurd cc
some_reads o (x ∷ bytes) rest e =
    let w = whole_reads (is_bitmap (x ∷ bytes)) o (x ∷ bytes) rest e in
    let h = all_reads is_bitmap o (x ∷ bytes) rest e in
    (omega (arith, ap length w.1), h.0, h.1)

field_reads : (kind : Kind) (f : Field) (bytes rest : List ℕ) → is_known kind ≡ true → AreOctets bytes → field_of plain_name kind bytes ≡ Some (f, rest) → Reads kind f bytes rest
field_reads Kind.Byte f bytes rest known h e = reads_as Kind.Byte Byte (octet bytes) f bytes rest e (λ x r. (tt, octet_spelled bytes x rest r))
field_reads (Kind.Number w) f bytes rest known h e = reads_as (Kind.Number w) (Number w) (number w bytes) f bytes rest e (λ x r. let k = number_reads w x bytes rest known h r in ((refl, k.0), k.1))
field_reads (Kind.FixedOctets n) f bytes rest known h e = reads_as (Kind.FixedOctets n) OtherOctets (octets n bytes) f bytes rest e (λ x r. octets_spelled n bytes x rest r)
field_reads Kind.CompressibleName f bytes rest known h e = reads_as Kind.CompressibleName CompressibleName (plain_name bytes) f bytes rest e (λ x r. plain_name_takes bytes x rest r)
field_reads Kind.UncompressedName f bytes rest known h e = reads_as Kind.UncompressedName UncompressedName (plain_name bytes) f bytes rest e (λ x r. plain_name_takes bytes x rest r)
field_reads Kind.CharacterString f bytes rest known h e = reads_as Kind.CharacterString CharacterString (character_string bytes) f bytes rest e (λ x r. (tt, text_spelled bytes x rest r))
field_reads Kind.CountedOctets f bytes rest known h e = reads_as Kind.CountedOctets CountedOctets (character_string bytes) f bytes rest e (λ x r. (tt, text_spelled bytes x rest r))
field_reads Kind.CharacterStrings f bytes rest known h e = reads_as Kind.CharacterStrings CharacterStrings (character_strings bytes) f bytes rest e (λ x r. all_reads is_txt_data x bytes rest r)
field_reads Kind.Options f bytes rest known h e = reads_as Kind.Options OtherOctets (options bytes) f bytes rest e (λ x r. all_reads is_option_data x bytes rest r)
field_reads Kind.TypeBitMaps f bytes rest known h e = reads_as Kind.TypeBitMaps OtherOctets (bitmap bytes) f bytes rest e (λ x r. all_reads is_bitmap x bytes rest r)
field_reads Kind.NonEmptyTypeBitMaps f bytes rest known h e = reads_as Kind.NonEmptyTypeBitMaps OtherOctets (some_bitmap bytes) f bytes rest e (λ x r. let k = some_reads x bytes rest r in ((k.0, k.1), k.2))
field_reads Kind.Rest f bytes rest known h e =
    let same = some_pair_parts (OtherOctets bytes) f [] rest e in
    subst (λ (g : Field). Reads Kind.Rest g bytes rest) same.0 (record { suits = tt; parts = sym (ap (λ (l : List ℕ). bytes ++ l) (sym same.1) ∙ append-nil bytes) })

abbrev ReadsAll : List Kind → List Field → List ℕ → List ℕ → Type 0
ReadsAll kinds fs bytes rest = AllSuit kinds fs × (bytes ≡ fields_octets fs ++ rest)

pub fields_read : (kinds : List Kind) (fs : List Field) (bytes rest : List ℕ) → is_format kinds ≡ true → AreOctets bytes → fields_of plain_name kinds bytes ≡ Some (fs, rest) → AllSuit kinds fs × (bytes ≡ fields_octets fs ++ rest)
fields_read [] fs bytes rest rdata_format h e = let same = some_pair_parts [] fs bytes rest e in subst (λ (gs : List Field). ReadsAll [] gs bytes rest) same.0 (tt, same.1)
fields_read (kind ∷ kinds) fs bytes rest rdata_format h e =
    let parts = format_parts kind kinds rdata_format in
    let s = stepped (field_of plain_name kind bytes) (λ field. ◌>>=◌ {A = List Field × List ℕ} {B = List Field × List ℕ} (fields_of plain_name kinds field.1) (λ others. Some (field.0 ∷ others.0, others.1))) (fs, rest) e in
    let t = stepped (fields_of plain_name kinds s.value.1) (λ others. Some (s.value.0 ∷ others.0, others.1)) (fs, rest) s.later in
    let same = some_pair_parts (s.value.0 ∷ t.value.0) fs t.value.1 rest t.later in
    let here = field_reads kind s.value.0 bytes s.value.1 parts.known h s.first in
    let trailing = octets_after (field_octets s.value.0) s.value.1 (subst AreOctets here.parts h) in
    let there = fields_read kinds t.value.0 s.value.1 t.value.1 parts.others trailing t.first in
    let whole : bytes ≡ fields_octets (s.value.0 ∷ t.value.0) ++ rest =
    here.parts ∙ ap (λ (l : List ℕ). field_octets s.value.0 ++ l) (there.1 ∙ ap (λ (l : List ℕ). fields_octets t.value.0 ++ l) same.1)
    ∙ sym (append_assoc (field_octets s.value.0) (fields_octets t.value.0) rest) in
    subst (λ (gs : List Field). ReadsAll (kind ∷ kinds) gs bytes rest) same.0 ((here.suits, there.0), whole)
