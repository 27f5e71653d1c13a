-- The octets of a field that is no name stay as they are.
use Rattle.std.proofs.Common.{◌≡◌, ℕ, ◌+◌, ◌-◌, ◌<◌, ◌≤◌, Bool, true, false, cond, ltb, List, [], ◌∷◌, ◌++◌, length, take, drop, get_or, Option, Some, None, refl, sym, ap, ◌∙◌, arith}
use Rattle.std.specs.Int.{Width, w16, w32, byte_len, from_be_bytes, to_be_bytes}
use Rattle.std.proofs.lemmas.Bool.{le-ltb, ltb-false}
use Rattle.std.proofs.lemmas.List.{length-append, length-drop, length-take, get_or-drop, take-append-drop, append-nil}
use Rattle.std.proofs.Math.Seq.{take-append_seam}
use Rattle.std.proofs.lemmas.Nat.{be_bytes_2, be_bytes_4}
use Rattle.std.proofs.lemmas.Option.{some_pair_parts}
use Rattle.dns_wire.specs.Names.{plain_name}
use Rattle.dns_wire.specs.Pointers.{name_at}
use Rattle.dns_wire.specs.Reading.{AreOctets, octet, octets, number, with_end}
use Rattle.dns_wire.specs.Steps.{first_to}
use Rattle.dns_wire.proofs.NamesLemmas.{plain_name_leaves}
use Rattle.dns_wire.proofs.Spelled.{plain_name_takes}
use Rattle.dns_num.proofs.CountedData.{octets_prefix}
use Rattle.dns_record.specs.Fields.{Field, field_octets, lowercased_field}
use Rattle.dns_record.specs.Fields.FieldOf.{CompressibleName, UncompressedName, CharacterString, CountedOctets, CharacterStrings, OtherOctets, Byte, Number}
use Rattle.dns_record.specs.Kinds.{Kind, field_in, field_of}
use Rattle.dns_record.specs.Options.{options, is_option_data}
use Rattle.dns_record.specs.CharacterStrings.{character_string, character_strings, is_txt_data}
use Rattle.dns_record.specs.TypeBitMaps.{bitmap, some_bitmap, is_bitmap}
use Rattle.dns_record.proofs.Places.{octet_spelled, octets_spelled, text_spelled}
use Rattle.dns_record.proofs.UncompressedNames.{field_placed, is_uncompressed}
use Rattle.dns_record.specs.FieldKinds.{is_name_kind, kind_of}
use Rattle.dns_message.specs.LowercaseFields.{KeepsField}
use Rattle.dns_record.specs.declared.field_kind.FieldKind.{FieldKind}
use Rattle.dns_record.specs.declared.field_kind.FieldKind.TheVariants as code

-- numbers of two octets or of four
abbrev pub is_usual : Kind → Bool
is_usual (Kind.Number w16) = true
is_usual (Kind.Number w32) = true
is_usual (Kind.Number w) = false
is_usual kind = true

-- ---- a field

-- what is put into something
pub record Put {A B : Type 0} (f : A → B) (read : Option (A × List ℕ)) (y : B) (rest : List ℕ) : Type 0 where
  pub value : A
  pub first : read ≡ Some (value, rest)
  pub is : f value ≡ y

pub put_in : {A B : Type 0} (f : A → B) (read : Option (A × List ℕ)) (y : B) (rest : List ℕ) → first_to f read ≡ Some (y, rest) → Put f read y rest
put_in f None y rest e = absurd cc
put_in {A} f (Some (x, more)) y rest e =
    let same = some_pair_parts (f x) y more rest e in
    record { value = x; first = ap (λ (l : List ℕ). Some (x, l)) same.1; is = same.0 }

tested_spelled : (good : List ℕ → Bool) (bytes found rest : List ℕ) → cond {A = Option (List ℕ × List ℕ)} (good bytes) (Some (bytes, [])) None ≡ Some (found, rest) → bytes ≡ found ++ rest
tested_spelled good bytes found rest e = by (good bytes) e where
  by : (b : Bool) → cond {A = Option (List ℕ × List ℕ)} b (Some (bytes, [])) None ≡ Some (found, rest) → bytes ≡ found ++ rest
  by false h = absurd cc
  by true h = let same = some_pair_parts bytes found [] rest h in same.0 ∙ sym (append-nil found) ∙ ap (λ (l : List ℕ). found ++ l) same.1

some_tested : (bytes found rest : List ℕ) → some_bitmap bytes ≡ Some (found, rest) → bytes ≡ found ++ rest
some_tested [] found rest e = absurd cc
some_tested (number ∷ more) found rest e = tested_spelled is_bitmap (number ∷ more) found rest e

-- a number, if its octets are written back
number_spelled : (w : Width) (bytes : List ℕ) (n : ℕ) (rest : List ℕ) → ((bs : List ℕ) (m : ℕ) → length bs ≡ byte_len w → ((i : ℕ) → get_or bs i 0 < 256) → m ≡ from_be_bytes w bs → to_be_bytes w m ≡ bs)
    → AreOctets bytes → number w bytes ≡ Some (n, rest) → bytes ≡ to_be_bytes w n ++ rest
number_spelled w bytes n rest back are e = by (ltb (length bytes) (byte_len w)) refl e where
  by : (b : Bool) → ltb (length bytes) (byte_len w) ≡ b → cond {A = Option (ℕ × List ℕ)} b None (Some (from_be_bytes w (take (byte_len w) bytes), drop (byte_len w) bytes)) ≡ Some (n, rest) → bytes ≡ to_be_bytes w n ++ rest
  by true is h = absurd cc
  by false is h =
      let same = some_pair_parts (from_be_bytes w (take (byte_len w) bytes)) n (drop (byte_len w) bytes) rest h in
      let long : length (take (byte_len w) bytes) ≡ byte_len w = omega (arith, length-take (byte_len w) bytes, ltb-false (length bytes) (byte_len w) is) in
      let written : to_be_bytes w n ≡ take (byte_len w) bytes = back (take (byte_len w) bytes) n long (octets_prefix bytes (byte_len w) are) (sym same.0) in
      sym (take-append-drop (byte_len w) bytes) ∙ ap (λ (l : List ℕ). l ++ drop (byte_len w) bytes) (sym written) ∙ ap (λ (l : List ℕ). to_be_bytes w n ++ l) same.1

-- what a function of what was put spells, its field spells
put_spelled : {A : Type 0} (f : A → Field) (read : Option (A × List ℕ)) (bytes : List ℕ) (field : Field) (rest : List ℕ) → ((v : A) → read ≡ Some (v, rest) → bytes ≡ field_octets (f v) ++ rest) → first_to f read ≡ Some (field, rest) → bytes ≡ field_octets field ++ rest
put_spelled f read bytes field rest spells e =
    let p = put_in f read field rest e in
    spells p.value p.first ∙ ap (λ (g : Field). field_octets g ++ rest) p.is

field_spelled : (kind : Kind) (bytes : List ℕ) (field : Field) (rest : List ℕ) → is_usual kind ≡ true → AreOctets bytes → field_of plain_name kind bytes ≡ Some (field, rest) → bytes ≡ field_octets field ++ rest
field_spelled Kind.Byte bytes field rest usual are e = put_spelled Byte (octet bytes) bytes field rest (λ b read. octet_spelled bytes b rest read) e
field_spelled (Kind.Number w16) bytes field rest usual are e = put_spelled (Number w16) (number w16 bytes) bytes field rest (λ n read. number_spelled w16 bytes n rest be_bytes_2 are read) e
field_spelled (Kind.Number w32) bytes field rest usual are e = put_spelled (Number w32) (number w32 bytes) bytes field rest (λ n read. number_spelled w32 bytes n rest be_bytes_4 are read) e
field_spelled (Kind.Number w) bytes field rest usual are e = absurd cc
field_spelled (Kind.FixedOctets n) bytes field rest usual are e = put_spelled OtherOctets (octets n bytes) bytes field rest (λ o read. (octets_spelled n bytes o rest read).1) e
field_spelled Kind.CompressibleName bytes field rest usual are e = put_spelled CompressibleName (plain_name bytes) bytes field rest (λ labels read. (plain_name_takes bytes labels rest read).1) e
field_spelled Kind.UncompressedName bytes field rest usual are e = put_spelled UncompressedName (plain_name bytes) bytes field rest (λ labels read. (plain_name_takes bytes labels rest read).1) e
field_spelled Kind.CharacterString bytes field rest usual are e = put_spelled CharacterString (character_string bytes) bytes field rest (λ o read. text_spelled bytes o rest read) e
field_spelled Kind.CountedOctets bytes field rest usual are e = put_spelled CountedOctets (character_string bytes) bytes field rest (λ o read. text_spelled bytes o rest read) e
field_spelled Kind.CharacterStrings bytes field rest usual are e = put_spelled CharacterStrings (character_strings bytes) bytes field rest (λ o read. tested_spelled is_txt_data bytes o rest read) e
field_spelled Kind.Options bytes field rest usual are e = put_spelled OtherOctets (options bytes) bytes field rest (λ o read. tested_spelled is_option_data bytes o rest read) e
field_spelled Kind.TypeBitMaps bytes field rest usual are e = put_spelled OtherOctets (bitmap bytes) bytes field rest (λ o read. tested_spelled is_bitmap bytes o rest read) e
field_spelled Kind.NonEmptyTypeBitMaps bytes field rest usual are e = put_spelled OtherOctets (some_bitmap bytes) bytes field rest (λ o read. some_tested bytes o rest read) e
field_spelled Kind.Rest bytes field rest usual are e =
    let same = some_pair_parts (OtherOctets bytes) field [] rest e in
    sym (append-nil bytes) ∙ ap (λ (f : Field). field_octets f ++ []) same.0 ∙ ap (λ (l : List ℕ). field_octets field ++ l) same.1

-- ---- kinds that are no names

usual : (kind : FieldKind) → is_usual (kind_of kind) ≡ true
usual (code.Fixed n) = refl
usual code.CompressibleName = refl
usual code.UncompressedName = refl
usual code.CharacterString = refl
usual code.CountedOctets = refl
usual code.CharacterStrings = refl
usual code.Options = refl
usual code.TypeBitMaps = refl
usual code.NonEmptyTypeBitMaps = refl
usual code.Rest = refl

kept_uncompressed : (kind : FieldKind) → is_name_kind kind ≡ false → is_uncompressed (kind_of kind) ≡ true
kept_uncompressed (code.Fixed n) kept = refl
kept_uncompressed code.CompressibleName kept = absurd cc
kept_uncompressed code.UncompressedName kept = absurd cc
kept_uncompressed code.CharacterString kept = refl
kept_uncompressed code.CountedOctets kept = refl
kept_uncompressed code.CharacterStrings kept = refl
kept_uncompressed code.Options kept = refl
kept_uncompressed code.TypeBitMaps kept = refl
kept_uncompressed code.NonEmptyTypeBitMaps kept = refl
kept_uncompressed code.Rest kept = refl

-- and names are of two kinds
pub other_name : (kind : FieldKind) → is_name_kind kind ≡ true → (kind ≡ code.CompressibleName → ⊥) → kind ≡ code.UncompressedName
other_name (code.Fixed n) named other = absurd cc
other_name code.CompressibleName named other = absurd (other refl)
other_name code.UncompressedName named other = refl
other_name code.CharacterString named other = absurd cc
other_name code.CountedOctets named other = absurd cc
other_name code.CharacterStrings named other = absurd cc
other_name code.Options named other = absurd cc
other_name code.TypeBitMaps named other = absurd cc
other_name code.NonEmptyTypeBitMaps named other = absurd cc
other_name code.Rest named other = absurd cc

-- what was put into something that has no name
stays : {A : Type 0} (f : A → Field) (read : Option (A × List ℕ)) (field : Field) (rest : List ℕ) → ((v : A) → lowercased_field (f v) ≡ f v) → first_to f read ≡ Some (field, rest) → lowercased_field field ≡ field
stays f read field rest same e =
    let p = put_in f read field rest e in
    ap lowercased_field (sym p.is) ∙ same p.value ∙ p.is

-- a field of another kind has nothing in lowercase
kept_stays : (kind : FieldKind) (bytes : List ℕ) (field : Field) (rest : List ℕ) → is_name_kind kind ≡ false → field_of plain_name (kind_of kind) bytes ≡ Some (field, rest) → lowercased_field field ≡ field
kept_stays (code.Fixed n) bytes field rest kept e = stays OtherOctets (octets n bytes) field rest (λ v. refl) e
kept_stays code.CompressibleName bytes field rest kept e = absurd cc
kept_stays code.UncompressedName bytes field rest kept e = absurd cc
kept_stays code.CharacterString bytes field rest kept e = stays CharacterString (character_string bytes) field rest (λ v. refl) e
kept_stays code.CountedOctets bytes field rest kept e = stays CountedOctets (character_string bytes) field rest (λ v. refl) e
kept_stays code.CharacterStrings bytes field rest kept e = stays CharacterStrings (character_strings bytes) field rest (λ v. refl) e
kept_stays code.Options bytes field rest kept e = stays OtherOctets (options bytes) field rest (λ v. refl) e
kept_stays code.TypeBitMaps bytes field rest kept e = stays OtherOctets (bitmap bytes) field rest (λ v. refl) e
kept_stays code.NonEmptyTypeBitMaps bytes field rest kept e = stays OtherOctets (some_bitmap bytes) field rest (λ v. refl) e
kept_stays code.Rest bytes field rest kept e = let same = (some_pair_parts (OtherOctets bytes) field [] rest e).0 in ap lowercased_field (sym same) ∙ same

-- ---- such a field at a place

module _ (kind : FieldKind) (contents : List ℕ) (start : ℕ) (kept : is_name_kind kind ≡ false) (within : start ≤ length contents) where
  placed : field_in name_at (kind_of kind) contents start ≡ with_end contents (field_of plain_name (kind_of kind) (drop start contents))
  placed =
      let there : ltb (length contents) start ≡ false = le-ltb _ _ within in
      field_placed name_at plain_name plain_name_leaves (kind_of kind) contents start (kept_uncompressed kind kept) ∙ rw there refl

  pub not_kept : field_of plain_name (kind_of kind) (drop start contents) ≡ None → KeepsField (field_in name_at (kind_of kind) contents start) contents start None
  not_kept none = placed ∙ ap (with_end contents) none

  pub is_kept : (field : Field) (rest : List ℕ) (next : ℕ) → AreOctets contents → field_of plain_name (kind_of kind) (drop start contents) ≡ Some (field, rest) → next ≡ length contents - length rest
      → KeepsField (field_in name_at (kind_of kind) contents start) contents start (Some next)
  is_kept field rest next are read is =
      let bytes = drop start contents in
      let spelled : bytes ≡ field_octets field ++ rest = field_spelled (kind_of kind) bytes field rest (usual kind) (λ i. rw (get_or-drop start contents i 0) (are (start + i))) read in
      let long : length contents - start ≡ length (field_octets field) + length rest = sym (length-drop start contents) ∙ ap length spelled ∙ length-append (field_octets field) rest in
      let size : next - start ≡ length (field_octets field) = omega (arith, long, is, within) in (
        field,
        placed ∙ ap (with_end contents) read ∙ ap (λ (n : ℕ). Some (field, n)) (sym is),
        omega (arith, long, is, within),
        omega (arith, is),
        ap (λ (n : ℕ). take n bytes) size ∙ ap (take (length (field_octets field))) spelled ∙ take-append_seam (field_octets field) rest ∙ ap field_octets (sym (kept_stays kind bytes field rest kept read)),
      )
