-- What the RDATA format of a type reads of octets is written as the same octets.
use Rattle.std.proofs.Common.{◌≡◌, ℕ, ◌+◌, ◌<◌, Bool, true, false, cond, ltb, List, [], ◌∷◌, ◌++◌, length, take, drop, get_or, Option, Some, None, refl, sym, ap, subst, ◌∙◌, arith, append_assoc}
use Rattle.std.specs.Prelude.{◌&&◌}
use Rattle.std.specs.Cmp.{first_so, second_so}
use Rattle.std.specs.Int.{Width, w16, w32, byte_len, from_be_bytes, to_be_bytes}
use Rattle.std.proofs.lemmas.Bool.{ltb-false}
use Rattle.std.proofs.lemmas.List.{length-take, get_or-drop, take-append-drop, append-nil}
use Rattle.std.proofs.lemmas.Nat.{be_bytes_2, be_bytes_4}
use Rattle.std.proofs.lemmas.Option.{some_pair_parts}
use Rattle.dns_wire.specs.Names.{plain_name}
use Rattle.dns_wire.specs.Reading.{AreOctets, octet, octets, number, all_of}
use Rattle.dns_wire.specs.Steps.{first_to}
use Rattle.dns_wire.proofs.NamesLemmas.{plain_name_leaves}
use Rattle.dns_wire.proofs.Spelled.{plain_name_takes}
use Rattle.dns_num.proofs.CountedData.{octets_prefix}
use Rattle.dns_record.specs.Data.{data_as}
use Rattle.dns_record.specs.Fields.{Field, field_octets, fields_octets}
use Rattle.dns_record.specs.Fields.FieldOf.{CompressibleName, UncompressedName, CharacterString, CountedOctets, CharacterStrings, OtherOctets, Byte, Number}
use Rattle.dns_record.specs.Kinds.{Kind, field_of, fields_of}
use Rattle.dns_record.specs.DataLemmas.{field_leaves}
use Rattle.dns_record.specs.Options.{options, is_option_data}
use Rattle.dns_record.specs.Formats.{rdata_format}
use Rattle.dns_record.specs.CharacterStrings.{character_string, character_strings, is_txt_data}
use Rattle.dns_record.specs.TypeBitMaps.{bitmap, some_bitmap, is_bitmap}
use Rattle.dns_record.proofs.EachFormat.{of_each_format}
use Rattle.dns_record.proofs.Places.{octet_spelled, octets_spelled, text_spelled}
use Rattle.dns_record.proofs.Stepped.{stepped}

-- numbers of two octets or of four
abbrev is_usual : Kind → Bool
is_usual (Kind.Number w16) = true
is_usual (Kind.Number w32) = true
is_usual (Kind.Number w) = false
is_usual kind = true

abbrev all_usual : List Kind → Bool
all_usual [] = true
all_usual (kind ∷ kinds) = is_usual kind && all_usual kinds

-- ---- a field

-- what is put into something
pub record Put {A B : Type 0} (f : A → B) (read : Option (A × List ℕ)) (y : B) (rest : List ℕ) : Type 0 where
  pub value : A
  pub first : read ≡ Some (value, rest)
  pub is : f value ≡ y

pub put_in : {A B : Type 0} (f : A → B) (read : Option (A × List ℕ)) (y : B) (rest : List ℕ) → first_to f read ≡ Some (y, rest) → Put f read y rest
put_in f None y rest e = absurd cc
put_in {A} f (Some (x, more)) y rest e =
    let same = some_pair_parts (f x) y more rest e in
    record { value = x; first = ap (λ (l : List ℕ). Some (x, l)) same.1; is = same.0 }

tested_spelled : (good : List ℕ → Bool) (bytes found rest : List ℕ) → cond {A = Option (List ℕ × List ℕ)} (good bytes) (Some (bytes, [])) None ≡ Some (found, rest) → bytes ≡ found ++ rest
tested_spelled good bytes found rest e = by (good bytes) e where
  by : (b : Bool) → cond {A = Option (List ℕ × List ℕ)} b (Some (bytes, [])) None ≡ Some (found, rest) → bytes ≡ found ++ rest
  by false h = absurd cc
  by true h = let same = some_pair_parts bytes found [] rest h in same.0 ∙ sym (append-nil found) ∙ ap (λ (l : List ℕ). found ++ l) same.1

some_tested : (bytes found rest : List ℕ) → some_bitmap bytes ≡ Some (found, rest) → bytes ≡ found ++ rest
some_tested [] found rest e = absurd cc
some_tested (number ∷ more) found rest e = tested_spelled is_bitmap (number ∷ more) found rest e

-- a number, if its octets are written back
number_spelled : (w : Width) (bytes : List ℕ) (n : ℕ) (rest : List ℕ) → ((bs : List ℕ) (m : ℕ) → length bs ≡ byte_len w → ((i : ℕ) → get_or bs i 0 < 256) → m ≡ from_be_bytes w bs → to_be_bytes w m ≡ bs)
    → AreOctets bytes → number w bytes ≡ Some (n, rest) → bytes ≡ to_be_bytes w n ++ rest
number_spelled w bytes n rest back are e = by (ltb (length bytes) (byte_len w)) refl e where
  by : (b : Bool) → ltb (length bytes) (byte_len w) ≡ b → cond {A = Option (ℕ × List ℕ)} b None (Some (from_be_bytes w (take (byte_len w) bytes), drop (byte_len w) bytes)) ≡ Some (n, rest) → bytes ≡ to_be_bytes w n ++ rest
  by true is h = absurd cc
  by false is h =
      let same = some_pair_parts (from_be_bytes w (take (byte_len w) bytes)) n (drop (byte_len w) bytes) rest h in
      let long : length (take (byte_len w) bytes) ≡ byte_len w = omega (arith, length-take (byte_len w) bytes, ltb-false (length bytes) (byte_len w) is) in
      let written : to_be_bytes w n ≡ take (byte_len w) bytes = back (take (byte_len w) bytes) n long (octets_prefix bytes (byte_len w) are) (sym same.0) in
      sym (take-append-drop (byte_len w) bytes) ∙ ap (λ (l : List ℕ). l ++ drop (byte_len w) bytes) (sym written) ∙ ap (λ (l : List ℕ). to_be_bytes w n ++ l) same.1

-- what a function of what was put spells, its field spells
put_spelled : {A : Type 0} (f : A → Field) (read : Option (A × List ℕ)) (bytes : List ℕ) (field : Field) (rest : List ℕ) → ((v : A) → read ≡ Some (v, rest) → bytes ≡ field_octets (f v) ++ rest) → first_to f read ≡ Some (field, rest) → bytes ≡ field_octets field ++ rest
put_spelled f read bytes field rest spells e =
    let p = put_in f read field rest e in
    spells p.value p.first ∙ ap (λ (g : Field). field_octets g ++ rest) p.is

field_spelled : (kind : Kind) (bytes : List ℕ) (field : Field) (rest : List ℕ) → is_usual kind ≡ true → AreOctets bytes → field_of plain_name kind bytes ≡ Some (field, rest) → bytes ≡ field_octets field ++ rest
field_spelled Kind.Byte bytes field rest usual are e = put_spelled Byte (octet bytes) bytes field rest (λ b read. octet_spelled bytes b rest read) e
field_spelled (Kind.Number w16) bytes field rest usual are e = put_spelled (Number w16) (number w16 bytes) bytes field rest (λ n read. number_spelled w16 bytes n rest be_bytes_2 are read) e
field_spelled (Kind.Number w32) bytes field rest usual are e = put_spelled (Number w32) (number w32 bytes) bytes field rest (λ n read. number_spelled w32 bytes n rest be_bytes_4 are read) e
field_spelled (Kind.Number w) bytes field rest usual are e = absurd cc
field_spelled (Kind.FixedOctets n) bytes field rest usual are e = put_spelled OtherOctets (octets n bytes) bytes field rest (λ o read. (octets_spelled n bytes o rest read).1) e
field_spelled Kind.CompressibleName bytes field rest usual are e = put_spelled CompressibleName (plain_name bytes) bytes field rest (λ labels read. (plain_name_takes bytes labels rest read).1) e
field_spelled Kind.UncompressedName bytes field rest usual are e = put_spelled UncompressedName (plain_name bytes) bytes field rest (λ labels read. (plain_name_takes bytes labels rest read).1) e
field_spelled Kind.CharacterString bytes field rest usual are e = put_spelled CharacterString (character_string bytes) bytes field rest (λ o read. text_spelled bytes o rest read) e
field_spelled Kind.CountedOctets bytes field rest usual are e = put_spelled CountedOctets (character_string bytes) bytes field rest (λ o read. text_spelled bytes o rest read) e
field_spelled Kind.CharacterStrings bytes field rest usual are e = put_spelled CharacterStrings (character_strings bytes) bytes field rest (λ o read. tested_spelled is_txt_data bytes o rest read) e
field_spelled Kind.Options bytes field rest usual are e = put_spelled OtherOctets (options bytes) bytes field rest (λ o read. tested_spelled is_option_data bytes o rest read) e
field_spelled Kind.TypeBitMaps bytes field rest usual are e = put_spelled OtherOctets (bitmap bytes) bytes field rest (λ o read. tested_spelled is_bitmap bytes o rest read) e
field_spelled Kind.NonEmptyTypeBitMaps bytes field rest usual are e = put_spelled OtherOctets (some_bitmap bytes) bytes field rest (λ o read. some_tested bytes o rest read) e
field_spelled Kind.Rest bytes field rest usual are e =
    let same = some_pair_parts (OtherOctets bytes) field [] rest e in
    sym (append-nil bytes) ∙ ap (λ (f : Field). field_octets f ++ []) same.0 ∙ ap (λ (l : List ℕ). field_octets field ++ l) same.1

-- ---- fields one after another

trailing : (bytes rest : List ℕ) (count : ℕ) → rest ≡ drop count bytes → AreOctets bytes → AreOctets rest
trailing bytes rest count is are = subst AreOctets (sym is) (λ i. rw (get_or-drop count bytes i 0) (are (count + i)))

fields_spelled : (kinds : List Kind) (bytes : List ℕ) (fields : List Field) (rest : List ℕ) → all_usual kinds ≡ true → AreOctets bytes → fields_of plain_name kinds bytes ≡ Some (fields, rest) → bytes ≡ fields_octets fields ++ rest
fields_spelled [] bytes fields rest usual are e =
    let same = some_pair_parts [] fields bytes rest e in
    same.1 ∙ ap (λ (fs : List Field). fields_octets fs ++ rest) same.0
fields_spelled (kind ∷ kinds) bytes fields rest usual are e =
    let f = stepped (field_of plain_name kind bytes) _ (fields, rest) e in
    let o = stepped (fields_of plain_name kinds f.value.1) _ (fields, rest) f.later in
    let same = some_pair_parts (f.value.0 ∷ o.value.0) fields o.value.1 rest o.later in
    let here : bytes ≡ field_octets f.value.0 ++ f.value.1 = field_spelled kind bytes f.value.0 f.value.1 (first_so _ _ usual) are f.first in
    let left = field_leaves plain_name plain_name_leaves kind bytes f.value.0 f.value.1 f.first in
    let there : f.value.1 ≡ fields_octets o.value.0 ++ o.value.1 = fields_spelled kinds f.value.1 o.value.0 o.value.1 (second_so _ _ usual) (trailing bytes f.value.1 left.count left.rest_is are) o.first in
    here ∙ ap (λ (l : List ℕ). field_octets f.value.0 ++ l) there ∙ sym (append_assoc (field_octets f.value.0) (fields_octets o.value.0) o.value.1)
    ∙ ap (λ (fs : List Field). fields_octets fs ++ o.value.1) same.0 ∙ ap (λ (l : List ℕ). fields_octets fields ++ l) same.1

-- ---- data

pub data_spelled : (rtype : ℕ) (bytes : List ℕ) (fields : List Field) → AreOctets bytes → data_as plain_name rtype bytes ≡ Some fields → fields_octets fields ≡ bytes
unfolding data_as
data_spelled rtype bytes fields are e = by (fields_of plain_name (rdata_format rtype) bytes) refl e where
  by : (read : Option (List Field × List ℕ)) → fields_of plain_name (rdata_format rtype) bytes ≡ read → all_of read ≡ Some fields → fields_octets fields ≡ bytes
  by None is h = absurd cc
  by (Some (found, [])) is h =
      let same : found ≡ fields = cc in
      ap fields_octets (sym same) ∙ sym (append-nil (fields_octets found)) ∙ sym (fields_spelled (rdata_format rtype) bytes found [] (of_each_format all_usual refl rtype) are is)
  by (Some (found, x ∷ rest)) is h = absurd cc
