-- Questions, records and their fields as functions and as relations are the same.
use Rattle.std.proofs.Common.{◌≡◌, ℕ, ◌-◌, ◌≤◌, Bool, true, false, cond, ltb, take_all, List, [], ◌∷◌, ◌++◌, length, take, drop, Option, Some, None, refl, sym, ap, subst, ◌∙◌, arith}
use Rattle.std.specs.Prelude.{◌==◌}
use Rattle.std.specs.Int.{Width, w16}
use Rattle.std.proofs.lemmas.Bool.{le-ltb}
use Rattle.std.proofs.lemmas.Bool.Decides.{nat_tests}
use Rattle.std.proofs.lemmas.List.{length-drop, length-take, append-nil}
use Rattle.std.proofs.lemmas.Option.{some_pair_parts}
use Rattle.dns_wire.specs.Names.{wire, plain_name}
use Rattle.dns_wire.specs.Pointers.{name_at}
use Rattle.dns_wire.specs.Reading.{octet, octets, number, plain_at, all_at}
use Rattle.dns_wire.specs.ReadingLemmas.{then_some}
use Rattle.dns_wire.specs.Steps.{◌>>=◌, first_to}
use Rattle.dns_wire.proofs.Following.{name_at_is, name_at_finds}
use Rattle.dns_wire.proofs.Spelled.{plain_name_takes, plain_name_again}
use Rattle.dns_record.specs.Data.{data_in}
use Rattle.dns_record.specs.Fields.{Field}
use Rattle.dns_record.specs.Fields.FieldOf.{CompressibleName, UncompressedName, CharacterString, CountedOctets, CharacterStrings, OtherOctets, Byte, Number}
use Rattle.dns_record.specs.InPlace.{OctetsAt, NumberAt, AreCharacterStrings, AreOptions, AreWindows, FieldAt, FieldsAt, DataAt, QuestionAt, RecordAt}
use Rattle.dns_record.specs.Kinds.{Kind, field_in, fields_in}
use Rattle.dns_record.specs.Questions.{QuestionOf, question_in}
use Rattle.dns_record.specs.Records.{RecordOf, Parts, record_of, parts_at, record_in}
use Rattle.dns_record.specs.Formats.{rdata_format}
use Rattle.dns_record.specs.Options.{options, is_option_data}
use Rattle.dns_record.specs.CharacterStrings.{character_string, character_strings, is_txt_data}
use Rattle.dns_record.specs.TypeBitMaps.{bitmap, some_bitmap, is_bitmap}
use Rattle.dns_record.proofs.Bitmaps.{bitmap_is, is_this_bitmap}
use Rattle.dns_record.proofs.Opted.{options_are, are_these_options}
use Rattle.dns_record.proofs.CharacterStringLemmas.{are_character_strings, character_strings_are}
use Rattle.dns_record.proofs.PartsLemmas.{parts_are_at, parts_found_at}
use Rattle.dns_record.proofs.Places.{placed, occurs_at, read_at, read_placed, octet_spelled, octets_spelled, octets_read, text_spelled, text_read, number_at, read_number}

-- ---- steps

record Stepped {A B : Type 0} (read : Option A) (more : A → Option B) (y : B) : Type 0 where
  value : A
  first : read ≡ Some value
  later : more value ≡ Some y

stepped : {A B : Type 0} (read : Option A) (more : A → Option B) (y : B) → ◌>>=◌ {A = A} {B = B} read more ≡ Some y → Stepped read more y
stepped None more y e = absurd cc
stepped (Some x) more y e = record { value = x; first = refl; later = e }

-- what is put into something
record Put {A B : Type 0} (f : A → B) (read : Option (A × ℕ)) (y : B) (end : ℕ) : Type 0 where
  value : A
  first : read ≡ Some (value, end)
  is : f value ≡ y

put_in : {A B : Type 0} (f : A → B) (read : Option (A × ℕ)) (y : B) (end : ℕ) → first_to f read ≡ Some (y, end) → Put f read y end
put_in f None y end e = absurd cc
put_in {A} f (Some (x, rest)) y end e =
    let same = some_pair_parts (f x) y rest end e in
    record { value = x; first = ap (λ (n : ℕ). Some (x, n)) same.1; is = same.0 }

-- ---- fields

rest_spelled : (contents : List ℕ) (at : ℕ) (found : List ℕ) (end : ℕ) → plain_at (λ bytes. Some (bytes, [])) contents at ≡ Some (found, end) → (end ≡ length contents) × OctetsAt contents at found end
rest_spelled contents at found end e =
    let p = placed (λ bytes. Some (bytes, [])) contents at found end e in
    let same = some_pair_parts (drop at contents) found [] p.rest p.read in (
      omega (arith, p.end_is, ap length same.1),
      occurs_at (λ bytes. Some (bytes, [])) (λ o. o) contents at found end (λ rest read. let both = some_pair_parts (drop at contents) found [] rest read in both.0 ∙ sym (append-nil found) ∙ ap (λ (l : List ℕ). found ++ l) both.1) e,
    )

-- all the octets, if they pass a test
abbrev tested : (List ℕ → Bool) → List ℕ → Option (List ℕ × List ℕ)
tested good bytes = cond (good bytes) (Some (bytes, [])) None

module _ (good : List ℕ → Bool) (Is : List ℕ → Type 0) where
  tested_whole : (bytes found rest : List ℕ) → tested good bytes ≡ Some (found, rest) → bytes ≡ found ++ rest
  tested_whole bytes found rest e = by (good bytes) e where
    by : (b : Bool) → cond {A = Option (List ℕ × List ℕ)} b (Some (bytes, [])) None ≡ Some (found, rest) → bytes ≡ found ++ rest
    by false h = absurd cc
    by true h = let same = some_pair_parts bytes found [] rest h in same.0 ∙ sym (append-nil found) ∙ ap (λ (l : List ℕ). found ++ l) same.1

  tested_spelled : ((bytes : List ℕ) → good bytes ≡ true → Is bytes) → (contents : List ℕ) (at : ℕ) (found : List ℕ) (end : ℕ) → plain_at (tested good) contents at ≡ Some (found, end) → (end ≡ length contents) × OctetsAt contents at found end × Is found
  tested_spelled is_so contents at found end e =
      let p = placed (tested good) contents at found end e in
      by (good (drop at contents)) refl p.rest p.end_is p.read where
        by : (b : Bool) → good (drop at contents) ≡ b → (rest : List ℕ) → end ≡ length contents - length rest → cond {A = Option (List ℕ × List ℕ)} b (Some (drop at contents, [])) None ≡ Some (found, rest)
            → (end ≡ length contents) × OctetsAt contents at found end × Is found
        by false is rest end_is h = absurd cc
        by true is rest end_is h =
            let same = some_pair_parts (drop at contents) found [] rest h in (
              omega (arith, end_is, ap length same.1),
              occurs_at (tested good) (λ o. o) contents at found end (λ left read. tested_whole (drop at contents) found left read) e,
              subst Is same.0 (is_so (drop at contents) is),
            )

  tested_read : (contents : List ℕ) (at : ℕ) (found : List ℕ) (end : ℕ) → end ≡ length contents → OctetsAt contents at found end → good found ≡ true → plain_at (tested good) contents at ≡ Some (found, end)
  tested_read contents at found end whole o is =
      let fits : ltb (length contents) at ≡ false = le-ltb _ _ (omega (arith, o.end_is, o.within)) in
      let all : drop at contents ≡ found = sym (take_all (length found) (drop at contents) (omega (arith, o.end_is, whole, length-drop at contents))) ∙ sym o.occur in
      let here : tested good (drop at contents) ≡ Some (found, []) = ap (tested good) all ∙ rw is refl in
      let last : length contents - 0 ≡ end = omega (arith, whole) in
      rw (fits, here) (ap (λ (n : ℕ). Some (found, n)) last)

some_tested : (bytes found rest : List ℕ) → some_bitmap bytes ≡ Some (found, rest) → (bitmap bytes ≡ Some (found, rest)) × (1 ≤ length bytes)
some_tested [] found rest e = absurd cc
some_tested (number ∷ more) found rest e = (e, omega arith)

some_spelled : (contents : List ℕ) (at : ℕ) (found : List ℕ) (end : ℕ) → plain_at some_bitmap contents at ≡ Some (found, end) → (end ≡ length contents) × OctetsAt contents at found end × AreWindows found × (1 ≤ length found)
some_spelled contents at found end e =
    let p = placed some_bitmap contents at found end e in
    let b = some_tested (drop at contents) found p.rest p.read in
    let t = tested_spelled is_bitmap AreWindows bitmap_is contents at found end (read_placed bitmap contents at found end (record { within = p.within; rest = p.rest; read = b.0; end_is = p.end_is })) in
    (t.0, t.1, t.2, omega (arith, b.1, t.0, t.1.end_is, length-drop at contents, p.within))

some_read : (found : List ℕ) → 1 ≤ length found → some_bitmap found ≡ bitmap found
some_read [] some = absurd (omega arith)
some_read (number ∷ rest) some = refl

some_found : (contents : List ℕ) (at : ℕ) (found : List ℕ) (end : ℕ) → end ≡ length contents → OctetsAt contents at found end → AreWindows found → 1 ≤ length found → plain_at some_bitmap contents at ≡ Some (found, end)
some_found contents at found end whole o is some =
    let p = placed bitmap contents at found end (tested_read is_bitmap AreWindows contents at found end whole o (is_this_bitmap found is)) in
    let long : 1 ≤ length (drop at contents) = omega (arith, some, whole, o.end_is, length-drop at contents) in
    read_placed some_bitmap contents at found end (record { within = p.within; rest = p.rest; read = some_read (drop at contents) long ∙ p.read; end_is = p.end_is })

field_is : (kind : Kind) (contents : List ℕ) (at : ℕ) (field : Field) (end : ℕ) → field_in name_at kind contents at ≡ Some (field, end) → FieldAt kind contents at field end
field_is Kind.Byte contents at field end e =
    let p = put_in Byte (plain_at octet contents at) field end e in
    subst (λ (f : Field). FieldAt Kind.Byte contents at f end) p.is (occurs_at octet (λ b. b ∷ []) contents at p.value end (λ rest read. octet_spelled (drop at contents) p.value rest read) p.first)
field_is (Kind.Number w) contents at field end e =
    let p = put_in (Number w) (plain_at (number w) contents at) field end e in
    subst (λ (f : Field). FieldAt (Kind.Number w) contents at f end) p.is (refl, number_at w contents at p.value end p.first)
field_is (Kind.FixedOctets n) contents at field end e =
    let p = put_in OtherOctets (plain_at (octets n) contents at) field end e in
    let q = placed (octets n) contents at p.value end p.first in
    subst (λ (f : Field). FieldAt (Kind.FixedOctets n) contents at f end) p.is
    ((octets_spelled n (drop at contents) p.value q.rest q.read).0, occurs_at (octets n) (λ o. o) contents at p.value end (λ rest read. (octets_spelled n (drop at contents) p.value rest read).1) p.first)
field_is Kind.CompressibleName contents at field end e =
    let p = put_in CompressibleName (name_at contents at) field end e in
    subst (λ (f : Field). FieldAt Kind.CompressibleName contents at f end) p.is (name_at_is contents at p.value end p.first)
field_is Kind.UncompressedName contents at field end e =
    let p = put_in UncompressedName (plain_at plain_name contents at) field end e in
    let q = placed plain_name contents at p.value end p.first in
    subst (λ (f : Field). FieldAt Kind.UncompressedName contents at f end) p.is
    (record {
      name = (plain_name_takes (drop at contents) p.value q.rest q.read).0;
      occurs = occurs_at plain_name wire contents at p.value end (λ rest read. (plain_name_takes (drop at contents) p.value rest read).1) p.first;
    })
field_is Kind.CharacterString contents at field end e =
    let p = put_in CharacterString (plain_at character_string contents at) field end e in
    subst (λ (f : Field). FieldAt Kind.CharacterString contents at f end) p.is (occurs_at character_string (λ o. length o ∷ o) contents at p.value end (λ rest read. text_spelled (drop at contents) p.value rest read) p.first)
field_is Kind.CountedOctets contents at field end e =
    let p = put_in CountedOctets (plain_at character_string contents at) field end e in
    subst (λ (f : Field). FieldAt Kind.CountedOctets contents at f end) p.is (occurs_at character_string (λ o. length o ∷ o) contents at p.value end (λ rest read. text_spelled (drop at contents) p.value rest read) p.first)
field_is Kind.CharacterStrings contents at field end e =
    let p = put_in CharacterStrings (plain_at character_strings contents at) field end e in
    subst (λ (f : Field). FieldAt Kind.CharacterStrings contents at f end) p.is (tested_spelled is_txt_data AreCharacterStrings character_strings_are contents at p.value end p.first)
field_is Kind.Options contents at field end e =
    let p = put_in OtherOctets (plain_at options contents at) field end e in
    subst (λ (f : Field). FieldAt Kind.Options contents at f end) p.is (tested_spelled is_option_data AreOptions options_are contents at p.value end p.first)
field_is Kind.TypeBitMaps contents at field end e =
    let p = put_in OtherOctets (plain_at bitmap contents at) field end e in
    subst (λ (f : Field). FieldAt Kind.TypeBitMaps contents at f end) p.is (tested_spelled is_bitmap AreWindows bitmap_is contents at p.value end p.first)
field_is Kind.NonEmptyTypeBitMaps contents at field end e =
    let p = put_in OtherOctets (plain_at some_bitmap contents at) field end e in
    subst (λ (f : Field). FieldAt Kind.NonEmptyTypeBitMaps contents at f end) p.is (some_spelled contents at p.value end p.first)
field_is Kind.Rest contents at field end e =
    let p = put_in OtherOctets (plain_at (λ bytes. Some (bytes, [])) contents at) field end e in
    subst (λ (f : Field). FieldAt Kind.Rest contents at f end) p.is (rest_spelled contents at p.value end p.first)

rest_read : (contents : List ℕ) (at : ℕ) (found : List ℕ) (end : ℕ) → end ≡ length contents → OctetsAt contents at found end → plain_at (λ bytes. Some (bytes, [])) contents at ≡ Some (found, end)
rest_read contents at found end whole o =
    let fits : ltb (length contents) at ≡ false = le-ltb _ _ (omega (arith, o.end_is, o.within)) in
    let all : drop at contents ≡ found = sym (take_all (length found) (drop at contents) (omega (arith, o.end_is, whole, length-drop at contents))) ∙ sym o.occur in
    let last : length contents - 0 ≡ end = omega (arith, whole) in
    rw fits (ap (λ (l : List ℕ). Some (l, length contents - 0)) all ∙ ap (λ (n : ℕ). Some (found, n)) last)

field_found : (kind : Kind) (contents : List ℕ) (at : ℕ) (field : Field) (end : ℕ) → FieldAt kind contents at field end → field_in name_at kind contents at ≡ Some (field, end)
field_found Kind.Byte contents at (Byte b) end h = ap (first_to Byte) (read_at octet (λ b. b ∷ []) contents at b end (λ rest. refl) h)
field_found (Kind.Number w) contents at (Number v n) end h =
    let read : first_to (Number w) (plain_at (number w) contents at) ≡ Some (Number w n, end) = ap (first_to (Number w)) (read_number w contents at n end h.1) in
    read ∙ ap (λ (u : Width). Some (Number u n, end)) (sym h.0)
field_found (Kind.FixedOctets n) contents at (OtherOctets found) end h = ap (first_to OtherOctets) (read_at (octets n) (λ o. o) contents at found end (λ rest. octets_read n found rest h.0) h.1)
field_found Kind.CompressibleName contents at (CompressibleName labels) end h = ap (first_to CompressibleName) (name_at_finds contents at labels end h)
field_found Kind.UncompressedName contents at (UncompressedName labels) end h = ap (first_to UncompressedName) (read_at plain_name wire contents at labels end (λ rest. plain_name_again (wire labels ++ rest) labels rest h.name refl) h.occurs)
field_found Kind.CharacterString contents at (CharacterString found) end h = ap (first_to CharacterString) (read_at character_string (λ o. length o ∷ o) contents at found end (λ rest. text_read found rest) h)
field_found Kind.CountedOctets contents at (CountedOctets found) end h = ap (first_to CountedOctets) (read_at character_string (λ o. length o ∷ o) contents at found end (λ rest. text_read found rest) h)
field_found Kind.CharacterStrings contents at (CharacterStrings found) end h = ap (first_to CharacterStrings) (tested_read is_txt_data AreCharacterStrings contents at found end h.0 h.1 (are_character_strings found h.2))
field_found Kind.Options contents at (OtherOctets found) end h = ap (first_to OtherOctets) (tested_read is_option_data AreOptions contents at found end h.0 h.1 (are_these_options found h.2))
field_found Kind.TypeBitMaps contents at (OtherOctets found) end h = ap (first_to OtherOctets) (tested_read is_bitmap AreWindows contents at found end h.0 h.1 (is_this_bitmap found h.2))
field_found Kind.NonEmptyTypeBitMaps contents at (OtherOctets found) end h = ap (first_to OtherOctets) (some_found contents at found end h.0 h.1 h.2 h.3)
field_found Kind.Rest contents at (OtherOctets found) end h = ap (first_to OtherOctets) (rest_read contents at found end h.0 h.1)
field_found kind contents at field end h = absurd h

-- ---- fields one after another

pub fields_are : (kinds : List Kind) (contents : List ℕ) (at : ℕ) (fields : List Field) (end : ℕ) → fields_in name_at kinds contents at ≡ Some (fields, end) → FieldsAt kinds contents at fields end
fields_are [] contents at fields end e = let same = some_pair_parts [] fields at end e in (sym same.0, sym same.1)
fields_are (kind ∷ kinds) contents at fields end e =
    let s = stepped (field_in name_at kind contents at) (λ field. ◌>>=◌ {A = List Field × ℕ} {B = List Field × ℕ} (fields_in name_at kinds contents field.1) (λ others. Some (field.0 ∷ others.0, others.1))) (fields, end) e in
    let t = stepped (fields_in name_at kinds contents s.value.1) (λ others. Some (s.value.0 ∷ others.0, others.1)) (fields, end) s.later in
    let same = some_pair_parts (s.value.0 ∷ t.value.0) fields t.value.1 end t.later in (
      s.value.0,
      s.value.1,
      t.value.0,
      field_is kind contents at s.value.0 s.value.1 s.first,
      sym same.0,
      subst (λ (n : ℕ). FieldsAt kinds contents s.value.1 t.value.0 n) same.1 (fields_are kinds contents s.value.1 t.value.0 t.value.1 t.first),
    )

pub fields_found : (kinds : List Kind) (contents : List ℕ) (at : ℕ) (fields : List Field) (end : ℕ) → FieldsAt kinds contents at fields end → fields_in name_at kinds contents at ≡ Some (fields, end)
fields_found [] contents at fields end (none, here) = rw (none, here) refl
fields_found (kind ∷ kinds) contents at fields end (field, next, others, here, is, later) =
    let first : field_in name_at kind contents at ≡ Some (field, next) = field_found kind contents at field next here in
    let rest : fields_in name_at kinds contents next ≡ Some (others, end) = fields_found kinds contents next others end later in
    rw (first, rest, is) refl

-- ---- data

pub data_is : (rtype : ℕ) (contents : List ℕ) (at : ℕ) (fields : List Field) → data_in name_at rtype contents at ≡ Some fields → DataAt rtype contents at fields
unfolding data_in
data_is rtype contents at fields e = by (fields_in name_at (rdata_format rtype) contents at) refl e where
  whole : (found : List Field) (end : ℕ) → fields_in name_at (rdata_format rtype) contents at ≡ Some (found, end) → (b : Bool) → (end == length contents) ≡ b → cond b (Some found) None ≡ Some fields → DataAt rtype contents at fields
  whole found end is false ends h = absurd cc
  whole found end is true ends h =
      let same : found ≡ fields = cc in
      let last : end ≡ length contents = grind (arith, nat_tests, ends) in
      subst (λ (l : List Field). FieldsAt (rdata_format rtype) contents at l (length contents)) same (subst (λ (n : ℕ). FieldsAt (rdata_format rtype) contents at found n) last (fields_are (rdata_format rtype) contents at found end is))

  by : (read : Option (List Field × ℕ)) → fields_in name_at (rdata_format rtype) contents at ≡ read → all_at contents read ≡ Some fields → DataAt rtype contents at fields
  by None is h = absurd cc
  by (Some (found, end)) is h = whole found end is (end == length contents) refl h

pub data_found : (rtype : ℕ) (contents : List ℕ) (at : ℕ) (fields : List Field) → DataAt rtype contents at fields → data_in name_at rtype contents at ≡ Some fields
unfolding data_in
data_found rtype contents at fields h =
    let ends : (length contents == length contents) ≡ true = grind (arith, nat_tests) in
    let read : all_at contents (fields_in name_at (rdata_format rtype) contents at) ≡ all_at contents (Some (fields, length contents)) = ap (all_at contents) (fields_found (rdata_format rtype) contents at fields (length contents) h) in
    read ∙ rw ends refl

-- ---- questions

abbrev QuestionItem : Type 0
QuestionItem = QuestionOf (List (List ℕ)) × ℕ

pub question_is : (contents : List ℕ) (at : ℕ) (question : QuestionOf (List (List ℕ))) (end : ℕ) → question_in name_at contents at ≡ Some (question, end) → QuestionAt contents at question end
unfolding question_in
question_is contents at question end e =
    let s = stepped {B = QuestionItem} (name_at contents at) (λ asked. plain_at (number w16) contents asked.1 >>= (λ qtype. plain_at (number w16) contents qtype.1 >>= (λ class. Some (record { name = asked.0; qtype = qtype.0; class = class.0 }, class.1)))) (question, end) e in
    let t = stepped {B = QuestionItem} (plain_at (number w16) contents s.value.1) (λ qtype. plain_at (number w16) contents qtype.1 >>= (λ class. Some (record { name = s.value.0; qtype = qtype.0; class = class.0 }, class.1))) (question, end) s.later in
    let u = stepped {B = QuestionItem} (plain_at (number w16) contents t.value.1) (λ class. Some (record { name = s.value.0; qtype = t.value.0; class = class.0 }, class.1)) (question, end) t.later in
    let same = some_pair_parts (record { name = s.value.0; qtype = t.value.0; class = u.value.0 }) question u.value.1 end u.later in
    subst (λ (q : QuestionOf (List (List ℕ))). QuestionAt contents at q end) same.0
    (record {
      name_end = s.value.1;
      type_end = t.value.1;
      name = name_at_is contents at s.value.0 s.value.1 s.first;
      qtype = number_at w16 contents s.value.1 t.value.0 t.value.1 t.first;
      class = number_at w16 contents t.value.1 u.value.0 end (u.first ∙ ap (λ (n : ℕ). Some (u.value.0, n)) same.1);
    })

pub question_found : (contents : List ℕ) (at : ℕ) (question : QuestionOf (List (List ℕ))) (end : ℕ) → QuestionAt contents at question end → question_in name_at contents at ≡ Some (question, end)
unfolding question_in
question_found contents at question end q =
    let name = name_at_finds contents at question.name q.name_end q.name in
    let qtype = read_number w16 contents q.name_end question.qtype q.type_end q.qtype in
    let class = read_number w16 contents q.type_end question.class end q.class in
    rw (name, qtype, class) refl

-- ---- records

abbrev RecordValue : Type 0
RecordValue = RecordOf (List (List ℕ)) (List Field)

pub record_is : (contents : List ℕ) (at : ℕ) (r : RecordValue) (end : ℕ) → record_in name_at (data_in name_at) contents at ≡ Some (r, end) → RecordAt contents at r end
unfolding record_in
record_is contents at r end e =
    let a = then_some (name_at contents at) _ _ e in
    let p = then_some (plain_at parts_at contents a.0.1) _ _ a.2 in
    let parts = p.0.0 in
    let v = then_some (data_in name_at parts.rtype (take p.0.1 contents) (p.0.1 - length parts.content)) _ _ p.2 in
    let same = some_pair_parts (record_of a.0.0 parts v.0) r p.0.1 end v.2 in
    let q = parts_are_at contents a.0.1 parts p.0.1 p.1 in
    let place : p.0.1 - length parts.content ≡ q.size_end = omega (arith, q.content.end_is) in
    subst (λ (found : RecordValue). RecordAt contents at found end) same.0
    (subst (λ (n : ℕ). RecordAt contents at (record_of a.0.0 parts v.0) n) same.1
    (record {
      owner_end = a.0.1;
      type_end = q.type_end;
      class_end = q.class_end;
      ttl_end = q.ttl_end;
      size = length parts.content;
      size_end = q.size_end;
      owner = name_at_is contents at a.0.0 a.0.1 a.1;
      rtype = q.rtype;
      class = q.class;
      ttl = q.ttl;
      size_is = q.size;
      end_is = q.content.end_is;
      within = q.content.within;
      content = subst (λ (n : ℕ). DataAt parts.rtype (take p.0.1 contents) n v.0) place (data_is parts.rtype (take p.0.1 contents) (p.0.1 - length parts.content) v.0 v.1);
    }))

pub record_found : (contents : List ℕ) (at : ℕ) (r : RecordValue) (end : ℕ) → RecordAt contents at r end → record_in name_at (data_in name_at) contents at ≡ Some (r, end)
unfolding record_in
record_found contents at r end q =
    let owner = name_at_finds contents at r.owner q.owner_end q.owner in
    let body : List ℕ = take q.size (drop q.size_end contents) in
    let long : length body ≡ q.size = omega (arith, length-take q.size (drop q.size_end contents), length-drop q.size_end contents, q.end_is, q.within) in
    let parts : Parts = record { rtype = r.rtype; class = r.class; ttl = r.ttl; content = body } in
    let occurs : OctetsAt contents q.size_end body end = record { end_is = omega (arith, q.end_is, long); within = q.within; occur = ap (λ (n : ℕ). take n (drop q.size_end contents)) (sym long) } in
    let there : plain_at parts_at contents q.owner_end ≡ Some (parts, end) = parts_found_at contents q.owner_end parts end (record {
      type_end = q.type_end;
      class_end = q.class_end;
      ttl_end = q.ttl_end;
      size_end = q.size_end;
      rtype = q.rtype;
      class = q.class;
      ttl = q.ttl;
      size = subst (λ (n : ℕ). NumberAt contents q.ttl_end w16 n q.size_end) (sym long) q.size_is;
      content = occurs;
    }) in
    let place : end - length body ≡ q.size_end = omega (arith, q.end_is, long) in
    let content : data_in name_at r.rtype (take end contents) (end - length body) ≡ Some r.content = ap (data_in name_at r.rtype (take end contents)) place ∙ data_found r.rtype (take end contents) q.size_end r.content q.content in
    rw (owner, there, content) refl
