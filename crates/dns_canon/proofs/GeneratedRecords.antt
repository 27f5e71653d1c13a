-- The records of `make`: they are well formed, and have at most 65 octets each.
use Rattle.std.proofs.Common.{◌≡◌, ℕ, suc, zero, ◌+◌, ◌/◌, ◌%◌, ◌<◌, ◌≤◌, ltb, List, [], ◌∷◌, ◌++◌, length, true, false, refl, sym, ap, subst, ◌∙◌, arith}
use Rattle.std.specs.Prelude.{codes, ◌==◌, Some, Result, Ok, Err, IsOk}
use Rattle.std.specs.Int.{w16, w32, to_be_bytes}
use Rattle.std.specs.List.{AllByRecursion, list_any}
use Rattle.std.proofs.lemmas.Bool.{le-ltb, ne_eqb}
use Rattle.std.proofs.lemmas.List.{length-append, drop_all}
use Rattle.dns_wire.specs.Names.{labels_wire, wire}
use Rattle.dns_wire.specs.Reading.{AreOctets, Gives, all_of}
use Rattle.dns_wire.proofs.Walk.{wire_long}
use Rattle.dns_label.specs.Text.{is_unescaped}
use Rattle.dns_record.specs.CharStrs.{charstr_wire}
use Rattle.dns_record.specs.CharStrTexts.{charstr_of}
use Rattle.dns_record.specs.Fields.{Field, fields_octets}
use Rattle.dns_record.specs.Fields.FieldOf.{CharacterStrings}
use Rattle.dns_record.specs.Kinds.{fields_of, no_name}
use Rattle.dns_record.specs.Formats.{rdata_format}
use Rattle.dns_record.specs.CharacterStrings.{is_character_strings, is_txt_data, character_strings_within}
use Rattle.dns_plain.specs.Types.{txt_fields}
use Rattle.dns_plain.specs.declared.txt.Txt.{Txt}
use Rattle.dns_message.specs.Canonical.{record_octets}
use Rattle.dns_message.specs.WellFormed.{WellFormed}
use Rattle.dns_message.proofs.Octets.{no_octets, one_more, octets_of_both, number_octets_2}
use Rattle.dns_message.proofs.KindLemmas.{AllSuit}
use Rattle.dns_message.proofs.Whole.{data_back, parts_octets}
use Rattle.dns_canon.specs.Generated.{numbered, generated_owner, generated_string, generated_type, generated_content, generated_record}
use Rattle.dns_canon.proofs.DecimalLemmas.{IsPlain, plain_no_backslash, numbered_plain, numbered_long, plain_octets, h_plain, z_plain, ns_plain, mx_plain, t_plain, example_plain}
use Rattle.dns_canon.proofs.PlainNames.{ArePlain, labels_wire_size, plain_name_is, name_octets}

-- ---- names

pub owner_plain : (i : ℕ) → ArePlain (generated_owner i)
owner_plain i =
    let h = numbered_long (codes "h") (i % 97) (omega arith) in
    let z = numbered_long (codes "z") (i % 7) (omega arith) in (
      (numbered_plain (codes "h") (i % 97) (omega arith) h_plain, (h.0, omega (arith, h.1))),
      (
        (numbered_plain (codes "z") (i % 7) (omega arith) z_plain, (z.0, omega (arith, z.1))),
        ((example_plain.1, (omega arith, omega arith)), tt),
      ),
    )

pub owner_short : (i : ℕ) → length (labels_wire (generated_owner i)) ≤ 22
owner_short i =
    let example = codes "Example" ∷ [] in
    let z = numbered (codes "z") (i % 7) in
    omega (
      arith,
      numbered_long (codes "h") (i % 97) (omega arith),
      numbered_long (codes "z") (i % 7) (omega arith),
      labels_wire_size (numbered (codes "h") (i % 97)) (z ∷ example),
      labels_wire_size z example,
    )

-- ---- the hosts in data

host_plain : (word zone : List ℕ) (n : ℕ) → n < 65536 → AllByRecursion IsPlain word → length word ≤ 2 → AllByRecursion IsPlain zone → length zone ≡ 7 → ArePlain (numbered word n ∷ zone ∷ [])
host_plain word zone n small plain short zoned seven =
    let long = numbered_long word n small in
    ((numbered_plain word n small plain, (long.0, omega (arith, long.1, short))), ((zoned, (omega (arith, seven), omega (arith, seven))), tt))

host_short : (word zone : List ℕ) (n : ℕ) → n < 65536 → length word ≤ 2 → length zone ≡ 7 → length (labels_wire (numbered word n ∷ zone ∷ [])) ≤ 16
host_short word zone n small short seven =
    omega (arith, short, seven, (numbered_long word n small).1, labels_wire_size (numbered word n) (zone ∷ []), labels_wire_size zone [])

pub ns_plain_name : (i : ℕ) → ArePlain (numbered (codes "ns") (i % 5) ∷ codes "EXAMPLE" ∷ [])
ns_plain_name i = host_plain (codes "ns") (codes "EXAMPLE") (i % 5) (omega arith) ns_plain (omega arith) example_plain.2 refl

pub ns_short : (i : ℕ) → length (labels_wire (numbered (codes "ns") (i % 5) ∷ codes "EXAMPLE" ∷ [])) ≤ 16
ns_short i = host_short (codes "ns") (codes "EXAMPLE") (i % 5) (omega arith) (omega arith) refl

pub mx_plain_name : (i : ℕ) → ArePlain (numbered (codes "mx") (i % 3) ∷ codes "example" ∷ [])
mx_plain_name i = host_plain (codes "mx") (codes "example") (i % 3) (omega arith) mx_plain (omega arith) example_plain.0 refl

pub mx_short : (i : ℕ) → length (labels_wire (numbered (codes "mx") (i % 3) ∷ codes "example" ∷ [])) ≤ 16
mx_short i = host_short (codes "mx") (codes "example") (i % 3) (omega arith) (omega arith) refl

-- ---- the strings in data

pub one_string : (text : List ℕ) → length text ≤ 255 → is_txt_data (charstr_wire text) ≡ true
unfolding is_txt_data is_character_strings character_strings_within
one_string text short =
    let few : ltb 65535 (length (charstr_wire text)) ≡ false = le-ltb _ _ (omega (arith, short)) in
    let fits : ltb (length text) (length text) ≡ false = le-ltb _ _ (omega arith) in
    rw (few, fits, drop_all (length text) text (omega arith)) refl

-- ---- data

-- the data suit their type, and are a few octets
record Good (rtype : ℕ) (content : List Field) : Type 0 where
  suits : AllSuit (rdata_format rtype) content
  octets : AreOctets (fields_octets content)
  few : length (fields_octets content) ≤ 19

good : (turn i : ℕ) → i < 1000 → Good (generated_type turn) (generated_content turn i)
good zero i small = record {
  suits = (refl, tt);
  octets = one_more 10 (0 ∷ i / 256 ∷ i % 256 ∷ []) (omega arith) (one_more 0 (i / 256 ∷ i % 256 ∷ []) (omega arith) (one_more (i / 256) (i % 256 ∷ []) (omega (arith, small)) (one_more (i % 256) [] (omega arith) no_octets)));
  few = omega arith;
}
good (suc zero) i small =
    let labels = numbered (codes "ns") (i % 5) ∷ codes "EXAMPLE" ∷ [] in
    record {
      suits = (plain_name_is labels (ns_plain_name i) (omega (arith, ns_short i)), tt);
      octets = octets_of_both (wire labels) [] (name_octets labels (ns_plain_name i)) no_octets;
      few = omega (arith, ns_short i, wire_long labels, length-append (wire labels) []);
    }
good (suc (suc zero)) i small =
    let labels = numbered (codes "mx") (i % 3) ∷ codes "example" ∷ [] in
    record {
      suits = ((refl, omega (arith, small)), (plain_name_is labels (mx_plain_name i) (omega (arith, mx_short i)), tt));
      octets = octets_of_both (to_be_bytes w16 i) (wire labels ++ []) (number_octets_2 i) (octets_of_both (wire labels) [] (name_octets labels (mx_plain_name i)) no_octets);
      few = omega (arith, mx_short i, wire_long labels, length-append (wire labels) []);
    }
good (suc (suc (suc turn))) i small =
    let string = numbered (codes "t") i in
    let long = numbered_long (codes "t") i (omega (arith, small)) in
    record {
      suits = (one_string string (omega (arith, long.1)), tt);
      octets = octets_of_both (charstr_wire string) [] (one_more (length string) string (omega (arith, long.1)) (plain_octets string (numbered_plain (codes "t") i (omega (arith, small)) t_plain))) no_octets;
      few = omega (arith, long.1, length-append (charstr_wire string) []);
    }

type_small : (turn : ℕ) → generated_type turn < 65536
type_small zero = omega arith
type_small (suc zero) = omega arith
type_small (suc (suc zero)) = omega arith
type_small (suc (suc (suc turn))) = omega arith

-- ---- records

pub generated_well_formed : (i : ℕ) → i < 1000 → WellFormed (generated_record i)
generated_well_formed i small =
    let rtype = generated_type (i % 4) in
    let content = generated_content (i % 4) i in
    let is = good (i % 4) i small in
    record {
      owner = plain_name_is (generated_owner i) (owner_plain i) (omega (arith, owner_short i));
      rtype = type_small (i % 4);
      class = omega arith;
      ttl = omega arith;
      size = omega (arith, is.few);
      content = data_back rtype content is.suits;
      octets = parts_octets (generated_owner i) rtype 1 (60 + i % 3) (fields_octets content) (name_octets (generated_owner i) (owner_plain i)) is.octets;
    }

pub generated_short : (i : ℕ) → i < 1000 → length (record_octets (generated_record i)) ≤ 65
generated_short i small =
    let body = fields_octets (generated_content (i % 4) i) in
    omega (arith, owner_short i, (good (i % 4) i small).few, wire_long (generated_owner i), length-append (wire (generated_owner i)) (to_be_bytes w16 (generated_type (i % 4)) ++ (to_be_bytes w16 1 ++ (to_be_bytes w32 (60 + i % 3) ++ (to_be_bytes w16 (length body) ++ body)))))

pub generated_few : (i : ℕ) → i < 1000 → length (fields_octets (generated_content (i % 4) i)) ≤ 19
generated_few i small = (good (i % 4) i small).few

-- ---- the string as text

no_backslash : (text : List ℕ) → AllByRecursion IsPlain text → list_any (λ b. b == 92) text ≡ false
no_backslash [] all = refl
no_backslash (octet ∷ text) (one, all) = rw (ne_eqb octet 92 (λ e. plain_no_backslash (subst (λ (o : ℕ). is_unescaped o ≡ true) e one.0)), no_backslash text all) refl

pub string_read : (i : ℕ) → i < 65536 → charstr_of (generated_string i) ≡ Ok (generated_string i)
string_read i small =
    let none = no_backslash (generated_string i) (numbered_plain (codes "t") i small t_plain) in
    let short : ltb 255 (length (generated_string i)) ≡ false = le-ltb _ _ (omega (arith, (numbered_long (codes "t") i small).1)) in
    rw (none, short) refl

-- ---- the string as data

pub strings_read : {E : Type 0} (string octets : List ℕ) (r : Result Txt E) → octets ≡ charstr_wire string → length octets ≤ 256
    → Gives (λ v. txt_fields v.slice.now) r (all_of (fields_of no_name (rdata_format 16) octets)) → IsOk r
strings_read string octets (Ok v) is short gives = refl
strings_read string octets (Err e) is short gives =
    let good : is_txt_data octets ≡ true = ap is_txt_data is ∙ one_string string (omega (arith, short, ap length is)) in
    let none : all_of (fields_of no_name (rdata_format 16) octets) ≡ Some (CharacterStrings octets ∷ []) = rw good refl in
    let never = sym gives ∙ none in absurd cc
