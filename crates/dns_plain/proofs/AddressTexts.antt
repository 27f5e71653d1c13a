-- The forms of std's addresses that have no dots are those that are read here, and what is printed is one of them.
use Rattle.std.proofs.Common.{◌≡◌, ◌≢◌, ℕ, zero, suc, ◌+◌, ◌*◌, ◌/◌, ◌%◌, Bool, true, false, List, [], ◌∷◌, ◌++◌, length, refl, sym, ap, ap₂, ◌∙◌, arith, inl, inr, lit≤, true≢false}
use Rattle.std.specs.Prelude.{◌||◌, ◌==◌, codes, decimal, unwrap_or}
use Rattle.std.specs.List.{list_any}
use Rattle.std.specs.Char.{digit_value}
use Rattle.std.specs.Str.Parse.{AllDigits}
use Rattle.std.specs.Net.Addr.{segments_of, octets_of}
use Rattle.std.specs.Net.Grammar.{IsDotted, IsGroupsAfter, IsColonHex}
use Rattle.std.specs.Net.Text.{ipv4_text, hex_groups_text}
use Rattle.std.proofs.lemmas.Bool.{cases_eq, ne_eqb}
use Rattle.std.proofs.lemmas.List.Folds.{list_any-append, list_any_none}
use Rattle.std.proofs.NetLemmas.Alphabet.{IsHexOrColon, All-hex_groups_text}
use Rattle.std.proofs.NetLemmas.Ipv4.{read_ipv4_complete}
use Rattle.std.proofs.NetLemmas.Ipv6.{EndsGroups, read_ipv6_complete}
use Rattle.std.proofs.NetLemmas.Texts.{AllSegments, IsColonHex-hex_groups_text}
use Rattle.dns_wire.specs.Reading.{AreOctets}
use Rattle.dns_plain.specs.AddressTexts.{IsHexText}

-- a dot (46) is in the text
abbrev pub has_dot : List ℕ → Bool
has_dot text = list_any (λ b. b == 46) text

either_false : (a b : Bool) → (a || b) ≡ false → (a ≡ false) × (b ≡ false)
either_false false b e = (refl, e)
either_false true b e = absurd (true≢false e)

-- a text has no dot exactly if neither part has one
parted : (prefix back : List ℕ) → has_dot (prefix ++ back) ≡ false → (has_dot prefix ≡ false) × (has_dot back ≡ false)
parted prefix back e = either_false (has_dot prefix) (has_dot back) (sym (list_any-append (λ b. b == 46) prefix back) ∙ e)

joined : (prefix back : List ℕ) → has_dot prefix ≡ false → has_dot back ≡ false → has_dot (prefix ++ back) ≡ false
joined prefix back first second = list_any-append (λ b. b == 46) prefix back ∙ ap (λ b. b || has_dot back) first ∙ second

-- hexadecimal digits are no dots
digits_undotted : (digits : List ℕ) → AllDigits 16 digits → has_dot digits ≡ false
digits_undotted [] all = refl
digits_undotted (c ∷ digits) all =
    elim (cases_eq c 46) [
      | inl dot ↦ absurd (omega (arith, all.0, ap digit_value dot))
      | inr other ↦ rw (ne_eqb c 46 other) (digits_undotted digits all.1)
    ]

groups_undotted : (lead text groups : List ℕ) → has_dot lead ≡ false → IsGroupsAfter false lead text groups → has_dot text ≡ false
groups_undotted lead text [] led e = ap has_dot e
groups_undotted lead text (g ∷ groups) led (inl h) =
    ap has_dot h.2 ∙ joined (lead ++ h.0) h.1 (joined lead h.0 led (digits_undotted h.0 h.3.0.0.1)) (groups_undotted (codes ":") h.1 groups refl h.4)
groups_undotted lead text (g ∷ groups) led (inr h) = absurd (true≢false (sym h.2))

dotted_has_dot : (text octets : List ℕ) → IsDotted text octets → has_dot text ≡ false → ⊥
dotted_has_dot text octets h e =
    let first = decimal h.a ++ codes "." ++ decimal h.b ++ codes "." ++ decimal h.c in
    let before = parted (first ++ codes ".") (decimal h.d) (sym (ap has_dot h.spelled) ∙ e) in
    absurd (true≢false (parted first (codes ".") before.0).1)

-- without a dot, no group is an address of IPv4
without_dots : (lead text groups : List ℕ) → has_dot text ≡ false → IsGroupsAfter true lead text groups → IsGroupsAfter false lead text groups
without_dots lead text [] none e = e
without_dots lead text (g ∷ groups) none (inl h) =
    inl (h.0, h.1, h.2, h.3, without_dots (codes ":") h.1 groups (parted (lead ++ h.0) h.1 (sym (ap has_dot h.2) ∙ none)).1 h.4)
without_dots lead text (g ∷ groups) none (inr h) =
    absurd (dotted_has_dot h.0 h.1 h.4 (parted lead h.0 (sym (ap has_dot h.3) ∙ none)).1)

weaker : (lead text groups : List ℕ) → IsGroupsAfter false lead text groups → IsGroupsAfter true lead text groups
weaker lead text [] e = e
weaker lead text (g ∷ groups) (inl h) = inl (h.0, h.1, h.2, h.3, weaker (codes ":") h.1 groups h.4)
weaker lead text (g ∷ groups) (inr h) = absurd (true≢false (sym h.2))

-- the forms that are read here are forms of std's, and have no dots
pub as_colon_hex : (text groups : List ℕ) → IsHexText text groups → IsColonHex text groups
as_colon_hex text groups (inl h) = inl (weaker [] text groups h.0, h.1)
as_colon_hex text groups (inr h) = inr (record {
  head_text = h.prefix_text;
  tail_text = h.back_text;
  head = h.prefix;
  tail = h.back;
  spelled = h.spelled;
  head_groups = h.prefix_groups;
  tail_groups = weaker [] h.back_text h.back h.back_groups;
  room = h.few;
  value = h.value;
})

pub hex_undotted : (text groups : List ℕ) → IsHexText text groups → has_dot text ≡ false
hex_undotted text groups (inl h) = groups_undotted [] text groups refl h.0
hex_undotted text groups (inr h) =
    let prefix = joined h.prefix_text (codes "::") (groups_undotted [] h.prefix_text h.prefix refl h.prefix_groups) refl in
    ap has_dot h.spelled ∙ joined (h.prefix_text ++ codes "::") h.back_text prefix (groups_undotted [] h.back_text h.back refl h.back_groups)

-- and std's without dots are read here
pub as_hex_text : (text groups : List ℕ) → has_dot text ≡ false → IsColonHex text groups → IsHexText text groups
as_hex_text text groups none (inl h) = inl (without_dots [] text groups none h.0, h.1)
as_hex_text text groups none (inr h) =
    let trailing = parted (h.head_text ++ codes "::") h.tail_text (sym (ap has_dot h.spelled) ∙ none) in
    inr (record {
      prefix_text = h.head_text;
      back_text = h.tail_text;
      prefix = h.head;
      back = h.tail;
      spelled = h.spelled;
      prefix_groups = h.head_groups;
      back_groups = without_dots [] h.tail_text h.tail trailing.1 h.tail_groups;
      few = h.room;
      value = h.value;
    })

-- ---- groups and octets

-- two octets of each group are the group again
pub grouped : (groups : List ℕ) → segments_of (octets_of groups) ≡ groups
grouped [] = refl
grouped (g ∷ groups) = ap₂ ◌∷◌ (omega arith) (grouped groups)

-- and if octets come in pairs, groups of two are of one list of octets
pub ungrouped : (pairs : ℕ) (octets : List ℕ) → length octets ≡ pairs * 2 → AreOctets octets → octets_of (segments_of octets) ≡ octets
ungrouped pairs [] e all = refl
ungrouped pairs (a ∷ []) e all = absurd (omega (arith, e))
ungrouped zero (a ∷ b ∷ octets) e all = absurd (omega (arith, e))
ungrouped (suc pairs) (a ∷ b ∷ octets) e all =
    let high : (a * 256 + b) / 256 ≡ a = omega (arith, all 1) in
    let low : (a * 256 + b) % 256 ≡ b = omega (arith, all 1) in
    ap₂ (λ x (l : List ℕ). x ∷ l) high (ap₂ (λ x (l : List ℕ). x ∷ l) low (ungrouped pairs octets (omega (arith, e)) (λ i. all (suc (suc i)))))

-- groups are numbers of 16 bits
small_groups : (octets : List ℕ) → AreOctets octets → AllSegments (segments_of octets)
small_groups [] all i = omega arith
small_groups (a ∷ []) all i = omega arith
small_groups (a ∷ b ∷ octets) all zero = omega (arith, all 0, all 1)
small_groups (a ∷ b ∷ octets) all (suc i) = small_groups octets (λ j. all (suc (suc j))) i

half_as_many : (pairs : ℕ) (octets : List ℕ) → length octets ≡ pairs * 2 → length (segments_of octets) ≡ pairs
half_as_many zero [] e = refl
half_as_many (suc pairs) [] e = absurd (omega (arith, e))
half_as_many pairs (a ∷ []) e = absurd (omega (arith, e))
half_as_many zero (a ∷ b ∷ octets) e = absurd (omega (arith, e))
half_as_many (suc pairs) (a ∷ b ∷ octets) e = ap suc (half_as_many pairs octets (omega (arith, e)))

-- ---- what is printed

-- hexadecimal digits and colons are no dots
printed_undotted : (groups : List ℕ) → AllSegments groups → has_dot (hex_groups_text groups) ≡ false
printed_undotted groups small =
    list_any_none (λ b. b == 46) (hex_groups_text groups) (λ i d l. ne_eqb _ 46 (undotted _ (All-hex_groups_text groups small i d l)))
  where
    undotted : (c : ℕ) → IsHexOrColon c → c ≢ 46
    undotted c (inl h) e = omega (arith, h.0, h.1, e)
    undotted c (inr h) e = omega (arith, h.0, h.1, e)

pub printed_spells : (octets : List ℕ) → length octets ≡ 16 → AreOctets octets → IsHexText (hex_groups_text (segments_of octets)) (segments_of octets)
printed_spells octets e all =
    let small = small_groups octets all in
    as_hex_text (hex_groups_text (segments_of octets)) (segments_of octets) (printed_undotted (segments_of octets) small) (IsColonHex-hex_groups_text (segments_of octets) (half_as_many 8 octets e) small)

pub four_spell : (octets : List ℕ) → length octets ≡ 4 → AreOctets octets → IsDotted (ipv4_text octets) octets
four_spell [] e all = absurd (omega (arith, e))
four_spell (a ∷ []) e all = absurd (omega (arith, e))
four_spell (a ∷ b ∷ []) e all = absurd (omega (arith, e))
four_spell (a ∷ b ∷ c ∷ []) e all = absurd (omega (arith, e))
four_spell (a ∷ b ∷ c ∷ d ∷ []) e all = record { a = a; b = b; c = c; d = d; fit = (all 0, all 1, all 2, all 3); value = refl; spelled = refl }
four_spell (a ∷ b ∷ c ∷ d ∷ x ∷ more) e all = absurd (omega (arith, e))

-- ---- a text spells one address

pub one_ipv4 : (text octets others : List ℕ) → IsDotted text octets → IsDotted text others → octets ≡ others
one_ipv4 text octets others h k =
    let read = read_ipv4_complete text octets [] h (lit≤ tt) in
    let again = read_ipv4_complete text others [] k (lit≤ tt) in
    ap (λ o. (unwrap_or {T = List ℕ × List ℕ} o ([], [])).0) (sym read ∙ again)

pub one_ipv6 : (text groups others : List ℕ) → IsHexText text groups → IsHexText text others → groups ≡ others
one_ipv6 text groups others h k =
    let stop : EndsGroups [] = ((lit≤ tt, omega arith), λ colon. absurd (omega (arith, colon))) in
    let read = read_ipv6_complete text groups [] (as_colon_hex text groups h) stop in
    let again = read_ipv6_complete text others [] (as_colon_hex text others k) stop in
    ap (λ o. (unwrap_or {T = List ℕ × List ℕ} o ([], [])).0) (sym read ∙ again)
