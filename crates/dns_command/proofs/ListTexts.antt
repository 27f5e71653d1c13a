-- The text of a list of octets determines the list.
use Rattle.std.proofs.Common.{◌≡◌, ◌≢◌, ℕ, zero, suc, ◌/◌, ◌%◌, ◌<◌, ◌==◌, Bool, true, List, [], ◌∷◌, ◌++◌, length, get_or, slice_index, codes, flat_map, filter, Option, Some, refl, sym, ap, subst, ◌∙◌, append_assoc, length-append, arith}
use Rattle.std.specs.Prelude.{◌↔◌, not, ◌&&◌}
use Rattle.std.specs.Cmp.{first_so, second_so}
use Rattle.std.specs.List.{All, AllByRecursion}
use Rattle.std.proofs.lemmas.Bool.Decides.{nat_tests}
use Rattle.std.proofs.lemmas.List.Concat.{flat_map-cons}
use Rattle.std.proofs.lemmas.List.Elements.{All-map, All-weaker, recursion_from_All}
use Rattle.dns_text.specs.Hexadecimal.{spelled, shown, line, lines}
use Rattle.dns_wire.specs.Reading.{AreOctets}
use Rattle.dns_text.proofs.HexadecimalLemmas.{spelled-shown}
use Rattle.dns_message.specs.Canonical.{canonical_wire, is_not_opt}
use Rattle.dns_message.specs.Messages.{RecordValue, Valid}
use Rattle.dns_message.specs.Order.{collapsed, canonical_list}
use Rattle.dns_message.specs.Same.{Same}
use Rattle.dns_message.specs.WellFormed.{WellFormed}
use Rattle.dns_message.proofs.Collapsing.{all_left}
use Rattle.dns_message.proofs.CanonicalListSameness.{outputs}
use Rattle.dns_message.proofs.WellFormedLemmas.{all_well}
use Rattle.dns_message.proofs.Whole.{canonical_wire_octets}

-- ---- lines

-- no LF among these
abbrev HasNoEnd : List ℕ → Type 0
HasNoEnd [] = Unit {0}
HasNoEnd (b ∷ bytes) = (b ≢ 10) × HasNoEnd bytes

abbrev no_end : List ℕ → Bool
no_end [] = true
no_end (b ∷ bytes) = not (b == 10) && no_end bytes

no_end_at : (bytes : List ℕ) (i : ℕ) → no_end bytes ≡ true → i < length bytes → get_or bytes i 0 ≢ 10
no_end_at [] i e below = absurd (omega arith)
no_end_at (b ∷ bytes) zero e below = let other : not (b == 10) ≡ true = first_so (not (b == 10)) (no_end bytes) e in grind (arith, nat_tests)
no_end_at (b ∷ bytes) (suc i) e below = no_end_at bytes i (second_so (not (b == 10)) (no_end bytes) e) (omega arith)

digit_no_end : (n : ℕ) → n < 16 → slice_index (codes "0123456789abcdef") n ≢ 10
digit_no_end n below = no_end_at (codes "0123456789abcdef") n refl below

shown_no_end : (octets : List ℕ) → AreOctets octets → HasNoEnd (flat_map shown octets)
shown_no_end [] are = tt
shown_no_end (b ∷ octets) are =
    let fits : b < 256 = are 0 in
    subst HasNoEnd (sym (flat_map-cons shown b octets)) (digit_no_end (b / 16) (omega arith), (digit_no_end (b % 16) (omega arith), shown_no_end octets (λ i. are (suc i))))

-- what comes before the first LF, and after it
parted : (a b x y : List ℕ) → HasNoEnd a → HasNoEnd b → a ++ 10 ∷ x ≡ b ++ 10 ∷ y → (a ≡ b) × (x ≡ y)
parted [] [] x y p q e = (refl, cc)
parted [] (c ∷ b) x y p q e = let same : c ≡ 10 = cc in absurd (q.0 same)
parted (c ∷ a) [] x y p q e = let same : c ≡ 10 = cc in absurd (p.0 same)
parted (c ∷ a) (d ∷ b) x y p q e =
    let first : c ≡ d = cc in
    let others : a ++ 10 ∷ x ≡ b ++ 10 ∷ y = cc in
    let more = parted a b x y p.1 q.1 others in
    (λ i. first i ∷ more.0 i, more.1)

-- the digits determine the octets
shown_one : (a b : List ℕ) → AreOctets a → AreOctets b → flat_map shown a ≡ flat_map shown b → a ≡ b
shown_one a b are also e =
    let h : ◌≡◌ {A = Option (List ℕ)} (Some a) (Some b) = sym (spelled-shown a are) ∙ ap spelled e ∙ spelled-shown b also in
    cc

lines_cons : (octets : List ℕ) (lists : List (List ℕ)) → lines (octets ∷ lists) ≡ flat_map shown octets ++ 10 ∷ lines lists
lines_cons octets lists = flat_map-cons line octets lists ∙ append_assoc (flat_map shown octets) (10 ∷ []) (lines lists)

some_line : (octets : List ℕ) (lists : List (List ℕ)) → lines (octets ∷ lists) ≡ [] → ⊥
some_line octets lists e = absurd (omega (arith, ap length (sym (lines_cons octets lists) ∙ e), length-append (flat_map shown octets) (10 ∷ lines lists)))

lines_one : (xs ys : List (List ℕ)) → AllByRecursion AreOctets xs → AllByRecursion AreOctets ys → lines xs ≡ lines ys → xs ≡ ys
lines_one [] [] are also e = refl
lines_one [] (y ∷ ys) are also e = absurd (some_line y ys (sym e))
lines_one (x ∷ xs) [] are also e = absurd (some_line x xs e)
lines_one (x ∷ xs) (y ∷ ys) are also e =
    let parts = parted (flat_map shown x) (flat_map shown y) (lines xs) (lines ys) (shown_no_end x are.0) (shown_no_end y also.0) (sym (lines_cons x xs) ∙ e ∙ lines_cons y ys) in
    let first = shown_one x y are.0 also.0 parts.0 in
    let others = lines_one xs ys are.1 also.1 parts.1 in
    λ i. first i ∷ others i

pub lists_one : (ls ks : List (List ℕ)) → All AreOctets ls → All AreOctets ks → (lines ls ≡ lines ks) ↔ (ls ≡ ks)
lists_one ls ks are also = (lines_one ls ks (recursion_from_All AreOctets ls are) (recursion_from_All AreOctets ks also), λ e. ap lines e)

-- ---- canonical lists

canonical_list_octets : (rs : List RecordValue) → All WellFormed rs → AllByRecursion AreOctets (canonical_list rs)
canonical_list_octets rs are =
    let canonical : All (λ (r : RecordValue). AreOctets (canonical_wire r)) rs = All-weaker WellFormed (λ (r : RecordValue). AreOctets (canonical_wire r)) canonical_wire_octets rs are in
    recursion_from_All AreOctets (canonical_list rs) (All-map AreOctets canonical_wire (collapsed (filter is_not_opt rs)) (all_left (λ (r : RecordValue). AreOctets (canonical_wire r)) rs canonical))

pub texts_one : (rs ss : List RecordValue) → All WellFormed rs → All WellFormed ss → (lines (canonical_list rs) ≡ lines (canonical_list ss)) ↔ (canonical_list rs ≡ canonical_list ss)
texts_one rs ss are also = (lines_one (canonical_list rs) (canonical_list ss) (canonical_list_octets rs are) (canonical_list_octets ss also), λ e. ap lines e)

pub texts_same : (rs ss : List RecordValue) → All WellFormed rs → All WellFormed ss → (lines (canonical_list rs) ≡ lines (canonical_list ss)) ↔ Same rs ss
texts_same rs ss are also =
    let text = texts_one rs ss are also in
    let list = outputs rs ss are also in
    (λ e. list.0 (text.0 e), λ same. text.1 (list.1 same))

pub message_texts : (m n : List ℕ) (rs ss : List RecordValue) → AreOctets m → AreOctets n → Valid m rs → Valid n ss → (lines (canonical_list rs) ≡ lines (canonical_list ss)) ↔ Same rs ss
message_texts m n rs ss are also valid other = texts_same rs ss (all_well m rs are valid) (all_well n ss also other)
