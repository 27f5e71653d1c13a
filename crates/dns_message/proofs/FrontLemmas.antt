-- Forms that are compared by fronts of their keys first come in the same order.
use Rattle.std.proofs.Common.{◌≡◌, ℕ, zero, suc, ◌+◌, ◌*◌, ◌^◌, ◌<◌, ◌≤◌, false, true, List, [], ◌∷◌, ◌++◌, length, map, take, drop, get_or, refl, sym, ap, ◌∙◌, subst, arith}
use Rattle.std.specs.Cmp.Lexicographic.{slice_cmp}
use Rattle.std.specs.Int.{w64, from_be_bytes}
use Rattle.std.specs.List.{All}
use Rattle.std.specs.List.Sorted.{IsSorted}
use Rattle.std.specs.declared.cmp.Ordering.{Ordering}
use Rattle.std.specs.declared.cmp.Ordering.TheVariants.{Less, Equal, Greater}
use Rattle.std.specs.Ordering.{MatchOrdering, is_le, is_lt, nat_cmp, ordering_then, ordering_reverse}
use Rattle.std.specs.Cmp.{ranks}
use Rattle.std.proofs.Math.Nat.{mul-le-mul_right, pow-succ', suc-mul}
use Rattle.std.proofs.lemmas.Cmp.{nat_list_cmp_total, tied_itself}
use Rattle.std.proofs.lemmas.List.{get_or-map, length-map, take-append-drop, take-take, take_more}
use Rattle.std.proofs.lemmas.List.Elements.{All-push}
use Rattle.dns_wire.specs.Names.{lowered}
use Rattle.dns_wire.specs.Reading.{AreOctets}
use Rattle.dns_name.specs.Order.{key_cmp}
use Rattle.dns_record.proofs.ComparedOctets.{cmp_append}
use Rattle.dns_message.specs.Forms.{form_owner_key}
use Rattle.dns_message.specs.Fronts.{BeginsWith, HasFront, front}
use Rattle.dns_message.specs.Order.{SortKey, class_and_data_cmp, sort_key_cmp, ttl_cmp}
use Rattle.dns_message.specs.declared.form_order.FrontedForm.{FrontedForm}
use Rattle.dns_message.proofs.FormLemmas.{forms_ordered}
use Rattle.dns_message.proofs.SortedRecords.{sort_key_cmp_total}

-- ---- keys that begin alike

begins_shorter : (key : List ℕ) (fewer many : ℕ) (k : SortKey) → fewer ≤ many → BeginsWith (take many key) many k → BeginsWith (take fewer key) fewer k
begins_shorter key fewer many k less begins =
    (omega (arith, less, begins.0), sym (take-take fewer many (form_owner_key k) less) ∙ ap (take fewer) begins.1 ∙ take-take fewer many key less)

pub begins_with : (start octets : List ℕ) (many : ℕ) (k : SortKey) → octets ≡ form_owner_key k → many ≤ length octets → take many octets ≡ start → BeginsWith start many k
begins_with start octets many k are within is = (omega (arith, within, ap length are), sym (ap (take many) are) ∙ is)

pub begins_at : (start : List ℕ) (many : ℕ) (forms : List SortKey) (i : ℕ) (k : SortKey) → k ≡ get_or forms i k → i < length forms → All (BeginsWith start many) forms → BeginsWith start many k
begins_at start many forms i k itself within all = subst (BeginsWith start many) (sym itself) (all i k within)

pub all_begin : (key : List ℕ) (fewer many : ℕ) (forms : List SortKey) (i : ℕ) (k : SortKey) → k ≡ get_or forms i k → i < length forms → fewer ≤ many
    → All (BeginsWith (take many key) many) (take i forms) → BeginsWith (take fewer key) fewer k → All (BeginsWith (take fewer key) fewer) (take (i + 1) forms)
all_begin key fewer many forms i k itself within less all next =
    subst (All (BeginsWith (take fewer key) fewer)) (sym (take_more forms i k within))
    (All-push (BeginsWith (take fewer key) fewer) (take i forms) (get_or forms i k) (λ j e inside. begins_shorter key fewer many (get_or (take i forms) j e) less (all j e inside))
    (subst (BeginsWith (take fewer key) fewer) itself next))

-- ---- the number of some octets

pub eight_spelled : (octets : List ℕ) → 8 ≤ length octets → from_be_bytes w64 (take 8 octets) ≡ front 8 octets
unfolding front
eight_spelled (a ∷ b ∷ c ∷ d ∷ e ∷ f ∷ g ∷ h ∷ octets) enough = omega arith
eight_spelled octets enough = absurd (omega (arith, enough))

pub fewer_spelled : (octets : List ℕ) → length octets < 8 → from_be_bytes w64 (octets ++ drop (length octets) (0 ∷ 0 ∷ 0 ∷ 0 ∷ 0 ∷ 0 ∷ 0 ∷ 0 ∷ [])) ≡ front 8 octets
unfolding front
fewer_spelled [] few = refl
fewer_spelled (a ∷ []) few = omega arith
fewer_spelled (a ∷ b ∷ []) few = omega arith
fewer_spelled (a ∷ b ∷ c ∷ []) few = omega arith
fewer_spelled (a ∷ b ∷ c ∷ d ∷ []) few = omega arith
fewer_spelled (a ∷ b ∷ c ∷ d ∷ e ∷ []) few = omega arith
fewer_spelled (a ∷ b ∷ c ∷ d ∷ e ∷ f ∷ []) few = omega arith
fewer_spelled (a ∷ b ∷ c ∷ d ∷ e ∷ f ∷ g ∷ []) few = omega arith
fewer_spelled (a ∷ b ∷ c ∷ d ∷ e ∷ f ∷ g ∷ h ∷ octets) few = absurd (omega (arith, few))

positive : (n : ℕ) → 0 < 256 ^ n
positive zero = omega arith
positive (suc n) = omega (arith, pow-succ' 256 n, positive n)

bounded : (n : ℕ) (octets : List ℕ) → AreOctets octets → front n octets < 256 ^ n
unfolding front
bounded zero octets are = omega arith
bounded (suc n) [] are = positive (suc n)
bounded (suc n) (x ∷ octets) are = omega (arith, mul-le-mul_right (256 ^ n) (are 0), suc-mul x (256 ^ n), pow-succ' 256 n, bounded n octets (λ i. are (suc i)))

-- ---- the order of two keys

then_less : (r rest : Ordering) (x y : ℕ) → MatchOrdering r (x < y) (x ≡ y) (y < x) → (x ≡ y → rest ≡ Less) → (y < x → ⊥) → ordering_then r rest ≡ Less
then_less Less rest x y h tie over = refl
then_less Equal rest x y h tie over = tie h
then_less Greater rest x y h tie over = absurd (over h)

pub front_first : (n : ℕ) (xs ys : List ℕ) → AreOctets ys → front n xs < front n ys → slice_cmp nat_cmp xs ys ≡ Less
unfolding front
front_first zero xs ys are first = absurd (omega (arith, first))
front_first (suc n) [] [] are first = absurd (omega (arith, first))
front_first (suc n) [] (y ∷ ys) are first = refl
front_first (suc n) (x ∷ xs) [] are first = absurd (omega (arith, first))
front_first (suc n) (x ∷ xs) (y ∷ ys) are first =
    let power = 256 ^ n in
    let below = bounded n ys (λ i. are (suc i)) in
    then_less (nat_cmp x y) (slice_cmp nat_cmp xs ys) x y (ranks x y)
    (λ e. front_first n xs ys (λ i. are (suc i)) (omega (arith, first, ap (λ (z : ℕ). z * power) e)))
    (λ over. omega (arith, first, mul-le-mul_right power over, suc-mul y power, below))

-- keys that begin alike
alike_at_first : (start xs ys : List ℕ) → slice_cmp nat_cmp xs ys ≡ Less → slice_cmp nat_cmp (start ++ xs) (start ++ ys) ≡ Less
alike_at_first start xs ys less = cmp_append nat_cmp start start xs ys refl ∙ ap (λ (r : Ordering). ordering_then r (slice_cmp nat_cmp xs ys)) (tied_itself nat_list_cmp_total start) ∙ less

pub first_by_front : (start : List ℕ) (e f : FrontedForm) → HasFront start e → HasFront start f → e.front < f.front → sort_key_cmp e.form.now f.form.now ≡ Less
first_by_front start e f one other less =
    let j = e.form.now in
    let k = f.form.now in
    let keys : slice_cmp nat_cmp (form_owner_key j) (form_owner_key k) ≡ Less =
    (λ i. slice_cmp nat_cmp (one.1 i) (other.1 i)) ∙ alike_at_first start one.0 other.0 (front_first 8 one.0 other.0 other.2 (omega (arith, less, one.3, other.3))) in
    let owners : key_cmp j.owner k.owner ≡ Less = sym (forms_ordered j k one.4 other.4) ∙ keys in
    ap (λ (o : Ordering). ordering_then (ordering_then o (class_and_data_cmp j k)) (ttl_cmp j k)) owners

-- ---- the order of all

-- by the fronts, and then as forms
abbrev pub front_cmp : FrontedForm → FrontedForm → Ordering
front_cmp e f = ordering_then (nat_cmp e.front f.front) (sort_key_cmp e.form.now f.form.now)

not_before : (start : List ℕ) (e f : FrontedForm) → HasFront start e → HasFront start f → (r : Ordering) → MatchOrdering r (e.front < f.front) (e.front ≡ f.front) (f.front < e.front)
    → is_lt (ordering_then r (sort_key_cmp e.form.now f.form.now)) ≡ false → is_lt (sort_key_cmp e.form.now f.form.now) ≡ false
not_before start e f one other Less h up = cc
not_before start e f one other Equal h up = up
not_before start e f one other Greater h up =
    ap is_lt (sort_key_cmp_total.antisymm e.form.now f.form.now ∙ ap ordering_reverse (first_by_front start f e other one h))

pub sorted_by_front : (start : List ℕ) (entries : List FrontedForm) → All (HasFront start) entries → IsSorted front_cmp entries → IsSorted sort_key_cmp (map (λ (e : FrontedForm). e.form.now) entries)
sorted_by_front start [] all up = λ k d low within. absurd (omega (arith, within))
sorted_by_front start (first ∷ entries) all up = λ k d low within.
    let es : List FrontedForm = first ∷ entries in
    let inside : k + 1 < length es = omega (arith, within, length-map es (λ (e : FrontedForm). e.form.now)) in
    let form : FrontedForm → SortKey = λ e. e.form.now in
    let later : get_or (map form es) (k + 1) d ≡ form (get_or es (k + 1) first) = get_or-map form es (k + 1) first d inside in
    let earlier : get_or (map form es) k d ≡ form (get_or es k first) = get_or-map form es k first d (omega (arith, inside)) in
    let e : FrontedForm = get_or es (k + 1) first in
    let f : FrontedForm = get_or es k first in
    (λ i. is_lt (sort_key_cmp (later i) (earlier i))) ∙ not_before start e f (all (k + 1) first inside) (all k first (omega (arith, inside))) (nat_cmp e.front f.front) (ranks e.front f.front) (up k first low inside)

-- one form more
pub front_added : (start : List ℕ) (entries : List FrontedForm) (e : FrontedForm) (many : ℕ) (octets : List ℕ) → All (HasFront start) entries → BeginsWith start many e.form.now → octets ≡ drop many (form_owner_key e.form.now) → AreOctets octets
    → e.front ≡ front 8 octets → lowered e.form.now.owner ≡ e.form.now.owner → All (HasFront start) (entries ++ e ∷ [])
front_added start entries e many octets all begins are bytes is low =
    let key = form_owner_key e.form.now in
    let split : key ≡ start ++ octets = sym (take-append-drop many key) ∙ (λ i. begins.1 i ++ sym are i) in
    All-push (HasFront start) entries e all (octets, split, bytes, is, low)

-- ---- forms that are in order as they are

not_after : (a b : Ordering) → b ≡ ordering_reverse a → is_le a ≡ true → is_lt b ≡ false
not_after Less b e h = ap is_lt e
not_after Equal b e h = ap is_lt e
not_after Greater b e h = cc

pub in_order_as_tested : (j k : SortKey) → is_le (sort_key_cmp j k) ≡ true → is_lt (sort_key_cmp k j) ≡ false
in_order_as_tested j k h = not_after (sort_key_cmp j k) (sort_key_cmp k j) (sort_key_cmp_total.antisymm k j) h
