-- Which items are counted, and in what order.
use Rattle.std.proofs.Common.{◌≡◌, ℕ, zero, suc, ◌+◌, ◌*◌, ◌<◌, ◌≤◌, ◌⊎◌, inl, inr, List, [], ◌∷◌, ◌++◌, length, get_or, take, drop, refl, sym, ap, subst, ◌∙◌, arith}
use Rattle.std.specs.Prelude.{◌↔◌}
use Rattle.std.specs.Int.{w16, from_be_bytes}
use Rattle.std.specs.List.{Contains}
use Rattle.std.proofs.lemmas.Bool.{cases_lt}
use Rattle.std.proofs.lemmas.List.{get_or-take, get_or-drop}
use Rattle.dns_message.specs.Counted.{IsCounted, IsEarlier, ComesBefore}
use Rattle.dns_message.specs.Messages.{slots, slots_from, counts_of, counted_slots}

-- ---- members of lists

abbrev Among : {X : Type 0} → X → List X → Type 0
Among x [] = ⊥
Among x (y ∷ ys) = (x ≡ y) ⊎ Among x ys

among : {X : Type 0} (x : X) (xs : List X) → Contains xs x → Among x xs
among x [] (k, below, is) = absurd (omega arith)
among x (y ∷ ys) (zero, below, is) = inl (sym is)
among x (y ∷ ys) (suc k, below, is) = inr (among x ys (k, omega arith, is))

contained : {X : Type 0} (x : X) (xs : List X) → Among x xs → Contains xs x
contained x [] h = absurd h
contained x (y ∷ ys) (inl e) = (0, omega arith, sym e)
contained x (y ∷ ys) (inr h) = let c = contained x ys h in (suc c.0, omega (arith, c.1), c.2)

among_either : {X : Type 0} (x : X) (xs ys : List X) → Among x (xs ++ ys) → Among x xs ⊎ Among x ys
among_either x [] ys h = inr h
among_either x (y ∷ xs) ys (inl e) = inl (inl e)
among_either x (y ∷ xs) ys (inr h) = elim (among_either x xs ys h) [ inl prefix ↦ inl (inr prefix) | inr back ↦ inr back ]

among_prefix : {X : Type 0} (x : X) (xs ys : List X) → Among x xs → Among x (xs ++ ys)
among_prefix x [] ys h = absurd h
among_prefix x (y ∷ xs) ys (inl e) = inl e
among_prefix x (y ∷ xs) ys (inr h) = inr (among_prefix x xs ys h)

among_back : {X : Type 0} (x : X) (xs ys : List X) → Among x ys → Among x (xs ++ ys)
among_back x [] ys h = h
among_back x (y ∷ xs) ys h = inr (among_back x xs ys h)

-- ---- places of sections

in_slots : (section first n : ℕ) (x : ℕ × ℕ) → Among x (slots section first n) → (x.0 ≡ section) × (first ≤ x.1) × (x.1 < first + n)
unfolding slots
in_slots section first zero x h = absurd h
in_slots section first (suc n) x (inl e) =
    let there : x.0 ≡ section = ap (λ (p : ℕ × ℕ). p.0) e in
    let here : x.1 ≡ first = ap (λ (p : ℕ × ℕ). p.1) e in
    (there, omega arith, omega arith)
in_slots section first (suc n) x (inr h) = let k = in_slots section (first + 1) n x h in (k.0, omega (arith, k.1), omega (arith, k.2))

slots_have : (section first n index : ℕ) → first ≤ index → index < first + n → Among (section, index) (slots section first n)
unfolding slots
slots_have section first zero index low high = absurd (omega arith)
slots_have section first (suc n) index low high = elim (cases_lt first index) [
  | inl later ↦ inr (slots_have section (first + 1) n index (omega arith) (omega arith))
  | inr here ↦ (let e : index ≡ first = omega arith in inl (ap (λ (k : ℕ). (section, k)) e))
]

-- a place in the sections from this one on
record InSections (counts : List ℕ) (section : ℕ) (x : ℕ × ℕ) : Type 0 where
  trailing : ℕ
  there : x.0 ≡ section + trailing
  known : trailing < length counts
  below : x.1 < get_or counts trailing 0

in_sections : (counts : List ℕ) (section : ℕ) (x : ℕ × ℕ) → Among x (slots_from section counts) → InSections counts section x
unfolding slots_from
in_sections [] section x h = absurd h
in_sections (count ∷ counts) section x h = elim (among_either x (slots section 0 count) (slots_from (section + 1) counts) h) [
  | inl here ↦
      let p = in_slots section 0 count x here in
      record { trailing = 0; there = omega (arith, p.0); known = omega arith; below = omega (arith, p.2) }
  | inr later ↦
      let p = in_sections counts (section + 1) x later in
      record { trailing = suc p.trailing; there = omega (arith, p.there); known = omega (arith, p.known); below = p.below }
]

sections_have : (counts : List ℕ) (section trailing index : ℕ) → trailing < length counts → index < get_or counts trailing 0 → Among (section + trailing, index) (slots_from section counts)
unfolding slots_from
sections_have [] section trailing index known below = absurd (omega arith)
sections_have (count ∷ counts) section zero index known below =
    let here : section ≡ section + 0 = omega arith in
    among_prefix (section + 0, index) (slots section 0 count) (slots_from (section + 1) counts)
    (subst (λ (s : ℕ). Among (s, index) (slots section 0 count)) here (slots_have section 0 count index (omega arith) (omega arith)))
sections_have (count ∷ counts) section (suc trailing) index known below =
    let here : section + 1 + trailing ≡ section + suc trailing = omega arith in
    among_back (section + suc trailing, index) (slots section 0 count) (slots_from (section + 1) counts)
    (subst (λ (s : ℕ). Among (s, index) (slots_from (section + 1) counts)) here (sections_have counts (section + 1) trailing index (omega arith) below))

-- ---- the counts

pair_is : (m : List ℕ) (at : ℕ) → from_be_bytes w16 (take 2 (drop at m)) ≡ get_or m at 0 * 256 + get_or m (at + 1) 0
pair_is m at =
    let high : get_or (take 2 (drop at m)) 0 0 ≡ get_or m at 0 = get_or-take 2 (drop at m) 0 0 (omega arith) ∙ get_or-drop at m 0 0 ∙ ap (λ (k : ℕ). get_or m k 0) (omega arith) in
    let low : get_or (take 2 (drop at m)) 1 0 ≡ get_or m (at + 1) 0 = get_or-take 2 (drop at m) 1 0 (omega arith) ∙ get_or-drop at m 1 0 in
    omega arith

count_there : (m : List ℕ) (section : ℕ) → section ≤ 3 → get_or (counts_of m) section 0 ≡ from_be_bytes w16 (take 2 (drop (4 + 2 * section) m))
count_there m zero low = sym (pair_is m 4)
count_there m (suc zero) low = sym (pair_is m 6)
count_there m (suc (suc zero)) low = sym (pair_is m 8)
count_there m (suc (suc (suc zero))) low = sym (pair_is m 10)
count_there m (suc (suc (suc (suc section)))) low = absurd (omega arith)

among_counted : (m : List ℕ) (section index : ℕ) → IsCounted m section index → Among (section, index) (counted_slots m)
among_counted m section index is =
    let same : is.count ≡ get_or (counts_of m) section 0 = is.occurs.is ∙ sym (count_there m section is.four) in
    let here : 0 + section ≡ section = omega arith in
    subst (λ (s : ℕ). Among (s, index) (counted_slots m)) here (sections_have (counts_of m) 0 section index (omega (arith, is.four)) (omega (arith, is.below, same)))

counted_among : (m : List ℕ) (section index : ℕ) → 12 ≤ length m → Among (section, index) (counted_slots m) → IsCounted m section index
counted_among m section index header h =
    let p = in_sections (counts_of m) 0 (section, index) h in
    let here : p.trailing ≡ section = omega (arith, p.there) in
    let four : section ≤ 3 = omega (arith, p.known, here) in
    record {
      four = four;
      count = get_or (counts_of m) section 0;
      occurs = record { end_is = refl; within = omega arith; is = count_there m section four };
      below = subst (λ (s : ℕ). index < get_or (counts_of m) s 0) here p.below;
    }

pub counted_words : (m : List ℕ) (section index : ℕ) → 12 ≤ length m → Contains (counted_slots m) (section, index) ↔ IsCounted m section index
counted_words m section index header = (
  λ h. counted_among m section index header (among (section, index) (counted_slots m) h),
  λ is. contained (section, index) (counted_slots m) (among_counted m section index is),
)

-- ---- the order

abbrev Rises : List (ℕ × ℕ) → Type 0
Rises [] = Unit {0}
Rises (x ∷ xs) = ((y : ℕ × ℕ) → Among y xs → IsEarlier x y) × Rises xs

both_rise : (xs ys : List (ℕ × ℕ)) → Rises xs → Rises ys → ((x y : ℕ × ℕ) → Among x xs → Among y ys → IsEarlier x y) → Rises (xs ++ ys)
both_rise [] ys p q far = q
both_rise (x ∷ xs) ys p q far = (
  λ y h. elim (among_either y xs ys h) [ inl prefix ↦ p.0 y prefix | inr back ↦ far x y (inl refl) back ],
  both_rise xs ys p.1 q (λ z y prefix back. far z y (inr prefix) back),
)

slots_rise : (section first n : ℕ) → Rises (slots section first n)
unfolding slots
slots_rise section first zero = tt
slots_rise section first (suc n) = (λ y h. (let k = in_slots section (first + 1) n y h in inr (sym k.0, omega (arith, k.1))), slots_rise section (first + 1) n)

sections_rise : (counts : List ℕ) (section : ℕ) → Rises (slots_from section counts)
unfolding slots_from
sections_rise [] section = tt
sections_rise (count ∷ counts) section =
    both_rise (slots section 0 count) (slots_from (section + 1) counts) (slots_rise section 0 count) (sections_rise counts (section + 1))
    (λ x y prefix back. (let k = in_slots section 0 count x prefix in let p = in_sections counts (section + 1) y back in inl (omega (arith, k.0, p.there))))

before_is : (prefix middle back : List (ℕ × ℕ)) (x y : ℕ × ℕ) → Rises (prefix ++ x ∷ (middle ++ y ∷ back)) → IsEarlier x y
before_is [] middle back x y p = p.0 y (among_back y middle (y ∷ back) (inl refl))
before_is (z ∷ prefix) middle back x y p = before_is prefix middle back x y p.1

not_both : (x y : ℕ × ℕ) → IsEarlier x y → IsEarlier y x → ⊥
not_both x y (inl p) (inl q) = absurd (omega arith)
not_both x y (inl p) (inr q) = absurd (omega (arith, q.0))
not_both x y (inr p) (inl q) = absurd (omega (arith, p.0))
not_both x y (inr p) (inr q) = absurd (omega (arith, p.1, q.1))

parted : (y : ℕ × ℕ) (ys : List (ℕ × ℕ)) → Among y ys → (prefix back : List (ℕ × ℕ)) × (ys ≡ prefix ++ y ∷ back)
parted y [] h = absurd h
parted y (z ∷ ys) (inl e) = ([], ys, ap (λ (w : ℕ × ℕ). w ∷ ys) (sym e))
parted y (z ∷ ys) (inr h) = let p = parted y ys h in (z ∷ p.0, p.1, ap (λ (l : List (ℕ × ℕ)). z ∷ l) p.2)

occurs_before : (xs : List (ℕ × ℕ)) (x y : ℕ × ℕ) → Rises xs → Among x xs → Among y xs → IsEarlier x y → ComesBefore x y xs
occurs_before [] x y rises h k earlier = absurd h
occurs_before (z ∷ zs) x y rises (inl e) (inl f) earlier =
    let same : x ≡ y = e ∙ sym f in
    absurd (not_both x y earlier (subst (λ (w : ℕ × ℕ). IsEarlier w x) same (subst (IsEarlier x) (sym same) earlier)))
occurs_before (z ∷ zs) x y rises (inl e) (inr k) earlier =
    let p = parted y zs k in
    ([], p.0, p.1, ap (λ (w : ℕ × ℕ). w ∷ zs) (sym e) ∙ ap (λ (l : List (ℕ × ℕ)). x ∷ l) p.2)
occurs_before (z ∷ zs) x y rises (inr h) (inl f) earlier = absurd (not_both x y earlier (subst (λ (w : ℕ × ℕ). IsEarlier w x) (sym f) (rises.0 x h)))
occurs_before (z ∷ zs) x y rises (inr h) (inr k) earlier =
    let s = occurs_before zs x y rises.1 h k earlier in
    (z ∷ s.0, s.1, s.2, ap (λ (l : List (ℕ × ℕ)). z ∷ l) s.3)

pub earlier_before : (m : List ℕ) (x y : ℕ × ℕ) → ComesBefore x y (counted_slots m) → IsEarlier x y
earlier_before m x y (prefix, middle, back, is) = before_is prefix middle back x y (subst Rises is (sections_rise (counts_of m) 0))

pub order_words : (m : List ℕ) (section index other place : ℕ) → IsCounted m section index → IsCounted m other place
    → ComesBefore (section, index) (other, place) (counted_slots m) ↔ IsEarlier (section, index) (other, place)
order_words m section index other place is also = (
  earlier_before m (section, index) (other, place),
  occurs_before (counted_slots m) (section, index) (other, place) (sections_rise (counts_of m) 0) (among_counted m section index is) (among_counted m other place also),
)

pub occurs_once : (m : List ℕ) (section index : ℕ) → ComesBefore (section, index) (section, index) (counted_slots m) → ⊥
occurs_once m section index before =
    let earlier = earlier_before m (section, index) (section, index) before in
    not_both (section, index) (section, index) earlier earlier
