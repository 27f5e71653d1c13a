-- Bitmaps with the same types have the same octets.
use Rattle.std.proofs.Common.{◌≡◌, ℕ, zero, suc, ◌+◌, ◌-◌, ◌*◌, ◌/◌, ◌%◌, ◌^◌, ◌<◌, ◌≤◌, inl, inr, Bool, true, false, List, [], ◌∷◌, ◌++◌, length, drop, get_or, refl, sym, ap, subst, ◌∙◌, arith}
use Rattle.std.specs.Prelude.{◌==◌, ◌↔◌}
use Rattle.std.proofs.lemmas.Bool.{cases_lt}
use Rattle.std.proofs.lemmas.Bool.Decides.{nat_tests}
use Rattle.dns_wire.specs.Reading.{AreOctets}
use Rattle.dns_record.specs.InPlace.{WindowsFrom, AreBits}
use Rattle.dns_record.specs.TypeBitMaps.{Window, is_bitmap, windows_octets}
use Rattle.dns_record.proofs.Bitmaps.{bitmap_is}
use Rattle.dns_nsec.specs.Bitmaps.{bits_of, set_from, window_types, windows_types, types_in}
use Rattle.dns_nsec.proofs.WindowBits.{bit_of, past_end}
use Rattle.dns_nsec.proofs.NamedTypes.{is_in, in_set, no_types}
use Rattle.dns_nsec.proofs.Parted.{no_windows, windows_these}
use Rattle.dns_nsec.proofs.RisingTypes.{RisesFrom, Rises, window_rises, windows_rise_from}

-- ---- lists

first_same : (x y : ℕ) (xs ys : List ℕ) → x ∷ xs ≡ y ∷ ys → x ≡ y
first_same x y xs ys e = ap (λ (l : List ℕ). get_or l 0 0) e

others_same : (x y : ℕ) (xs ys : List ℕ) → x ∷ xs ≡ y ∷ ys → xs ≡ ys
others_same x y xs ys e = ap (λ (l : List ℕ). drop 1 l) e

same_lists : (xs ys : List ℕ) → length xs ≡ length ys → ((i : ℕ) → get_or xs i 0 ≡ get_or ys i 0) → xs ≡ ys
same_lists [] [] e each = refl
same_lists [] (y ∷ ys) e each = absurd (omega (arith, e))
same_lists (x ∷ xs) [] e each = absurd (omega (arith, e))
same_lists (x ∷ xs) (y ∷ ys) e each =
    let first : x ≡ y = each 0 in
    let others : xs ≡ ys = same_lists xs ys (omega (arith, e)) (λ i. each (suc i)) in
    rw (first, others) refl

prefix_octets : (xs ys : List ℕ) → AreOctets (xs ++ ys) → AreOctets xs
prefix_octets [] ys all i = omega arith
prefix_octets (x ∷ xs) ys all zero = all 0
prefix_octets (x ∷ xs) ys all (suc i) = prefix_octets xs ys (λ k. all (suc k)) i

back_octets : (xs ys : List ℕ) → AreOctets (xs ++ ys) → AreOctets ys
back_octets [] ys all = all
back_octets (x ∷ xs) ys all = back_octets xs ys (λ k. all (suc k))

-- rising numbers part where they pass a number
parted : (a b middle : ℕ) (xs ys us vs : List ℕ) → Rises a middle xs → Rises b middle ys → RisesFrom middle us → RisesFrom middle vs → xs ++ us ≡ ys ++ vs → (xs ≡ ys) × (us ≡ vs)
parted a b middle [] [] us vs p q r s e = (refl, e)
parted a b middle [] (y ∷ ys) [] vs p q r s e = absurd cc
parted a b middle [] (y ∷ ys) (u ∷ us) vs p q r s e = absurd (omega (arith, first_same u y us (ys ++ vs) e, r.0, q.1))
parted a b middle (x ∷ xs) [] us [] p q r s e = absurd cc
parted a b middle (x ∷ xs) [] us (v ∷ vs) p q r s e = absurd (omega (arith, first_same x v (xs ++ us) vs e, s.0, p.1))
parted a b middle (x ∷ xs) (y ∷ ys) us vs p q r s e =
    let first : x ≡ y = first_same x y (xs ++ us) (ys ++ vs) e in
    let others = parted (suc x) (suc y) middle xs ys us vs p.2 q.2 r s (others_same x y (xs ++ us) (ys ++ vs) e) in
    (ap (λ (n : ℕ). n ∷ xs) first ∙ ap (λ (l : List ℕ). y ∷ l) others.0, others.1)

-- ---- octets by their bits

octet_same : (b c : ℕ) → b < 256 → c < 256 → b / 128 % 2 ≡ c / 128 % 2 → b / 64 % 2 ≡ c / 64 % 2 → b / 32 % 2 ≡ c / 32 % 2 → b / 16 % 2 ≡ c / 16 % 2 → b / 8 % 2 ≡ c / 8 % 2 → b / 4 % 2 ≡ c / 4 % 2 → b / 2 % 2 ≡ c / 2 % 2 → b % 2 ≡ c % 2 → b ≡ c
octet_same b c p q e1 e2 e3 e4 e5 e6 e7 e8 =
    let h2 : b / 64 ≡ c / 64 = omega (arith, p, q, e1, e2) in
    let h4 : b / 16 ≡ c / 16 = omega (arith, h2, e3, e4) in
    let h6 : b / 4 ≡ c / 4 = omega (arith, h4, e5, e6) in
    omega (arith, h6, e7, e8)

test_same : (a b : ℕ) → (a % 2 == 1) ≡ (b % 2 == 1) → a % 2 ≡ b % 2
test_same a b e = by (a % 2 == 1) (b % 2 == 1) refl refl e where
  by : (s t : Bool) → (a % 2 == 1) ≡ s → (b % 2 == 1) ≡ t → s ≡ t → a % 2 ≡ b % 2
  by true true p q e = grind (arith, nat_tests)
  by false false p q e = grind (arith, nat_tests)
  by true false p q e = absurd cc
  by false true p q e = absurd cc

module _ (n : ℕ) (xs ys : List ℕ) (same : set_from n (bits_of xs) ≡ set_from n (bits_of ys)) where
  bit_same : (i j : ℕ) → j < 8 → get_or xs i 0 / 2 ^ (7 - j) % 2 ≡ get_or ys i 0 / 2 ^ (7 - j) % 2
  bit_same i j lt =
      let here : (8 * i + j) / 8 ≡ i = omega (arith, lt) in
      let there : (8 * i + j) % 8 ≡ j = omega (arith, lt) in
      let alike : (get_or (bits_of xs) (8 * i + j) 0 == 1) ≡ (get_or (bits_of ys) (8 * i + j) 0 == 1) = sym (in_set n (8 * i + j) (bits_of xs)) ∙ ap (is_in (n + (8 * i + j))) same ∙ in_set n (8 * i + j) (bits_of ys) in
      let spelled = rw (bit_of xs (8 * i + j), bit_of ys (8 * i + j), here, there) at alike in
      test_same (get_or xs i 0 / 2 ^ (7 - j)) (get_or ys i 0 / 2 ^ (7 - j)) spelled

  whole : (b c : ℕ) → b / 1 % 2 ≡ c / 1 % 2 → b % 2 ≡ c % 2
  whole b c e = omega (arith, e)

  octets_same : AreOctets xs → AreOctets ys → (i : ℕ) → get_or xs i 0 ≡ get_or ys i 0
  octets_same small low i =
      octet_same (get_or xs i 0) (get_or ys i 0) (small i) (low i)
      (bit_same i 0 (omega arith)) (bit_same i 1 (omega arith)) (bit_same i 2 (omega arith)) (bit_same i 3 (omega arith))
      (bit_same i 4 (omega arith)) (bit_same i 5 (omega arith)) (bit_same i 6 (omega arith)) (whole (get_or xs i 0) (get_or ys i 0) (bit_same i 7 (omega arith)))

no_longer : (xs ys : List ℕ) → AreBits xs → ((i : ℕ) → get_or xs i 0 ≡ get_or ys i 0) → length xs ≤ length ys
no_longer xs ys bits each = elim (cases_lt (length ys) (length xs)) [
  | inl lt ↦ absurd (omega (arith, lt, bits.last, each (length xs - 1), past_end ys (length xs - 1) (omega (arith, lt))))
  | inr le ↦ le
]

bits_same : (n : ℕ) (xs ys : List ℕ) → AreBits xs → AreBits ys → AreOctets xs → AreOctets ys → set_from n (bits_of xs) ≡ set_from n (bits_of ys) → xs ≡ ys
bits_same n xs ys p q small low e =
    let each = octets_same n xs ys e small low in
    same_lists xs ys (omega (arith, no_longer xs ys p each, no_longer ys xs q (λ i. sym (each i)))) each

some_type : (n : ℕ) (xs : List ℕ) → AreBits xs → AreOctets xs → set_from n (bits_of xs) ≡ [] → ⊥
unfolding set_from bits_of
some_type n xs bits small e =
    let each = octets_same n xs [] e small (λ i. omega arith) in
    omega (arith, bits.last, each (length xs - 1))

-- ---- windows

first_type : (w : Window) (others : List Window) (least : ℕ) → WindowsFrom least (w ∷ others) → AreOctets w.bits → (rest : List ℕ) (low : ℕ) → RisesFrom low rest → 256 * suc w.number ≤ low → windows_types (w ∷ others) ≡ rest → ⊥
unfolding windows_types
first_type w others least rise small rest low r le e = by (window_types w) refl (window_rises w rise.1.few) e where
  by : (types : List ℕ) → window_types w ≡ types → Rises (256 * w.number) (256 * suc w.number) types → types ++ windows_types others ≡ rest → ⊥
  by [] none q h = some_type (256 * w.number) w.bits rise.1 small none
  by (t ∷ ts) is q h = above rest r h where
    above : (rest : List ℕ) → RisesFrom low rest → t ∷ (ts ++ windows_types others) ≡ rest → ⊥
    above [] r h = absurd cc
    above (x ∷ xs) r h = absurd (omega (arith, q.1, r.0, le, first_same t x (ts ++ windows_types others) xs h))

window_same : (w v : Window) → w.number ≡ v.number → w.bits ≡ v.bits → w ≡ v
window_same w v number bits = rw (number, bits) refl

windows_same : (ws vs : List Window) (least : ℕ) → WindowsFrom least ws → WindowsFrom least vs → AreOctets (windows_octets ws) → AreOctets (windows_octets vs) → windows_types ws ≡ windows_types vs → ws ≡ vs
unfolding windows_types
windows_same [] [] least p q small low e = refl
windows_same [] (v ∷ vs) least p q small low e = absurd (first_type v vs least q (prefix_octets v.bits (windows_octets vs) (λ i. low (suc (suc i)))) [] (256 * suc v.number) tt (omega arith) (sym e))
windows_same (w ∷ ws) [] least p q small low e = absurd (first_type w ws least p (prefix_octets w.bits (windows_octets ws) (λ i. small (suc (suc i)))) [] (256 * suc w.number) tt (omega arith) e)
windows_same (w ∷ ws) (v ∷ vs) least p q small low e = elim (cases_lt w.number v.number) [
  | inl lt ↦ absurd (first_type w ws least p w-small (windows_types (v ∷ vs)) (256 * v.number) (windows_rise_from v.number (v ∷ vs) (omega arith, q.1, q.2)) (omega (arith, lt)) e)
  | inr le ↦ elim (cases_lt v.number w.number) [
    | inl lt ↦ absurd (first_type v vs least q v-small (windows_types (w ∷ ws)) (256 * w.number) (windows_rise_from w.number (w ∷ ws) (omega arith, p.1, p.2)) (omega (arith, lt)) (sym e))
    | inr ge ↦ alike (omega (arith, le, ge)) (λ rise others. windows_same ws vs (suc w.number) p.2 rise (back_octets w.bits (windows_octets ws) (λ i. small (suc (suc i)))) (back_octets v.bits (windows_octets vs) (λ i. low (suc (suc i)))) others)
  ]
] where
  w-small : AreOctets w.bits
  w-small = prefix_octets w.bits (windows_octets ws) (λ i. small (suc (suc i)))

  v-small : AreOctets v.bits
  v-small = prefix_octets v.bits (windows_octets vs) (λ i. low (suc (suc i)))

  alike : w.number ≡ v.number → (WindowsFrom (suc w.number) vs → windows_types ws ≡ windows_types vs → ws ≡ vs) → w ∷ ws ≡ v ∷ vs
  alike number again =
      let rise : WindowsFrom (suc w.number) vs = subst (λ (n : ℕ). WindowsFrom (suc n) vs) (sym number) q.2 in
      let there : Rises (256 * w.number) (256 * suc w.number) (window_types v) = subst (λ (n : ℕ). Rises (256 * n) (256 * suc n) (window_types v)) (sym number) (window_rises v q.1.few) in
      let parts = parted (256 * w.number) (256 * w.number) (256 * suc w.number) (window_types w) (window_types v) (windows_types ws) (windows_types vs) (window_rises w p.1.few) there (windows_rise_from (suc w.number) ws p.2) (windows_rise_from (suc w.number) vs rise) e in
      let types : set_from (256 * w.number) (bits_of w.bits) ≡ set_from (256 * w.number) (bits_of v.bits) = parts.0 ∙ ap (λ (n : ℕ). set_from (256 * n) (bits_of v.bits)) (sym number) in
      let same : w ≡ v = window_same w v number (bits_same (256 * w.number) w.bits v.bits p.1 q.1 w-small v-small types) in
      ap (λ (x : Window). x ∷ ws) same ∙ ap (λ (l : List Window). v ∷ l) (again rise parts.1)

-- ---- bitmaps

pub bitmaps_same : (a b : List ℕ) → AreOctets a → AreOctets b → is_bitmap a ≡ true → is_bitmap b ≡ true → types_in a ≡ types_in b → a ≡ b
unfolding types_in
bitmaps_same a b small low p q e =
    let w = bitmap_is a p in
    let v = bitmap_is b q in
    let types : windows_types w.windows ≡ windows_types v.windows = sym (ap windows_types (windows_these a w)) ∙ e ∙ ap windows_types (windows_these b v) in
    let same = windows_same w.windows v.windows 0 w.rise v.rise (subst AreOctets w.is small) (subst AreOctets v.is low) types in
    w.is ∙ ap windows_octets same ∙ sym v.is

pub no_types_no_octets : (bytes : List ℕ) → AreOctets bytes → is_bitmap bytes ≡ true → (types_in bytes ≡ []) ↔ (bytes ≡ [])
no_types_no_octets bytes small is = (λ e. bitmaps_same bytes [] small (λ i. omega arith) is none.0 (e ∙ sym none.1), λ e. ap types_in e ∙ none.1) where
  none : (is_bitmap [] ≡ true) × (types_in [] ≡ [])
  none = (no_windows.0, no_types [] no_windows.1)
