-- The digits of octets, by blocks.
use Rattle.std.proofs.Common.{◌≡◌, ℕ, ◌+◌, ◌*◌, ◌/◌, ◌%◌, ◌<◌, ◌≤◌, bit_and, cond, ltb, true, Fits, w8, List, [], ◌∷◌, ◌++◌, length, map, take, drop, refl, sym, ap, ap₂, ◌∙◌, subst, arith, codes, slice_index, flat_map, append_assoc, take_all}
use Rattle.std.specs.Prelude.{All}
use Rattle.std.proofs.lemmas.Bool.{agree_below, agree_below_at, ltb-true}
use Rattle.std.proofs.lemmas.List.{length-drop, length-take-le, take-append-drop, take-take}
use Rattle.std.proofs.Math.Seq.{take-add, take-append_seam}
use Rattle.std.proofs.lemmas.Grind.{flat_map-append}
use Rattle.std.proofs.lemmas.Simd.{below_from_Fits, length-chunk, length-put_chunk, pick_l_whole, take_more_put_chunk, Each1-get_or}
use lib.Lanes.{Each1, chunk, pick_l, put_chunk, top}
use Rattle.dns_text.specs.Hexadecimal.{shown}
use Rattle.dns_text.proofs.Encoding.{shown_long}
use Rattle.dns_wire.proofs.Lanes.{at_each}
use Rattle.dns_text.proofs.Lanes.{below, more}

-- the digit of a value below 16, as a lane computes it
abbrev pub digit_lane : ℕ → ℕ
digit_lane x = cond (top 7 (below 9 x)) (more x 87) (more x 48)

-- ---- the digits of a block

abbrev pub digits_of : List ℕ → List ℕ
digits_of values = map (slice_index (codes "0123456789abcdef")) values

each_small : (f : ℕ → ℕ) → agree_below (λ b. ltb (f b) 16) (λ _. true) 256 ≡ true → (octets : List ℕ) → Each1 (Fits w8) octets → Each1 (λ value. value < 16) (map f octets)
each_small f few [] fits = tt
each_small f few (b ∷ rest) fits = (ltb-true (f b) 16 (agree_below_at (λ o. ltb (f o) 16) (λ _. true) 256 b few fits.0.fits), each_small f few rest fits.1)

-- half an octet has a digit
pub all_small : (f : ℕ → ℕ) → agree_below (λ b. ltb (f b) 16) (λ _. true) 256 ≡ true → (octets : List ℕ) {values : List ℕ} → Each1 (Fits w8) octets → values ≡ map f octets → All (λ value. value < 16) values
all_small f few octets {values} fits is k d within = Each1-get_or (λ value. value < 16) values k d within (subst (Each1 (λ value. value < 16)) (sym is) (each_small f few octets fits))

-- the digits of the first eight octets, and those of the others
abbrev pub Halves : List ℕ → List ℕ → List ℕ → Type 0
Halves octets first second = (first ≡ flat_map shown (take 8 octets)) × (second ≡ flat_map shown (drop 8 octets))

-- the same of two vectors that are interleaved
abbrev Interleaved : List ℕ → List ℕ → List ℕ → Type 0
Interleaved octets high low =
    Halves octets (pick_l 0 (high ++ low) (0 ∷ 16 ∷ 1 ∷ 17 ∷ 2 ∷ 18 ∷ 3 ∷ 19 ∷ 4 ∷ 20 ∷ 5 ∷ 21 ∷ 6 ∷ 22 ∷ 7 ∷ 23 ∷ []))
    (pick_l 0 (high ++ low) (8 ∷ 24 ∷ 9 ∷ 25 ∷ 10 ∷ 26 ∷ 11 ∷ 27 ∷ 12 ∷ 28 ∷ 13 ∷ 29 ∷ 14 ∷ 30 ∷ 15 ∷ 31 ∷ []))

-- a high digit and a low one by turns
in_turns : (octets : List ℕ) → length octets ≡ 16 → Interleaved octets (digits_of (map (λ b. b / 16) octets)) (digits_of (map (λ b. b % 16) octets))
in_turns octets long = subst (λ (l : List ℕ). Interleaved l (digits_of (map (λ b. b / 16) l)) (digits_of (map (λ b. b % 16) l))) (pick_l_whole 0 octets 16 long) (refl, refl)

pub block_is : (octets : List ℕ) {high low : List ℕ} → (length octets ≡ 16) × Each1 (Fits w8) octets → high ≡ digits_of (map (λ b. b / 16) octets) → low ≡ digits_of (map (λ b. bit_and b 15) octets)
    → Interleaved octets high low
block_is octets (long, fits) p q =
    let rests = at_each (λ b. bit_and b 15) (λ b. b % 16) 256 refl octets (below_from_Fits w8 octets fits) in
    rw (p, q ∙ ap digits_of rests) (in_turns octets long)

-- ---- one block after another

module _ (octets text first second : List ℕ) (at : ℕ) (within : at + 16 ≤ length octets) (long : length text ≡ 2 * length octets)
    (so_far : take (2 * at) text ≡ flat_map shown (take at octets)) (block : Halves (chunk at 16 octets) first second) where
  abbrev here : List ℕ
  here = chunk at 16 octets

  sixteen : length here ≡ 16
  sixteen = length-chunk at 16 octets within

  first_long : length first ≡ 16
  first_long = ap length block.0 ∙ shown_long (take 8 here) ∙ ap (λ n. 2 * n) (length-take-le 8 here (omega (arith, sixteen)))

  second_long : length second ≡ 16
  second_long = ap length block.1 ∙ omega (arith, shown_long (drop 8 here), length-drop 8 here, sixteen)

  pub next_block : take (2 * (at + 16)) (put_chunk (2 * at + 16) (put_chunk (2 * at) text first) second) ≡ flat_map shown (take (at + 16) octets)
  next_block =
      let one : take (2 * at + 16) (put_chunk (2 * at) text first) ≡ take (2 * at) text ++ first =
      take_more_put_chunk (2 * at) text first (2 * at + 16) (omega (arith, first_long)) (omega (arith, within, long)) in
      take_more_put_chunk (2 * at + 16) (put_chunk (2 * at) text first) second (2 * (at + 16)) (omega (arith, second_long)) (omega (arith, within, long, length-put_chunk (2 * at) text first))
      ∙ ap₂ (λ (x y : List ℕ). x ++ y) (one ∙ ap₂ (λ (x y : List ℕ). x ++ y) so_far block.0) block.1
      ∙ append_assoc (flat_map shown (take at octets)) (flat_map shown (take 8 here)) (flat_map shown (drop 8 here))
      ∙ ap (λ (l : List ℕ). flat_map shown (take at octets) ++ l) (sym (flat_map-append shown (take 8 here) (drop 8 here)) ∙ ap (flat_map shown) (take-append-drop 8 here))
      ∙ sym (flat_map-append shown (take at octets) here) ∙ ap (flat_map shown) (sym (take-add at 16 octets))

-- ---- the last block, which may overlap the one before it

-- the digits of fewer octets are the first of the digits
pub fewer_shown : (octets text : List ℕ) (at fewer : ℕ) → fewer ≤ at → at ≤ length octets → take (2 * at) text ≡ flat_map shown (take at octets) → take (2 * fewer) text ≡ flat_map shown (take fewer octets)
fewer_shown octets text at fewer less within so_far =
    let first = take fewer octets in
    let others = drop fewer (take at octets) in
    let split : take at octets ≡ first ++ others = sym (take-append-drop fewer (take at octets)) ∙ ap (λ (l : List ℕ). l ++ others) (take-take fewer at octets less) in
    let long : length (flat_map shown first) ≡ 2 * fewer = shown_long first ∙ ap (λ (n : ℕ). 2 * n) (length-take-le fewer octets (omega (arith, less, within))) in
    sym (take-take (2 * fewer) (2 * at) text (omega (arith, less))) ∙ ap (take (2 * fewer)) (so_far ∙ ap (flat_map shown) split ∙ flat_map-append shown first others)
    ∙ (λ i. take (sym long i) (flat_map shown first ++ flat_map shown others)) ∙ take-append_seam (flat_map shown first) (flat_map shown others)

-- once the last block is there, all digits are
pub last_block : (octets text : List ℕ) (at : ℕ) → at ≡ length octets → length text ≡ 2 * length octets → take (2 * at) text ≡ flat_map shown (take at octets) → text ≡ flat_map shown octets
last_block octets text at whole long all =
    sym (take_all (2 * at) text (omega (arith, whole, long))) ∙ all ∙ ap (flat_map shown) (take_all at octets (omega (arith, whole)))
