-- Octets written one part after another.
use Rattle.std.proofs.Common.{◌≡◌, ℕ, ◌+◌, List, [], ◌++◌, length, take, drop, ap, ◌∙◌, arith}
use Rattle.std.proofs.lemmas.List.{take_at, drop_at, length-append, append-nil}
use Rattle.std.proofs.lemmas.Slice.{take-put_mid}
use borrow.Rule.Slice.PartMut.{put_mid}

module _ {a : ℕ} (k : ℕ) (zeros prefix part : List ℕ) (long : length prefix ≡ a) where
  -- up to the end of the second part
  pub trailing : (n : ℕ) → n ≡ a + length part → take n (put_mid a k (prefix ++ zeros) part) ≡ prefix ++ part
  trailing n end =
      take-put_mid a k (prefix ++ zeros) part n end (omega (arith, length-append prefix zeros))
      ∙ ap (λ (l : List ℕ). l ++ part) (take_at prefix zeros a long)

  -- if nothing is after it
  pub filled : drop k zeros ≡ [] → put_mid a k (prefix ++ zeros) part ≡ prefix ++ part
  filled none =
      ap (λ (l : List ℕ). l ++ (part ++ drop k (drop a (prefix ++ zeros)))) (take_at prefix zeros a long)
      ∙ ap (λ (l : List ℕ). prefix ++ (part ++ drop k l)) (drop_at prefix zeros a long)
      ∙ ap (λ (l : List ℕ). prefix ++ (part ++ l)) none
      ∙ ap (λ (l : List ℕ). prefix ++ l) (append-nil part)
