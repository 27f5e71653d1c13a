-- The order of labels, octet by octet.
use Rattle.std.proofs.Common.{◌≡◌, ℕ, ◌-◌, ◌<◌, ◌≤◌, List, [], ◌∷◌, Bool, true, false, length, drop, refl, sym, ap, ◌∙◌, arith, nat_cmp, ◌⊎◌, inl, inr}
use Rattle.std.specs.Prelude.{◌↔◌, IsTrue}
use Rattle.std.specs.Ordering.{is_eq}
use Rattle.std.specs.Cmp.{Equal-is}
use Rattle.std.specs.Str.{str_to_ascii_lowercase}
use Rattle.std.specs.declared.cmp.Ordering.TheVariants.{Less, Greater}
use Rattle.std.proofs.lemmas.Bool.Decides.{nat_tests}
use Rattle.std.proofs.lemmas.Cmp.{nat_list_cmp_total, tied_itself}
use Rattle.std.proofs.lemmas.List.{length-drop}
use Rattle.std.specs.Cmp.Lexicographic.{slice_cmp}
use Rattle.dns_label.specs.Hashing.{lowered_from_order}
use Rattle.dns_label.specs.Order.{label_cmp}

-- ---- the end of a label

one_ended : (xs ys : List ℕ) → (length xs ≡ 0) ⊎ (length ys ≡ 0) → label_cmp xs ys ≡ nat_cmp (length xs) (length ys)
one_ended [] [] h = refl
one_ended [] (y ∷ ys) h = sym (below 0 (length (y ∷ ys)) (omega arith)) where
  below : (n m : ℕ) → n < m → nat_cmp n m ≡ Less
  below n m h = grind (arith, nat_tests)
one_ended (x ∷ xs) [] h = sym (above 0 (length (x ∷ xs)) (omega arith)) where
  above : (n m : ℕ) → n < m → nat_cmp m n ≡ Greater
  above n m h = grind (arith, nat_tests)
one_ended (x ∷ xs) (y ∷ ys) (inl e) = absurd (omega arith)
one_ended (x ∷ xs) (y ∷ ys) (inr e) = absurd (omega arith)

same_less : (n m at : ℕ) → at ≤ n → at ≤ m → nat_cmp (n - at) (m - at) ≡ nat_cmp n m
same_less n m at h k = grind (arith, nat_tests)

pub label_ended : (a b : List ℕ) (at : ℕ) → at ≤ length a → at ≤ length b → (length a ≤ at) ⊎ (length b ≤ at) → label_cmp (drop at a) (drop at b) ≡ nat_cmp (length a) (length b)
label_ended a b at h k past =
    one_ended (drop at a) (drop at b) (elim past [ inl p ↦ inl (omega (arith, length-drop at a)) | inr p ↦ inr (omega (arith, length-drop at b)) ])
    ∙ ap (λ (n : ℕ). nat_cmp n (length (drop at b))) (length-drop at a)
    ∙ ap (nat_cmp (length a - at)) (length-drop at b)
    ∙ same_less (length a) (length b) at h k

-- ---- equality

-- a test of the contents in lowercase is a test of the order
pub same_labels : (a b : List ℕ) (r : Bool) → (IsTrue r ↔ (str_to_ascii_lowercase a ≡ str_to_ascii_lowercase b)) → r ≡ is_eq (label_cmp a b)
same_labels a b true test =
    sym (ap is_eq (ap (λ (k : List ℕ). slice_cmp nat_cmp k (str_to_ascii_lowercase b)) (test.0 refl) ∙ tied_itself nat_list_cmp_total (str_to_ascii_lowercase b)))
same_labels a b false test = by (is_eq (label_cmp a b)) refl where
  by : (t : Bool) → is_eq (label_cmp a b) ≡ t → false ≡ t
  by false e = refl
  by true e = test.1 (lowered_from_order a b ((Equal-is (label_cmp a b)).0 e))
