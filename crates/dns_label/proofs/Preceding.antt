-- A comparison of lists answers `Less` exactly if the one precedes the other.
use Rattle.std.proofs.Common.{◌≡◌, ℕ, ◌<◌, List, [], ◌∷◌, ◌++◌, refl, sym, ap, ◌∙◌, inl, inr, arith, nat_cmp}
use Rattle.std.specs.Ordering.{ordering_then}
use Rattle.std.specs.Cmp.{nat_cmp_is}
use Rattle.std.specs.Cmp.Lexicographic.{slice_cmp}
use Rattle.std.specs.FinMap.{nat_cmp-IsAntisymmetric}
use Rattle.std.specs.declared.cmp.Ordering.{Ordering}
use Rattle.std.specs.declared.cmp.Ordering.TheVariants.{Less, Equal, Greater}
use Rattle.std.proofs.lemmas.Bool.{cases_lt}
use Rattle.std.proofs.lemmas.List.{append-nil}
use Rattle.dns_label.specs.Order.{Precedes}
use Rattle.dns_label.specs.Order.Precedes.{ends, differs}

-- a comparison answers `Less` exactly if the relation holds, and `Equal` exactly for the same
pub record Decides {A : Type 0} (compare : A → A → Ordering) (IsLess : A → A → Type 0) : Type 0 where
  pub less : (x y : A) → compare x y ≡ Less → IsLess x y
  pub is : (x y : A) → IsLess x y → compare x y ≡ Less
  pub same : (x y : A) → compare x y ≡ Equal → x ≡ y
  pub tied : (x : A) → compare x x ≡ Equal

pub numbers_decide : Decides nat_cmp ◌<◌
numbers_decide =
    record {
      less = less;
      is = λ x y h. sym (nat_cmp_is x y Less h);
      same = nat_cmp-IsAntisymmetric;
      tied = λ x. sym (nat_cmp_is x x Equal refl);
    } where
      less : (x y : ℕ) → nat_cmp x y ≡ Less → x < y
      less x y e =
          elim (cases_lt x y) [
            | inl h ↦ h
            | inr h ↦ elim (cases_lt y x) [
              | inl above ↦ absurd (let f : Greater ≡ nat_cmp x y = nat_cmp_is x y Greater above in cc)
              | inr not_above ↦ absurd (let f : Equal ≡ nat_cmp x y = nat_cmp_is x y Equal (omega arith) in cc)
            ]
          ]

module _ {A : Type 0} (compare : A → A → Ordering) (IsLess : A → A → Type 0) (decides : Decides compare IsLess) where
  further : (x y : A) (xs ys : List A) → x ≡ y → Precedes IsLess xs ys → Precedes IsLess (x ∷ xs) (y ∷ ys)
  further x y xs ys e (ends z more is) = ends z more (ap (λ (l : List A). y ∷ l) is ∙ ap (λ (h : A). h ∷ (xs ++ z ∷ more)) (sym e))
  further x y xs ys e (differs prefix u v more others is_less first second) =
      differs (x ∷ prefix) u v more others is_less (ap (λ (l : List A). x ∷ l) first) (ap (λ (l : List A). y ∷ l) second ∙ ap (λ (h : A). h ∷ (prefix ++ v ∷ others)) (sym e))

  first_decides : (x y : A) (xs ys : List A) (r : Ordering) → compare x y ≡ r → (slice_cmp compare xs ys ≡ Less → Precedes IsLess xs ys) → ordering_then r (slice_cmp compare xs ys) ≡ Less → Precedes IsLess (x ∷ xs) (y ∷ ys)
  first_decides x y xs ys Less is later e = differs [] x y xs ys (decides.less x y is) refl refl
  first_decides x y xs ys Equal is later e = further x y xs ys (decides.same x y is) (later e)
  first_decides x y xs ys Greater is later e = absurd cc

  lists_less : (xs ys : List A) → slice_cmp compare xs ys ≡ Less → Precedes IsLess xs ys
  lists_less [] [] e = absurd cc
  lists_less [] (y ∷ ys) e = ends y ys refl
  lists_less (x ∷ xs) [] e = absurd cc
  lists_less (x ∷ xs) (y ∷ ys) e = first_decides x y xs ys (compare x y) refl (lists_less xs ys) e

  -- a prefix that the two share does not count
  same_prefix : (prefix xs ys : List A) → slice_cmp compare (prefix ++ xs) (prefix ++ ys) ≡ slice_cmp compare xs ys
  same_prefix [] xs ys = refl
  same_prefix (x ∷ prefix) xs ys = rw (decides.tied x) (same_prefix prefix xs ys)

  lists_is : (xs ys : List A) → Precedes IsLess xs ys → slice_cmp compare xs ys ≡ Less
  lists_is xs ys (ends y more is) =
      ap (slice_cmp compare xs) is ∙ ap (λ (l : List A). slice_cmp compare l (xs ++ y ∷ more)) (sym (append-nil xs)) ∙ same_prefix xs [] (y ∷ more)
  lists_is xs ys (differs prefix x y more others is_less first second) =
      ap (slice_cmp compare xs) second ∙ ap (λ (l : List A). slice_cmp compare l (prefix ++ y ∷ others)) first ∙ same_prefix prefix (x ∷ more) (y ∷ others)
      ∙ ap (λ (r : Ordering). ordering_then r (slice_cmp compare more others)) (decides.is x y is_less)

  first_tied : (x y : A) (xs ys : List A) (r : Ordering) → compare x y ≡ r → (slice_cmp compare xs ys ≡ Equal → xs ≡ ys) → ordering_then r (slice_cmp compare xs ys) ≡ Equal → x ∷ xs ≡ y ∷ ys
  first_tied x y xs ys Less is later e = absurd cc
  first_tied x y xs ys Equal is later e = ap (λ (h : A). h ∷ xs) (decides.same x y is) ∙ ap (λ (l : List A). y ∷ l) (later e)
  first_tied x y xs ys Greater is later e = absurd cc

  lists_same : (xs ys : List A) → slice_cmp compare xs ys ≡ Equal → xs ≡ ys
  lists_same [] [] e = refl
  lists_same [] (y ∷ ys) e = absurd cc
  lists_same (x ∷ xs) [] e = absurd cc
  lists_same (x ∷ xs) (y ∷ ys) e = first_tied x y xs ys (compare x y) refl (lists_same xs ys) e

  lists_tied : (xs : List A) → slice_cmp compare xs xs ≡ Equal
  lists_tied [] = refl
  lists_tied (x ∷ xs) = rw (decides.tied x) (lists_tied xs)

  pub lists_decide : Decides (slice_cmp compare) (Precedes IsLess)
  lists_decide = record { less = lists_less; is = lists_is; same = lists_same; tied = lists_tied }

pub octets_decide : Decides (slice_cmp nat_cmp) (Precedes ◌<◌)
octets_decide = lists_decide nat_cmp ◌<◌ numbers_decide
