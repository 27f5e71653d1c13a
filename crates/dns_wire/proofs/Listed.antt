-- Lists of values, value by value.
use Rattle.std.proofs.Common.{◌≡◌, ℕ, zero, suc, ◌-◌, ◌<◌, List, [], ◌∷◌, ◌++◌, Option, Some, None, refl, sym, ap, ◌∙◌, append_assoc, arith}
use Rattle.std.proofs.lemmas.List.{append-nil}
use Rattle.dns_wire.specs.Lists.{with_prefix, then_list, list_of}

module _ {Y : Type 0} (grammar : List ℕ → Option (Y × List ℕ)) (prefix : List Y) (rest : List ℕ) where
  -- none are left
  pub list_ended : (n : ℕ) → n ≡ 0 → with_prefix prefix (list_of grammar n rest) ≡ Some (prefix, rest)
  unfolding list_of
  list_ended zero e = ap (λ (f : List Y). Some (f, rest)) (append-nil prefix)
  list_ended (suc n) e = absurd (omega arith)

  -- the next one is not read
  pub list_refused : (n : ℕ) → 0 < n → grammar rest ≡ None → with_prefix prefix (list_of grammar n rest) ≡ None
  unfolding list_of
  list_refused zero some e = absurd (omega arith)
  list_refused (suc n) some e = ap (λ (r : Option (Y × List ℕ)). with_prefix prefix (then_list (list_of grammar n) r)) e

  -- the next one is read
  pub list_step : (n : ℕ) (y : Y) (next : List ℕ) → 0 < n → grammar rest ≡ Some (y, next) → with_prefix prefix (list_of grammar n rest) ≡ with_prefix (prefix ++ y ∷ []) (list_of grammar (n - 1) next)
  unfolding list_of
  list_step zero y next some e = absurd (omega arith)
  list_step (suc n) y next some e =
      let less : suc n - 1 ≡ n = omega arith in
      ap (λ (r : Option (Y × List ℕ)). with_prefix prefix (then_list (list_of grammar n) r)) e ∙ both (list_of grammar n next) ∙ ap (λ (k : ℕ). with_prefix (prefix ++ y ∷ []) (list_of grammar k next)) (sym less) where
        both : (read : Option (List Y × List ℕ)) → with_prefix prefix (with_prefix (y ∷ []) read) ≡ with_prefix (prefix ++ y ∷ []) read
        both None = refl
        both (Some found) = rw append_assoc refl
