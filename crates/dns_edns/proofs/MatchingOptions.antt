-- Options that are gone over beside a list that they are to be.
use Rattle.std.proofs.Common.{◌≡◌, ℕ, zero, suc, ◌+◌, ◌<◌, ◌≤◌, List, [], ◌∷◌, length, drop, get_or, Bool, true, false, Option, Some, None, Result, Ok, refl, sym, ap, ◌∙◌, arith}
use Rattle.std.specs.Prelude.{IsTrue, is_some, not, map}
use Rattle.std.specs.Iterator.{YieldsFirstBy}
use Rattle.std.proofs.lemmas.List.{drop_more}
use Rattle.dns_record.specs.Options.{OptionSeen}
use Rattle.dns_edns.specs.Suiting.{Suited, seen_item, seen_option}
use Rattle.dns_edns.specs.declared.edns_option.EdnsOption.{EdnsOption}
use Rattle.dns_edns.specs.declared.unparsed_option.UnparsedEdnsOption.{UnparsedEdnsOption}

abbrev pub Item : Type 0
Item = Result Suited OptionSeen

abbrev pub wanted : List EdnsOption → List Item
wanted that = map (λ option. Ok (seen_option option)) that

-- what is left of both answers for the whole
pub record BothLeft (items left : List Item) (that : List EdnsOption) (i : ℕ) : Type 0 where
  pub here : left ≡ wanted (drop i that) → items ≡ wanted that
  pub there : items ≡ wanted that → left ≡ wanted (drop i that)

pub both_start : (items left : List Item) (that : List EdnsOption) → left ≡ items → BothLeft items left that 0
both_start items left that e = record { here = λ h. sym e ∙ h; there = λ h. e ∙ h }

no_item : {x : Item} {xs : List Item} → ◌≡◌ {A = List Item} [] (x ∷ xs) → ⊥
no_item e = absurd cc

first_is : {x y : Item} {xs ys : List Item} → x ∷ xs ≡ y ∷ ys → x ≡ y
first_is e = cc

tail_is : {x y : Item} {xs ys : List Item} → x ∷ xs ≡ y ∷ ys → xs ≡ ys
tail_is e = cc

pub not_false : IsTrue false → ⊥
not_false e = absurd cc

abbrev pub Yields : List Item → Option (Result EdnsOption UnparsedEdnsOption) → List Item → Type 0
Yields left next later = YieldsFirstBy seen_item (λ (items : List Item). items) left next later

pub no_more : (left later : List Item) (next : Option (Result EdnsOption UnparsedEdnsOption)) → Yields left next later → next ≡ None → left ≡ []
no_more left later None steps e = steps.0
no_more left later (Some x) steps e = absurd cc

module _ (items left : List Item) (that : List EdnsOption) (i : ℕ) (both : BothLeft items left that i) where
  module _ (d : EdnsOption) (some : i < length that) where
    next_wanted : wanted (drop i that) ≡ Ok (seen_option (get_or that i d)) ∷ wanted (drop (i + 1) that)
    next_wanted = ap wanted (drop_more that i d some)

    pub one_more : (x : Item) (later : List Item) → left ≡ x ∷ later → x ≡ Ok (seen_option (get_or that i d)) → BothLeft items later that (i + 1)
    one_more x later e is = record {
      here = λ h. both.here (e ∙ ap (λ (y : Item). y ∷ later) is ∙ ap (λ (l : List Item). Ok (seen_option (get_or that i d)) ∷ l) h ∙ sym next_wanted);
      there = λ h. tail_is (sym e ∙ both.there h ∙ next_wanted);
    }

    pub differs : (x : Item) (later : List Item) → left ≡ x ∷ later → ¬ (x ≡ Ok (seen_option (get_or that i d))) → ¬ (items ≡ wanted that)
    differs x later e other = λ h. other (first_is (sym e ∙ both.there h ∙ next_wanted))

    pub too_few : left ≡ [] → ¬ (items ≡ wanted that)
    too_few e = λ h. no_item (sym e ∙ both.there h ∙ next_wanted)

  module _ (all : length that ≤ i) where
    none_wanted : wanted (drop i that) ≡ []
    none_wanted = ap wanted (nothing i that all) where
      nothing : (n : ℕ) (l : List EdnsOption) → length l ≤ n → drop n l ≡ []
      nothing zero [] enough = refl
      nothing zero (x ∷ l) enough = absurd (omega arith)
      nothing (suc n) [] enough = refl
      nothing (suc n) (x ∷ l) enough = nothing n l (omega arith)

    pub both_end : left ≡ [] → items ≡ wanted that
    both_end e = both.here (e ∙ sym none_wanted)

    pub too_many : (x : Item) (later : List Item) → left ≡ x ∷ later → ¬ (items ≡ wanted that)
    too_many x later e = λ h. no_item (sym none_wanted ∙ sym (both.there h) ∙ e)

    pub both_done : (later : List Item) (next : Option (Result EdnsOption UnparsedEdnsOption)) (none : Bool) → is_some next ≡ not none → Yields left next later → (IsTrue none → items ≡ wanted that) × (items ≡ wanted that → IsTrue none)
    both_done later None true e steps = (λ t. both_end steps.0, λ h. refl)
    both_done later None false e steps = absurd cc
    both_done later (Some x) true e steps = absurd cc
    both_done later (Some x) false e steps = (λ t. absurd (not_false t), λ h. absurd (too_many (seen_item x) later steps h))
