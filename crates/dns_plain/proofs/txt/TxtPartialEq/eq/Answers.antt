use Rattle.std.proofs.Common.{◌≡◌, Bool, true, false, not, ℕ, List, [], ◌∷◌, Option, Some, None, refl, sym, ◌∙◌}
use Rattle.std.specs.Prelude.{◌&&◌, MatchOption}
use Rattle.std.specs.Option.{is_some}
use Rattle.dns_record.specs.Strings.{same_strings}
use Rattle.dns_plain.proofs.txt.TxtPartialEq.eq.Goals as goal

differ : (same rest : Bool) → true ≡ not same → false ≡ (same && rest)
differ true rest e = absurd cc
differ false rest e = refl

alike : (same rest : Bool) → false ≡ not same → rest ≡ (same && rest)
alike true rest e = refl
alike false rest e = absurd cc

-- nothing is the same as what is left exactly if nothing is
ended : {A : Type 0} (view : A → List ℕ) (next : Option A) (rest later : List (List ℕ)) (none : Bool) → MatchOption next ((rest ≡ []) × (later ≡ [])) (λ x. rest ≡ view x ∷ later) → is_some next ≡ not none → none ≡ same_strings [] rest
ended view None rest later true e is = λ i. same_strings [] (sym e.0 i)
ended view None rest later false e is = absurd cc
ended view (Some x) rest later true e is = absurd cc
ended view (Some x) rest later false e is = λ i. same_strings [] (sym e i)

pub loop-string-init : goal.loop-string-init
loop-string-init c = λ i. same_strings (c.iter-strings.ensures.strings i) (c.iter-others.ensures.strings i)

pub returns-in_default-next : goal.returns-in_default-next
returns-in_default-next c = sym (λ i. same_strings (c.in-Some.ensures.steps i) (c.in_default-next.ensures.steps.0 i)) ∙ c.loop-string.invariant

pub returns-then-ne : goal.returns-then-ne
returns-then-ne c = differ _ _ c.if-ne.ensures ∙ sym (λ i. same_strings (c.in-Some.ensures.steps i) (c.in-Some-next.ensures.steps i)) ∙ c.loop-string.invariant

pub loop-string-preserved : goal.loop-string-preserved
loop-string-preserved c = alike _ _ c.if-ne.ensures ∙ sym (λ i. same_strings (c.in-Some.ensures.steps i) (c.in-Some-next.ensures.steps i)) ∙ c.loop-string.invariant

pub returns : goal.returns
returns c =
    ended _ _ _ _ _ c.next-2.ensures.steps c.is_none.ensures
    ∙ sym (λ i. same_strings (c.in_default.ensures.steps.0 i) c.loop-string.others)
    ∙ c.loop-string.invariant
