use Rattle.std.proofs.Common.{refl, sym, ap, ◌∙◌, arith, Ok}
use Rattle.dns_edns.specs.Suiting.{seen_option}
use Rattle.dns_edns.proofs.MatchingOptions.{both_start, one_more, differs, too_few, no_more, not_false, both_done}
use Rattle.dns_edns.proofs.opt.Opt.eq_options.Goals as goal

pub loop-option-init : goal.loop-option-init
loop-option-init c = both_start _ _ _ c.options-left.ensures

pub returns-in_default : goal.returns-in_default
returns-in_default c = (
  λ t. absurd (not_false t),
  λ h. absurd (differs _ _ _ _ c.loop-option.invariant c.option-item.result c.loop-option-test.true _ _ c.in-Some.ensures.steps
      (λ e. not_false (c.if-is_same.ensures.1 (e ∙ ap (λ o. Ok (seen_option o)) (sym c.option-item.is)))) h),
)

pub returns-in_default-2 : goal.returns-in_default-2
returns-in_default-2 c = (
  λ t. absurd (not_false t),
  λ h. absurd (too_few _ _ _ _ c.loop-option.invariant c.option-item.result c.loop-option-test.true (no_more _ _ _ c.next.ensures.steps c.in_default.is) h),
)

pub loop-option-preserved : goal.loop-option-preserved
loop-option-preserved c =
    one_more _ _ _ _ c.loop-option.invariant c.option-item.result c.loop-option-test.true _ _ c.in-Some.ensures.steps
    (c.if-is_same.ensures.0 refl ∙ ap (λ o. Ok (seen_option o)) c.option-item.is)

pub returns : goal.returns
returns c = both_done _ _ _ _ c.loop-option.invariant (omega (arith, c.loop-option-test.false)) _ _ _ c.is_none.ensures c.next-2.ensures.steps
