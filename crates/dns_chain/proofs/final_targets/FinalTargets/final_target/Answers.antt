use Rattle.dns_chain.proofs.Chaining.{target_reached}
use Rattle.dns_chain.proofs.final_targets.FinalTargets.final_target.Goals as goal

pub returns-clause-reached : goal.returns-clause-reached
returns-clause-reached c =
    target_reached _ _ _ _ c.in_ok-targets.ensures (rw c.deref.ensures.value at c.target_at-target.ensures.found) (rw c.deref.ensures.value at c.target_at-target.ensures.after)
