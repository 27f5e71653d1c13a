use Rattle.std.proofs.Common.{◌≡◌, ◌+◌, ◌≤◌, ◌∙◌, arith, length, refl, sym, take}
use Rattle.std.proofs.lemmas.List.{length-take}
use Rattle.dns_name.proofs.Followed.{followed_none}
use Rattle.dns_name.proofs.OwnLabelLemmas.{copied_before, copied_pointer, copied_root, followed_no_room}
use Rattle.dns_chain.proofs.Chaining.{followed_final, leads_back, leads_within}
use Rattle.dns_chain.proofs.OwnLabelLemmas.{own_target, whole_name_read}
use Rattle.dns_chain.proofs.final_targets.FinalTargets.read_canonical_name.Goals as goal

pub loop-own-init : goal.loop-own-init
loop-own-init c = record { array = c.requires.room; room = omega arith; same = refl; followed = followed_none _ _ }

pub returns-in_default-clause-exact : goal.returns-in_default-clause-exact
returns-in_default-clause-exact c =
    let cut = c.in_default.ensures.refused in
    let long : length (take c.loop-own.size c.loop-own.buffer) ≡ c.loop-own.size = omega (arith, length-take c.loop-own.size c.loop-own.buffer, c.loop-own.invariant.array, c.loop-own.invariant.room) in
    rw c.contents.ensures at (followed_no_room _ _ _ _ _ cut.0 c.loop-own.invariant.followed (rw long cut.1))

pub returns-in_default-target-clause-exact : goal.returns-in_default-target-clause-exact
returns-in_default-target-clause-exact c =
    let own = c.in-Ok.ensures.copied in
    let found = copied_root _ _ _ _ _ _ _ _ own.0 c.loop-own.invariant.followed (omega (arith, c.loop-own.invariant.array, c.loop-own.invariant.room)) own.1 c.in_default-target.is in
    rw (c.unwrap_or-end.ensures, sym c.contents.ensures) (whole_name_read _ _ _ _ _ _ found (omega (arith, own.1.short, c.copy_own_labels.ensures.room, c.loop-own.invariant.array)) c.put_root.ensures.name)

pub loop-own-smaller : goal.loop-own-smaller
loop-own-smaller c =
    let own = c.in-Ok.ensures.copied in
    let before = copied_before _ _ _ _ _ _ _ _ own.0 c.loop-own.invariant.followed (omega (arith, c.loop-own.invariant.array, c.loop-own.invariant.room)) own.1 c.in-Some.target c.in-Some.is in
    omega (arith, before, leads_back _ _ _ c.in_ok-place.ensures.reached)

pub loop-own-preserved : goal.loop-own-preserved
loop-own-preserved c =
    let own = c.in-Ok.ensures.copied in
    let same = c.in_ok-place.ensures.unchanged ∙ c.loop-own.invariant.same in
    let led = rw (same ∙ sym c.contents.ensures) at c.in_ok-place.ensures.reached in
    let followed = copied_pointer _ _ _ _ _ _ _ _ own.0 c.loop-own.invariant.followed (omega (arith, c.loop-own.invariant.array, c.loop-own.invariant.room)) own.1 c.in-Some.target c.in-Some.is in
    let within : c.args.end ≤ length c.contents.result.now = rw c.contents.ensures c.requires.within in
    let room : c.in-Some.target + 2 ≤ c.args.end = omega (arith, own_target _ _ _ c.in-Some.target _ _ _ own.0 own.1 c.in-Some.is, length-take c.args.end c.contents.result.now) in
    record {
      array = c.copy_own_labels.ensures.room ∙ c.loop-own.invariant.array;
      room = own.1.short;
      same = same;
      followed = rw c.unwrap_or-end.ensures (followed_final _ _ c.in-Some.target _ _ _ followed (leads_within _ _ _ _ led room within));
    }
