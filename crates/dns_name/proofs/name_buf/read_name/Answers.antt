use Rattle.std.proofs.Common.{◌≡◌, ◌∙◌, arith, length, refl, take}
use Rattle.std.proofs.lemmas.List.{length-take}
use Rattle.std.proofs.lemmas.Result.{err_from_is_err_and}
use Rattle.dns_name.proofs.CountedSteps.{counted_none}
use Rattle.dns_name.proofs.Followed.{followed_none}
use Rattle.dns_name.proofs.OwnLabelLemmas.{copied_before, copied_bound, copied_counted, copied_counts, copied_pointer, copied_root, followed_no_room, no_room_bound}
use Rattle.dns_name.proofs.name_buf.read_name.Goals as goal

pub loop-own-init : goal.loop-own-init
loop-own-init g c = record { array = refl; room = omega arith; followed = followed_none _ _; counted = counted_none _ _ _ }

pub returns-in_err-own-clause-exact : goal.returns-in_err-own-clause-exact
returns-in_err-own-clause-exact g c =
    let p = err_from_is_err_and c.from_residual.result c.from_residual.ensures.1 in
    let cut = c.in_err-own.ensures.refused in
    let long : length (take c.loop-own.size c.loop-own.buffer) ≡ c.loop-own.size = omega (arith, length-take c.loop-own.size c.loop-own.buffer, c.loop-own.invariant.array, c.loop-own.invariant.room) in
    rw p.1 (followed_no_room _ _ _ _ _ cut.0 c.loop-own.invariant.followed (rw long cut.2))

pub returns-in_err-own-clause-bound : goal.returns-in_err-own-clause-bound
returns-in_err-own-clause-bound g c =
    let cut = c.in_err-own.ensures.refused in
    rw cut.1 (no_room_bound _ _ _ _ _ _ cut.0 c.loop-own.invariant.counted cut.2)

pub from_buffer-name-requires-clause-name : goal.from_buffer-name-requires-clause-name
from_buffer-name-requires-clause-name g c = rw c.copy_at.ensures.prefix (copied_root _ _ _ _ _ _ _ _ c.in_ok-own.ensures.copied.0 c.loop-own.invariant.followed (omega (arith, c.loop-own.invariant.array, c.loop-own.invariant.room)) c.in_ok-own.ensures.copied.2 c.in_default.is).whole

pub returns-in_default-clause-exact : goal.returns-in_default-clause-exact
returns-in_default-clause-exact g c = rw (c.unwrap_or-name_end.ensures, c.from_buffer-name.ensures, c.copy_at.ensures.prefix) (copied_root _ _ _ _ _ _ _ _ c.in_ok-own.ensures.copied.0 c.loop-own.invariant.followed (omega (arith, c.loop-own.invariant.array, c.loop-own.invariant.room)) c.in_ok-own.ensures.copied.2 c.in_default.is).reads

pub returns-in_default-clause-within : goal.returns-in_default-clause-within
returns-in_default-clause-within g c = rw c.unwrap_or-name_end.ensures (copied_root _ _ _ _ _ _ _ _ c.in_ok-own.ensures.copied.0 c.loop-own.invariant.followed (omega (arith, c.loop-own.invariant.array, c.loop-own.invariant.room)) c.in_ok-own.ensures.copied.2 c.in_default.is).within

pub returns-in_default-clause-counts : goal.returns-in_default-clause-counts
returns-in_default-clause-counts g c =
    λ found.
    let own = c.in_ok-own.ensures.copied in
    rw own.1 (copied_counts _ _ _ _ _ _ _ _ _ own.0 c.loop-own.invariant.counted own.2 c.in_default.is _ _ found)

pub returns-in_default-clause-bound : goal.returns-in_default-clause-bound
returns-in_default-clause-bound g c =
    let own = c.in_ok-own.ensures.copied in
    rw own.1 (copied_bound _ _ _ _ _ _ _ _ _ own.0 c.loop-own.invariant.counted own.2)

pub loop-own-smaller : goal.loop-own-smaller
loop-own-smaller g c =
    let own = c.in_ok-own.ensures.copied in
    copied_before _ _ _ _ _ _ _ _ own.0 c.loop-own.invariant.followed (omega (arith, c.loop-own.invariant.array, c.loop-own.invariant.room)) own.2 c.in-Some.target c.in-Some.is

pub loop-own-preserved : goal.loop-own-preserved
loop-own-preserved g c =
    let own = c.in_ok-own.ensures.copied in
    record {
      array = c.copy_counted.ensures.room ∙ c.loop-own.invariant.array;
      room = own.2.short;
      followed = rw c.unwrap_or-name_end.ensures (copied_pointer _ _ _ _ _ _ _ _ own.0 c.loop-own.invariant.followed (omega (arith, c.loop-own.invariant.array, c.loop-own.invariant.room)) own.2 c.in-Some.target c.in-Some.is);
      counted = rw own.1 (copied_counted _ _ _ _ _ _ _ _ _ own.0 c.loop-own.invariant.counted own.2 c.in-Some.target c.in-Some.is);
    }
