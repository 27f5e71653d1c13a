use Rattle.std.proofs.Common.{refl}
use Rattle.std.proofs.lemmas.Result.{err_from_is_err_and}
use Rattle.dns_wire.proofs.BuildingLemmas.{occurs_prefix}
use Rattle.dns_num.proofs.FilledPrefixes.{known_after, size_filled, data_refused, too_many}
use Rattle.dns_num.proofs.in_message.SizePrefixedBuildInMessage.build_in_message.Goals as goal

pub build_in_message-requires-clause-known : goal.build_in_message-requires-clause-known
build_in_message-requires-clause-known g c = known_after g.S.SizePrefix.number_width c.requires.known c.in_ok-body.ensures.ok.1

pub returns-in_err-end : goal.returns-in_err-end
returns-in_err-end g c =
    let p = err_from_is_err_and c.from_residual-in_err-end.result c.from_residual-in_err-end.ensures.1 in
    let s = c.in_ok-body.ensures.ok.1 in
    rw p.1 (data_refused g.S.SizePrefix.number_width _ _ _ _ _ _ _ _ _ _ _ s (rw (occurs_prefix s, c.inner.ensures) at c.in_err-end.ensures))

pub returns-then-not-can_say : goal.returns-then-not-can_say
returns-then-not-can_say g c =
    let s = c.in_ok-body.ensures.ok.1 in
    too_many g.S.SizePrefix.number_width _ _ _ _ _ _ _ _ _ _ _ _ s (rw (occurs_prefix s, c.inner.ensures) at c.in_ok-end.ensures) (λ h. absurd (let e = c.if-not-can_say.ensures.1 h in cc)) (rw c.places-known.ensures.exact at c.truncate.ensures.exact)

pub returns : goal.returns
returns g c =
    let s = c.in_ok-body.ensures.ok.1 in
    size_filled g.S.SizePrefix.number_width _ _ _ _ _ _ _ _ _ c.requires.known s (rw (occurs_prefix s, c.inner.ensures) at c.in_ok-end.ensures) _ c.fill_size.ensures (c.if-not-can_say.ensures.0 refl)
