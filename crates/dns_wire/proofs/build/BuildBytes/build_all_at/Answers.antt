use Rattle.std.proofs.lemmas.Result.{err_from_is_err_and}
use Rattle.std.proofs.lemmas.List.Elements.{All-get_or, All-more}
use Rattle.dns_wire.proofs.BuildingLemmas.{occurs_then}
use Rattle.dns_wire.proofs.Several.{one_more, no_longer, refused_later}
use Rattle.dns_wire.proofs.build.BuildBytes.build_all_at.Goals as goal

pub returns-in_err-end : goal.returns-in_err-end
returns-in_err-end g c =
    let p = err_from_is_err_and c.from_residual.result c.from_residual.ensures.1 in
    rw p.1 (refused_later c.loop-value.invariant.occurs c.in_err-end.ensures
    (λ all. rw c.value-item.is (All-get_or g.Self.BuildBytes.fits c.args.values.now c.loop-value.value-index c.value-item.result c.loop-value-test.true all))
    (no_longer c.args.values.now c.loop-value.value-index c.value-item.result c.loop-value-test.true c.value-item.is g.Self.BuildBytes.octets))

pub loop-value-preserved : goal.loop-value-preserved
loop-value-preserved g c = record {
  fits = All-more g.Self.BuildBytes.fits c.args.values.now c.loop-value.value-index c.value-item.result c.loop-value-test.true c.loop-value.invariant.fits (rw (← c.value-item.is) c.in_ok-end.ensures.ok.0);
  occurs = rw (← one_more c.args.values.now c.loop-value.value-index c.value-item.result c.loop-value-test.true c.value-item.is g.Self.BuildBytes.octets) (occurs_then c.loop-value.invariant.occurs c.in_ok-end.ensures.ok.1);
}
