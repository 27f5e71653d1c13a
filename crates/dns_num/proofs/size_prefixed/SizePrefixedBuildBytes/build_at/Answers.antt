use Rattle.std.proofs.Common.{arith}
use Rattle.std.proofs.lemmas.Result.{err_from_is_err_and}
use Rattle.dns_num.proofs.SizePrefixes.{refused_inside}
use Rattle.dns_num.proofs.size_prefixed.SizePrefixedBuildBytes.build_at.Goals as goal

pub returns-in_err-end : goal.returns-in_err-end
returns-in_err-end g c =
    let p = err_from_is_err_and c.from_residual.result c.from_residual.ensures.1 in
    rw (p.1, ← c.self.view_is) (refused_inside g.S.SizePrefix.number_width (omega (arith, c.width-width.ensures)) c.in_err-end.ensures)
