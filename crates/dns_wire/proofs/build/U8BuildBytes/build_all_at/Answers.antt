use Rattle.std.proofs.Common.{sym}
use Rattle.dns_wire.proofs.Several.{themselves, builds_alike}
use Rattle.dns_wire.proofs.build.U8BuildBytes.build_all_at.Goals as goal

pub returns : goal.returns
returns c = builds_alike (λ _ k d within. tt) (λ _. tt) (sym (themselves c.args.values.now)) c.put.ensures
