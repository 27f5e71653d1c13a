use Rattle.dns_wire.proofs.Parts.{both_built, both_refused}
use Rattle.dns_wire.proofs.in_message.Tuple2BuildInMessage.build_in_message.Goals as goal

pub returns-in-Ok : goal.returns-in-Ok
returns-in-Ok g c =
    let t = c.in_ok-middle.ensures in
    both_built (g.A.BuildInMessage.writes c.args.self.now.0) (g.B.BuildInMessage.writes c.args.self.now.1) (g.A.BuildInMessage.fits_in c.args.self.now.0) (g.B.BuildInMessage.fits_in c.args.self.now.1) _ _ _ _ _ _ t.accepted t.occurs t.after_is t.grows _ _ _ c.in-Ok.ensures

pub returns-in-Err : goal.returns-in-Err
returns-in-Err g c =
    let t = c.in_ok-middle.ensures in
    both_refused (g.A.BuildInMessage.writes c.args.self.now.0) (g.B.BuildInMessage.writes c.args.self.now.1) (g.A.BuildInMessage.fits_in c.args.self.now.0) (g.B.BuildInMessage.fits_in c.args.self.now.1) _ _ _ _ _ _ t.accepted t.occurs t.after_is t.grows _ _ _ _ _ (rw c.places-known.ensures.exact at c.truncate.ensures.exact) c.in-Err.ensures
