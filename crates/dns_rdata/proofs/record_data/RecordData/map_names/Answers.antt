use Rattle.std.proofs.Common.{refl, ap}
use denote.Param.Members.{post_steps, Called}
use Rattle.dns_rdata.specs.declared.record_data.RecordData.TheVariants.{Mx}
use Rattle.dns_rdata.proofs.MappedNames.{plain_given}
use Rattle.dns_rdata.proofs.record_data.RecordData.map_names.Goals as goal

pub returns-in-Ns : goal.returns-in-Ns
returns-in-Ns g c =
    let (last, called) = post_steps g.F.FnMut c.args.f (c.in-Ns.v.server, tt) c.map_name.result.server g.met.F.FnMut.1 c.map_name.ensures.name in
    rw c.in-Ns.is (c.map_name.result.server, last, called, refl)

pub returns-in-CName : goal.returns-in-CName
returns-in-CName g c =
    let (last, called) = post_steps g.F.FnMut c.args.f (c.in-CName.v.name, tt) c.map_name-in-CName.result.name g.met.F.FnMut.1 c.map_name-in-CName.ensures.name in
    rw c.in-CName.is (c.map_name-in-CName.result.name, last, called, refl)

pub returns-in-Ptr : goal.returns-in-Ptr
returns-in-Ptr g c =
    let (last, called) = post_steps g.F.FnMut c.args.f (c.in-Ptr.v.name, tt) c.map_name-in-Ptr.result.name g.met.F.FnMut.1 c.map_name-in-Ptr.ensures.name in
    rw c.in-Ptr.is (c.map_name-in-Ptr.result.name, last, called, refl)

pub returns-in-Mx : goal.returns-in-Mx
returns-in-Mx g c =
    let (last, called) = post_steps g.F.FnMut c.args.f (c.in-Mx.v.exchange, tt) c.map_name-in-Mx.result.exchange g.met.F.FnMut.1 c.map_name-in-Mx.ensures.name in
    rw c.in-Mx.is (c.map_name-in-Mx.result.exchange, last, called, ap (λ preference. Mx (record { preference = preference; exchange = c.map_name-in-Mx.result.exchange })) c.map_name-in-Mx.ensures.unchanged)

pub returns-in-Rp : goal.returns-in-Rp
returns-in-Rp g c =
    let (between, last, first, second) = c.map_names-in-Rp.ensures.names in
    rw c.in-Rp.is (c.map_names-in-Rp.result.mailbox, c.map_names-in-Rp.result.texts, between, last, first, second, refl)

pub returns-in_default : goal.returns-in_default
returns-in_default g c = plain_given (λ (f : _) (n : _) (r : _) (k : _). Called g.F.FnMut f (n, tt) r k) c.args.f c.args.self c.with_other_names.result c.with_other_names.ensures
