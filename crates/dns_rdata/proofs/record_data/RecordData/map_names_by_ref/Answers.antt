use Rattle.std.proofs.Common.{refl, ap, rules}
use denote.Param.Members.{post_steps}
use Rattle.dns_rdata.specs.declared.record_data.RecordData.TheVariants.{Mx}
use Rattle.std.specs.Fn.{CalledAt}
use Rattle.dns_rdata.proofs.MappedNames.{plain_given}
use Rattle.dns_rdata.proofs.record_data.RecordData.map_names_by_ref.Goals as goal

pub map_names_by_ref-requires : goal.map_names_by_ref-requires
map_names_by_ref-requires g c κs =
    let takes = rw c.in-Soa.is at c.requires in
    ((refl, tt), (takes.0, λ p q r between px qy called. takes.1 r between (record { shown = p; shows = px; called = called }) q qy))

pub map_names_by_ref-requires-in-Rp : goal.map_names_by_ref-requires-in-Rp
map_names_by_ref-requires-in-Rp g c κs =
    let takes = rw c.in-Rp.is at c.requires in
    ((refl, tt), (takes.0, λ p q r between px qy called. takes.1 r between (record { shown = p; shows = px; called = called }) q qy))

pub returns-in-Ns : goal.returns-in-Ns
returns-in-Ns g c =
    let (shown, returned, shows) = c.map_name_by_ref.ensures.name in
    let (last, called) = post_steps g.F.FnMut c.args.f (shown, tt) c.map_name_by_ref.result.server (g.met.F.FnMut c.lifetimes (search rules)).1 returned in
    rw c.in-Ns.is (c.map_name_by_ref.result.server, last, record { shown = shown; shows = shows; called = called }, refl)

pub returns-in-CName : goal.returns-in-CName
returns-in-CName g c =
    let (shown, returned, shows) = c.map_name_by_ref-in-CName.ensures.name in
    let (last, called) = post_steps g.F.FnMut c.args.f (shown, tt) c.map_name_by_ref-in-CName.result.name (g.met.F.FnMut c.lifetimes (search rules)).1 returned in
    rw c.in-CName.is (c.map_name_by_ref-in-CName.result.name, last, record { shown = shown; shows = shows; called = called }, refl)

pub returns-in-Ptr : goal.returns-in-Ptr
returns-in-Ptr g c =
    let (shown, returned, shows) = c.map_name_by_ref-in-Ptr.ensures.name in
    let (last, called) = post_steps g.F.FnMut c.args.f (shown, tt) c.map_name_by_ref-in-Ptr.result.name (g.met.F.FnMut c.lifetimes (search rules)).1 returned in
    rw c.in-Ptr.is (c.map_name_by_ref-in-Ptr.result.name, last, record { shown = shown; shows = shows; called = called }, refl)

pub returns-in-Mx : goal.returns-in-Mx
returns-in-Mx g c =
    let (shown, returned, shows) = c.map_name_by_ref-in-Mx.ensures.name in
    let (last, called) = post_steps g.F.FnMut c.args.f (shown, tt) c.map_name_by_ref-in-Mx.result.exchange (g.met.F.FnMut c.lifetimes (search rules)).1 returned in
    rw c.in-Mx.is (c.map_name_by_ref-in-Mx.result.exchange, last, record { shown = shown; shows = shows; called = called }, ap (λ preference. Mx (record { preference = preference; exchange = c.map_name_by_ref-in-Mx.result.exchange })) c.map_name_by_ref-in-Mx.ensures.unchanged)

pub returns-in_default : goal.returns-in_default
returns-in_default g c = plain_given (CalledAt g.F.FnMut) c.args.f c.args.self.now c.plain_copy.result c.plain_copy.ensures
