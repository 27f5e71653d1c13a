use Rattle.std.proofs.Common.{take, Ok}
use Rattle.dns_wire.specs.InMessage.{BuildsIn, list_fits}
use Rattle.dns_wire.specs.Layout.{list_writes}
use Rattle.dns_wire.proofs.in_message.BuildInMessage.build_all_in_message.Given as goal

-- the values so far are written
abbrev pub invariant-loop-value : goal.invariant-loop-value
invariant-loop-value g l =
    let prefix = take l.value-index l.values in
    let contents = take l.start l.initial.contents in
    BuildsIn {E = ⊥} (list_fits g.Self.BuildInMessage.fits_in g.Self.BuildInMessage.writes prefix contents l.initial.compressor)
    (list_writes g.Self.BuildInMessage.writes prefix contents l.initial.compressor)
    l.initial.contents l.start l.initial.compressor l.contents l.compressor (Ok l.end)
