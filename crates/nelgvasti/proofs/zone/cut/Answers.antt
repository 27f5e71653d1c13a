use Rattle.std.proofs.Common.{◌∙◌, ap, length, map, refl}
use Rattle.std.specs.List.{concat}
use Rattle.std.proofs.lemmas.List.{map-append}
use Rattle.nelgvasti.proofs.Cutting.{cut_more}
use Rattle.nelgvasti.proofs.zone.cut.Goals as goal

pub loop-length-preserved : goal.loop-length-preserved
loop-length-preserved c =
    let held = c.loop-length.invariant in
    let more = cut_more c.args.octets.now c.args.lengths.now (map (λ m. m.now) c.loop-length.messages.items) c.loop-length.start c.loop-length.length-index _ c.requires c.loop-length-test.true
    refl held.starts held.octets held.lengths in
    let grown = ap (map (λ m. m.now)) c.in_ok-push.ensures.items ∙ map-append (λ m. m.now) c.loop-length.messages.items _ in
    record { starts = more.0; octets = ap concat grown ∙ more.1; lengths = ap (map length) grown ∙ more.2 }
