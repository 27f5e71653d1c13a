use Rattle.std.proofs.Common.{arith, ◌∙◌, ◌<◌, length, ◌∷◌, []}
use Rattle.std.proofs.lemmas.Bool.Decides.{nat_tests}
use Rattle.dns_wire.proofs.Noting.{more_low, more_high, more_full}
use Rattle.dns_wire.proofs.compression.compressor.NameCompressor.keep.Goals as goal
use Rattle.dns_wire.proofs.compression.compressor.NameCompressor.keep.Goals.{else-not-is_full-via-then-not-is_full+else-place-le-LAST_PLACE, else-not-is_full-via-else-not-is_full}

pub returns-then-place-le-LAST_PLACE : goal.returns-then-place-le-LAST_PLACE
returns-then-place-le-LAST_PLACE c =
    let room : length c.self.inside.recorded.items < 128 = grind (arith, nat_tests, c.if-not-is_full.ensures.value, c.if-not-is_full.ensures.fits) in
    rw (← c.self.view_is) (c.push.ensures.items ∙ more_low c.self.inside.recorded.items c.args.place room (omega arith))

pub returns-else-not-is_full : goal.returns-else-not-is_full
returns-else-not-is_full c = rw (← c.self.view_is) (elim c.else-not-is_full.branch [
  | else-not-is_full-via-then-not-is_full+else-place-le-LAST_PLACE w ↦ more_high c.self.inside.recorded.items c.args.place c.is_full.ensures.fits (omega arith)
  | else-not-is_full-via-else-not-is_full w ↦ more_full c.self.inside.recorded.items (c.args.place ∷ []) (grind (arith, nat_tests, w.if-not-is_full.ensures.value))
])
