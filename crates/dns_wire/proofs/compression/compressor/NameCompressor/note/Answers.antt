use Rattle.std.proofs.Common.{arith, ◌≡◌, ◌≤◌, take, inl, inr}
use Rattle.std.specs.Prelude.{slice_index}
use Rattle.std.proofs.lemmas.List.{get_or-take, length-take, take-take}
use Rattle.dns_wire.specs.Compression.{FitsIn, recorded}
use Rattle.dns_wire.proofs.Noting.{noting_none, noting_next, noting_done, noting_past, recorded_fits, recorded_grows}
use Rattle.dns_wire.proofs.RunLemmas.{run_within}
use Rattle.dns_wire.proofs.compression.compressor.NameCompressor.note.Goals as goal
use Rattle.dns_wire.proofs.compression.compressor.NameCompressor.note.Goals.{Joined-then-size-eq0, then-size-eq0-via-then-size-eq0, then-size-eq0-via-else-size-eq0+then-size-gt-MAX_LABEL_SIZE}

pub loop-at-init : goal.loop-at-init
loop-at-init c = noting_none _ _ _ _ c.requires.fits (omega (arith, length-take c.args.start c.args.contents.now)) c.requires.run

pub loop-at-preserved : goal.loop-at-preserved
loop-at-preserved c =
    let same : slice_index (take c.args.end c.args.contents.now) c.loop-at.at ≡ slice_index c.args.contents.now c.loop-at.at = get_or-take c.args.end c.args.contents.now c.loop-at.at 0 (omega arith) in
    rw (c.keep.ensures, ← same) (noting_next _ _ _ _ _ c.loop-at.invariant (omega (arith, same)) (omega (arith, same)))

pub returns-after-loop-at : goal.returns-after-loop-at
returns-after-loop-at c = absurd (noting_past _ _ _ _ _ c.loop-at.invariant (omega (arith, length-take c.args.end c.args.contents.now)))

-- the places at the root or a pointer
all_recorded : (c : Joined-then-size-eq0) → c.loop-at.self ≡ recorded c.args.self.now (take c.args.end c.args.contents.now) c.args.start
all_recorded c =
    let same : slice_index (take c.args.end c.args.contents.now) c.loop-at.at ≡ slice_index c.args.contents.now c.loop-at.at = get_or-take c.args.end c.args.contents.now c.loop-at.at 0 (omega arith) in
    noting_done _ _ _ _ _ c.loop-at.invariant (elim c.then-size-eq0.branch [
      | then-size-eq0-via-then-size-eq0 w ↦ inl (omega (arith, same))
      | then-size-eq0-via-else-size-eq0+then-size-gt-MAX_LABEL_SIZE w ↦ inr (omega (arith, same))
    ])

-- they fitted what comes before start in what has been written too
fitted : (c : Joined-then-size-eq0) → FitsIn c.args.self.now (take c.args.start (take c.args.end c.args.contents.now))
fitted c =
    let order : c.args.start ≤ c.args.end = omega (arith, run_within _ _ c.requires.run, length-take c.args.end c.args.contents.now) in
    rw (take-take c.args.start c.args.end c.args.contents.now order) c.requires.fits

pub returns-then-size-eq0-clause-exact : goal.returns-then-size-eq0-clause-exact
returns-then-size-eq0-clause-exact c = all_recorded c

pub returns-then-size-eq0-clause-grows : goal.returns-then-size-eq0-clause-grows
returns-then-size-eq0-clause-grows c = rw (all_recorded c) (recorded_grows _ _ _ (fitted c) c.requires.run)

pub returns-then-size-eq0-clause-fits : goal.returns-then-size-eq0-clause-fits
returns-then-size-eq0-clause-fits c = rw (all_recorded c) (recorded_fits _ _ _ (fitted c) c.requires.run)
