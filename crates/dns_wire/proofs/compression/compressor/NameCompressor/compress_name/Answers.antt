use Rattle.std.proofs.Common.{◌≡◌, ◌+◌, ◌∙◌, sym, ap, refl, arith, length, take, get_or, take_all, Some, ℕ, List}
use Rattle.dns_wire.specs.Compression.{longest_recorded}
use Rattle.dns_wire.specs.Names.{name_labels}
use Rattle.dns_wire.proofs.Longest.{longest_none, longest_whole, more_found, more_missed}
use Rattle.dns_wire.proofs.Spelled.{name_octets}
use Rattle.dns_wire.proofs.CompressionLemmas.{answer_longest, answer_none}
use Rattle.dns_wire.proofs.Walk.{wire_long}
use Rattle.dns_wire.proofs.compression.compressor.NameCompressor.compress_name.Goals as goal
use Rattle.dns_wire.proofs.compression.compressor.NameCompressor.compress_name.Goals.{in-Some+else-found-eq0, in_default, Then-found-eq0, After-loop-place}

pub loop-place-init : goal.loop-place-init
loop-place-init c = record { best = sym (longest_none _ _ _); prefix = refl }

pub loop-place-preserved : goal.loop-place-preserved
loop-place-preserved c = elim c.match-marked_suffix.branch [
  | in-Some+else-found-eq0 w ↦ record {
    best = w.best-is ∙ more_found _ _ _ _ _ _ _ (omega arith) c.loop-place.invariant.best c.loop-place.invariant.prefix w.in-Some.found w.in-Some.ensures;
    prefix = rw w.best-is w.prefix-is;
  }
  | in_default w ↦ record {
    best = w.best-is ∙ more_missed _ _ _ _ _ _ _ (omega arith) c.loop-place.invariant.best c.loop-place.invariant.prefix
        (let t = name_octets _ _ c.requires in omega (arith, ap length t.1, wire_long (name_labels c.args.name.now))) w.in_default.ensures;
    prefix = rw (w.best-is, w.prefix-is) c.loop-place.invariant.prefix;
  }
]

-- the whole name is at this place
whole : (c : Then-found-eq0) → Some (0, get_or c.as_slice-place-items.result.now c.loop-place.place-index 0) ≡ longest_recorded c.args.contents.now c.args.self.now 0 (name_labels c.args.name.now)
whole c =
    let found = more_found _ _ _ _ _ _ _ (omega arith) c.loop-place.invariant.best c.loop-place.invariant.prefix 0 (rw c.if-found-eq0.true at c.in-Some.ensures) in
    sym (longest_whole _ _ (c.loop-place.place-index + 1) _ _ (sym found)) ∙ ap (λ (places : List ℕ). longest_recorded c.args.contents.now places 0 (name_labels c.args.name.now)) (c.as_slice-place-items.ensures.value ∙ c.self.view_is)

pub returns-then-found-eq0-clause-exact : goal.returns-then-found-eq0-clause-exact
returns-then-found-eq0-clause-exact c = whole c

pub returns-then-found-eq0-clause-longest : goal.returns-then-found-eq0-clause-longest
returns-then-found-eq0-clause-longest c = answer_longest _ _ _ (Some (0, get_or c.as_slice-place-items.result.now c.loop-place.place-index 0)) (rw c.self.view_is at c.self.invariant.rising) (whole c)

-- all places have been tried
best : (c : After-loop-place) → c.loop-place.best ≡ longest_recorded c.args.contents.now c.args.self.now 0 (name_labels c.args.name.now)
best c =
    let all : take c.loop-place.place-index c.as_slice-place-items.result.now ≡ c.as_slice-place-items.result.now = take_all c.loop-place.place-index c.as_slice-place-items.result.now (omega arith) in
    c.loop-place.invariant.best ∙ ap (λ (places : List ℕ). longest_recorded c.args.contents.now places 0 (name_labels c.args.name.now)) (all ∙ c.as_slice-place-items.ensures.value ∙ c.self.view_is)

pub returns-clause-longest : goal.returns-clause-longest
returns-clause-longest c = answer_longest _ _ _ _ (rw c.self.view_is at c.self.invariant.rising) (best c)

pub returns-clause-none : goal.returns-clause-none
returns-clause-none c = answer_none _ _ _ _ (best c)
