use Rattle.std.proofs.Common.{◌≡◌, arith, ap, sym, ◌∙◌, refl, length, None, Bool}
use Rattle.std.proofs.lemmas.List.{length-append}
use Rattle.dns_wire.specs.Names.{name_labels}
use Rattle.dns_wire.specs.Compression.{occurs_at}
use Rattle.dns_wire.specs.Searching.{else_later, before_limit}
use Rattle.dns_wire.proofs.Spelled.{name_short}
use Rattle.dns_wire.proofs.Longest.{limit_before, limit_reached, counts_of, suffix_later, suffix_only, suffix_uncounted, suffix_empty}
use Rattle.dns_wire.proofs.compression.suffix.suffix_before.Goals as goal
use Rattle.dns_wire.proofs.compression.suffix.suffix_before.Goals.{else-loop-left-test, then-loop-left-test+in_default, else-size-gt0-via-then-size-gt0+then-prefix-limit+else-is_name_at, else-size-gt0-via-then-size-gt0+else-prefix-limit, else-size-gt0-via-else-size-gt0}

pub returns-in_err-size : goal.returns-in_err-size
returns-in_err-size c = c.from_residual.ensures ∙ ap (before_limit c.args.limit) (sym (suffix_uncounted _ _ _ _ _ c.in_err-size.ensures.exact (omega arith)))

pub loop-left-init : goal.loop-left-init
loop-left-init c = record { whole = c.requires.name; size = omega arith; short = name_short _ _ c.requires.name; left = c.requires.count; enough = c.in_ok-size.ensures.within; same = refl }

pub loop-left-preserved : goal.loop-left-preserved
loop-left-preserved c = record {
  whole = c.in-Some.ensures.whole;
  size = omega (arith, ap length c.in-Some.ensures.parts, length-append c.in-Some.label.now c.in-Some.next.now);
  short = c.loop-left.invariant.short;
  left = omega (arith, ap length c.in-Some.ensures.labels);
  enough = omega arith;
  same = sym (suffix_later _ _ _ (counts_of _ _ _ _ c.in_ok-size.ensures.exact) _ _ _ _ c.in-Some.ensures.labels (omega arith)) ∙ c.loop-left.invariant.same;
}

pub returns-then-is_name_at : goal.returns-then-is_name_at
returns-then-is_name_at c =
    let long : length (name_labels c.loop-left.rest.now) ≡ c.in_ok-size.size = elim c.loop-left-test.branch [ else-loop-left-test w ↦ omega arith | then-loop-left-test+in_default w ↦ absurd (omega (arith, ap length w.in_default.ensures)) ] in
    let found = suffix_only _ _ _ (counts_of _ _ _ _ c.in_ok-size.ensures.exact) c.loop-left.prefix _ long (omega arith) in
    sym (limit_before c.args.limit c.loop-left.prefix (omega arith))
    ∙ ap (before_limit c.args.limit) (ap (λ (b : Bool). else_later c.loop-left.prefix b None) c.if-is_name_at.ensures ∙ sym found ∙ c.loop-left.invariant.same)

pub returns-else-size-gt0 : goal.returns-else-size-gt0
returns-else-size-gt0 c =
    let long : length (name_labels c.loop-left.rest.now) ≡ c.in_ok-size.size = elim c.loop-left-test.branch [ else-loop-left-test w ↦ omega arith | then-loop-left-test+in_default w ↦ absurd (omega (arith, ap length w.in_default.ensures)) ] in
    let counts = counts_of _ _ _ _ c.in_ok-size.ensures.exact in
    elim c.else-size-gt0.branch [
      | else-size-gt0-via-then-size-gt0+then-prefix-limit+else-is_name_at w ↦
          ap (before_limit c.args.limit) (ap (λ (b : Bool). else_later c.loop-left.prefix b None) w.if-is_name_at.ensures ∙ sym (suffix_only _ _ _ counts c.loop-left.prefix _ long (omega arith)) ∙ c.loop-left.invariant.same)
      | else-size-gt0-via-then-size-gt0+else-prefix-limit w ↦
          sym (limit_reached c.args.limit c.loop-left.prefix (occurs_at c.args.contents.now (name_labels c.loop-left.rest.now) c.args.place) (omega arith))
          ∙ ap (before_limit c.args.limit) (sym (suffix_only _ _ _ counts c.loop-left.prefix _ long (omega arith)) ∙ c.loop-left.invariant.same)
      | else-size-gt0-via-else-size-gt0 w ↦
          ap (before_limit c.args.limit) (sym (suffix_empty _ _ c.loop-left.prefix _ _ counts (omega arith)) ∙ c.loop-left.invariant.same)
    ]
