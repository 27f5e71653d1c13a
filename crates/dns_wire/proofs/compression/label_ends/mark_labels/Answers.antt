use Rattle.std.proofs.Common.{◌≡◌, ◌∙◌, length, ℕ, ap}
use Rattle.std.proofs.lemmas.List.{length-set}
use Rattle.dns_wire.specs.Searching.{label_class, class_by}
use Rattle.dns_wire.proofs.LabelEnds.{end_octet, marking_next, marking_done}
use Rattle.dns_wire.proofs.compression.label_ends.mark_labels.Goals as goal

pub loop-label-preserved : goal.loop-label-preserved
loop-label-preserved c =
    let class : c.class_of.result ≡ label_class c.args.back c.in-Some.label.now =
    c.class_of.ensures ∙ ap (λ (n : ℕ). class_by n (length c.in-Some.label.now)) (end_octet c.args.back _ _ _ c.in-Some.ensures) in
    record {
      whole = c.in-Some.ensures.whole;
      size = length-set _ _ _ ∙ c.loop-label.invariant.size;
      marking = rw class (marking_next c.args.back _ _ _ _ _ c.loop-label.invariant.size c.loop-label.invariant.marking c.in-Some.ensures);
    }

pub returns : goal.returns
returns c = marking_done _ _ _ _ c.loop-label.invariant.marking c.in_default.ensures
