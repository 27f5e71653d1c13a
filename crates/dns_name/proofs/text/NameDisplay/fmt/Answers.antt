use Rattle.std.proofs.Common.{[], ◌∷◌, ◌++◌, refl, ap, sym, ◌∙◌, append_assoc}
use Rattle.std.proofs.Output.{has_written_append, has_written_of_eq}
use Rattle.std.proofs.lemmas.List.{append-nil}
use Rattle.dns_label.specs.Labels.{contents_of}
use Rattle.dns_label.specs.Text.{shown_label}
use Rattle.dns_name.specs.Text.{shown_name}
use Rattle.dns_name.proofs.Buffered.{relative_held}
use Rattle.dns_name.proofs.text.NameDisplay.fmt.Goals as goal

pub new-label-items-requires : goal.new-label-items-requires
new-label-items-requires g c = (relative_held _ c.relative.result.are_labels).0

pub loop-label-preserved : goal.loop-label-preserved
loop-label-preserved g c =
    λ plain.
    let now = c.loop-label.invariant plain in
    let written = shown_label (contents_of c.in-Some.label.slice.now) ++ 46 ∷ [] in (
      now.0 ++ written,
      has_written_append _ _ _ _ _ _ now.1 (c.in_ok-write.ensures.writes now.1.plain refl),
      append_assoc now.0 written (shown_name c.next.new.self) ∙ ap (λ l. now.0 ++ shown_name l) (sym c.in-Some.ensures.steps) ∙ now.2,
    )

pub returns-clause-writes : goal.returns-clause-writes
returns-clause-writes g c =
    λ plain done.
    let now = c.loop-label.invariant plain in
    has_written_of_eq _ _ _ _ _
    (sym (append-nil now.0)
    ∙ ap (λ l. now.0 ++ shown_name l) (sym c.in-None.ensures.steps.0)
    ∙ now.2
    ∙ ap shown_name (c.into_iter-label-iterator.ensures.into_iter_gives ∙ c.new-label-items.ensures ∙ (relative_held _ c.relative.result.are_labels).1 ∙ c.relative.ensures.labels))
    now.1
