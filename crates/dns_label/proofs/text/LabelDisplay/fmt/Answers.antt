use Rattle.std.proofs.Common.{take, get_or, [], sym, ap, ◌∙◌, arith, rules}
use Rattle.std.specs.List.{flat_map}
use Rattle.std.proofs.Output.{has_written_append, has_written_of_eq}
use Rattle.std.proofs.lemmas.List.{flat_map_more, take_more}
use Rattle.dns_label.specs.Text.{shown_octet}
use Rattle.dns_label.proofs.text.LabelDisplay.fmt.Goals as goal

pub loop-octet-preserved : goal.loop-octet-preserved
loop-octet-preserved g c =
    λ plain.
    let octets = c.contents-octet-items.result.now in
    let i = c.loop-octet.octet-index in
    has_written_of_eq _ _ _ _ _
    (flat_map_more shown_octet [] (take i octets) (get_or octets i 0)
    ∙ ap (flat_map shown_octet) (sym (take_more octets i 0 (omega (arith, c.loop-octet-test.true)))))
    (has_written_append _ _ _ _ _ _ (c.loop-octet.invariant plain) (search rules))
