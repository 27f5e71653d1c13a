use Rattle.std.proofs.Common.{◌∙◌, ap, sym}
use Rattle.std.specs.Str.{str_to_ascii_lowercase}
use Rattle.dns_label.proofs.ComparedLabels.{same_labels}
use Rattle.dns_label.proofs.order.LabelPartialEq.eq.Goals as goal

pub returns : goal.returns
returns c =
    let a = c.contents.ensures.contents in
    let b = c.contents-2.ensures.contents in
    let test = c.eq_ignore_ascii_case.ensures.test in
    same_labels _ _ _ (
      λ t. ap str_to_ascii_lowercase (sym a) ∙ test.0 t ∙ ap str_to_ascii_lowercase b,
      λ e. test.1 (ap str_to_ascii_lowercase a ∙ e ∙ ap str_to_ascii_lowercase (sym b)),
    )
