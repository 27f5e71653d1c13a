use Rattle.std.proofs.Common.{◌∙◌, sym}
use Rattle.dns_label.proofs.UnescapedOctets.{plain_letter, plain_mark}
use Rattle.dns_label.proofs.text.is_unescaped.Goals as goal

pub returns-then-is_ascii_alphanumeric : goal.returns-then-is_ascii_alphanumeric
returns-then-is_ascii_alphanumeric c =
    c.if-is_ascii_alphanumeric.true ∙ sym (plain_letter _ (sym c.is_ascii_alphanumeric.ensures.value ∙ c.if-is_ascii_alphanumeric.true))

pub returns-else-is_ascii_alphanumeric : goal.returns-else-is_ascii_alphanumeric
returns-else-is_ascii_alphanumeric c =
    plain_mark _ _ (sym c.is_ascii_alphanumeric.ensures.value ∙ c.if-is_ascii_alphanumeric.false) c.contains.ensures.value
