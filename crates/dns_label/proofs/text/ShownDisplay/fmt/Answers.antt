use Rattle.std.proofs.Common.{refl, sym, ◌∙◌, arith}
use Rattle.std.proofs.Output.{has_written_append, has_written_of_eq}
use Rattle.dns_label.proofs.UnescapedOctets.{written_itself, written_marked, written_digits}
use Rattle.dns_label.proofs.text.ShownDisplay.fmt.Goals as goal

pub returns-then-is_unescaped-clause-writes : goal.returns-then-is_unescaped-clause-writes
returns-then-is_unescaped-clause-writes g c =
    λ plain ok.
    has_written_of_eq _ _ _ _ _
    (written_itself _ _ c.from.ensures (omega arith) (sym c.is_unescaped.ensures ∙ c.if-is_unescaped.true))
    (c.write_char.ensures.writes plain ok)

pub returns-in_ok-write_char-clause-writes : goal.returns-in_ok-write_char-clause-writes
returns-in_ok-write_char-clause-writes g c =
    λ plain ok.
    let first = c.in_ok-write_char.ensures.writes plain refl in
    has_written_of_eq _ _ _ _ _
    (written_marked _ _ c.from-then-is_ascii_graphic.ensures (sym c.is_unescaped.ensures ∙ c.if-is_unescaped.false)
    (sym c.is_ascii_graphic.ensures.value ∙ c.if-is_ascii_graphic.true))
    (has_written_append _ _ _ _ _ _ first (c.write_char-then-is_ascii_graphic-2.ensures.writes first.plain ok))

pub returns-else-is_ascii_graphic-clause-writes : goal.returns-else-is_ascii_graphic-clause-writes
returns-else-is_ascii_graphic-clause-writes g c =
    λ plain ok.
    has_written_of_eq _ _ _ _ _
    (written_digits _ (omega arith) (sym c.is_unescaped.ensures ∙ c.if-is_unescaped.false)
    (sym c.is_ascii_graphic.ensures.value ∙ c.if-is_ascii_graphic.false))
    (c.write.ensures.writes plain ok)
