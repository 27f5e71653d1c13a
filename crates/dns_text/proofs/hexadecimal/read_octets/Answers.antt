use Rattle.std.proofs.Common.{ap, sym, ◌∙◌}
use Rattle.dns_text.specs.Hexadecimal.{spelled}
use Rattle.dns_text.proofs.Decoding.{odd_spells_none}
use Rattle.dns_text.proofs.hexadecimal.read_octets.Goals as goal

pub returns-then-digits-eq1-clause-bad_hex : goal.returns-then-digits-eq1-clause-bad_hex
returns-then-digits-eq1-clause-bad_hex c = λ is. ap spelled (sym c.trimmed-digits.ensures) ∙ odd_spells_none c.trimmed-digits.result.now c.if-digits-eq1.true
