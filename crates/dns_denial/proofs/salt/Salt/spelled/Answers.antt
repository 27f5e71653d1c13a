use Rattle.std.proofs.Common.{sym}
use Rattle.dns_text.proofs.Decoding.{odd_spells_none}
use Rattle.dns_denial.proofs.salt.Salt.spelled.Goals.{then-digits-eq1-via-then-digits-eq1, then-digits-eq1-via-else-digits-eq1+then-not-put_octets}
use Rattle.dns_denial.proofs.salt.Salt.spelled.Goals as goal

pub returns-then-digits-eq1 : goal.returns-then-digits-eq1
returns-then-digits-eq1 c = elim c.then-digits-eq1.branch [
  | then-digits-eq1-via-then-digits-eq1 w ↦ sym (odd_spells_none c.args.digits.now w.if-digits-eq1.true)
  | then-digits-eq1-via-else-digits-eq1+then-not-put_octets w ↦ sym w.if-not-put_octets.ensures
]
