use Rattle.std.proofs.Common.{arith}
use Rattle.std.specs.Int.{w8}
use Rattle.std.proofs.lemmas.Nat.Bits.{bit_at_set_same, bit_at_set_other, bit_at_clear_same}
use Rattle.dns_num.proofs.OneBit.{others_cleared}
use Rattle.dns_num.proofs.one_bit.octet_with_bit.Goals as goal

pub returns-then-value-clause-set : goal.returns-then-value-clause-set
returns-then-value-clause-set c = rw (c.if-value.true) (bit_at_set_same w8 c.args.octet c.args.place c.requires)

pub returns-then-value-clause-others : goal.returns-then-value-clause-others
returns-then-value-clause-others c = bit_at_set_other w8 c.args.octet c.args.place c.requires

pub returns-else-value-clause-set : goal.returns-else-value-clause-set
returns-else-value-clause-set c = rw (c.if-value.false) (bit_at_clear_same w8 c.args.octet c.args.place c.requires)

pub returns-else-value-clause-others : goal.returns-else-value-clause-others
returns-else-value-clause-others c = others_cleared w8 c.args.octet c.args.place c.requires (omega (arith, c.well_formed))
