use Rattle.std.proofs.Common.{arith}
use Rattle.dns_normal.proofs.message.room_for.Goals as goal

pub returns : goal.returns
returns c = omega (arith, c.octet_count.ensures.octets, c.saturating_add.ensures, c.min.ensures)
