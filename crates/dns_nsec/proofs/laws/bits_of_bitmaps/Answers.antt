use Rattle.dns_nsec.proofs.Marked.{types_marked}
use Rattle.dns_nsec.proofs.laws.bits_of_bitmaps.Goals as goal

pub returns : goal.returns
returns c bytes type is = types_marked bytes type is
