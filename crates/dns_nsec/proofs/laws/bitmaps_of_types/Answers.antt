use Rattle.dns_nsec.proofs.Made.{types_made}
use Rattle.dns_nsec.proofs.laws.bitmaps_of_types.Goals as goal

pub returns : goal.returns
returns c types up few = types_made types up few
