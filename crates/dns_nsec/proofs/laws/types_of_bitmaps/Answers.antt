use Rattle.dns_nsec.proofs.RisingTypes.{types_rise}
use Rattle.dns_nsec.proofs.AlikeBitmaps.{bitmaps_same, no_types_no_octets}
use Rattle.dns_nsec.proofs.laws.types_of_bitmaps.Goals as goal

pub returns-clause-rise : goal.returns-clause-rise
returns-clause-rise c bytes is = types_rise bytes is

pub returns-clause-none : goal.returns-clause-none
returns-clause-none c bytes small is = no_types_no_octets bytes small is

pub returns-clause-same : goal.returns-clause-same
returns-clause-same c a b small low p q e = bitmaps_same a b small low p q e
