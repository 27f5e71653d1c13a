use Rattle.std.proofs.NetLemmas.Texts.{IsZeroRun-longest_zero_run, longest_zero_run_first}
use Rattle.dns_plain.proofs.address_laws.runs_of_zero.Goals as goal

-- src/address_laws.rt:22:1
pub returns-clause-occurs : goal.returns-clause-occurs
returns-clause-occurs c groups = (IsZeroRun-longest_zero_run groups).1

-- src/address_laws.rt:22:1
pub returns-clause-longest : goal.returns-clause-longest
returns-clause-longest c groups start count within zeros = (longest_zero_run_first groups start count (within, zeros)).0

-- src/address_laws.rt:22:1
pub returns-clause-first : goal.returns-clause-first
returns-clause-first c groups start count within zeros = (longest_zero_run_first groups start count (within, zeros)).1
