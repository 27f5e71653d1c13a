use Rattle.dns_wire.proofs.BuildingLemmas.{builds_after}
use Rattle.dns_wire.proofs.compression.write_name.put_cut.Goals as goal

pub returns-in_ok-middle-in-Some : goal.returns-in_ok-middle-in-Some
returns-in_ok-middle-in-Some c = rw c.in-Some.is (rw c.to_be_bytes.ensures at (builds_after c.in_ok-middle-in-Some.ensures.ok.1 c.put-in-Some-2.ensures))
