use Rattle.dns_message.proofs.Whole.{canonical_wire_back, well_formed_lowercased, canonical_wire_octets, canonical_wire_twice, lowercase_twice}
use Rattle.dns_message.proofs.laws.canonical_octets_are_read_back.Goals as goal

pub returns : goal.returns
returns c = record { back = canonical_wire_back; well_formed = well_formed_lowercased; octets = canonical_wire_octets; again = canonical_wire_twice; twice = lowercase_twice }
