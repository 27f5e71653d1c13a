use Rattle.std.proofs.Common.{take}
use Rattle.dns_message.proofs.LastOwners.{canonical_lowercase, canonical_name}
use Rattle.dns_message.proofs.name_reader.NameReader.read_whole_owner.Goals as goal

pub put_owner_key-requires-clause-name : goal.put_owner_key-requires-clause-name
put_owner_key-requires-clause-name c =
    let name = rw c.in-Some.is at c.in_ok-span.ensures.read in
    canonical_name (take c.in-Some.span.size c.read_whole_name.new.buffer) name.0 name.2 name.4

pub put_owner_key-requires-clause-lowercase : goal.put_owner_key-requires-clause-lowercase
put_owner_key-requires-clause-lowercase c =
    let name = rw c.in-Some.is at c.in_ok-span.ensures.read in
    canonical_lowercase (take c.in-Some.span.size c.read_whole_name.new.buffer) name.0 name.2 name.4
