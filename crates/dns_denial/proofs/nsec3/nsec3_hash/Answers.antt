use Rattle.std.proofs.Common.{arith}
use Rattle.dns_wire.specs.Names.{lowered, name_labels, wire}
use Rattle.dns_wire.proofs.Lowered.{lowered_long}
use Rattle.dns_wire.proofs.Spelled.{name_octets}
use Rattle.dns_message.proofs.CanonicalOctets.{written_prefix}
use Rattle.dns_denial.proofs.nsec3.nsec3_hash.Goals as goal

pub unwrap-size-requires : goal.unwrap-size-requires
unwrap-size-requires c =
    let labels = name_labels c.args.name.slice.now in
    let name = (name_octets c.args.name.slice.now labels c.args.name.is_name).0 in
    (written_prefix (wire (lowered labels)) _ c.build_lowercased_at.new.bytes c.build_lowercased_at.result (omega (arith, lowered_long labels, name.size)) c.build_lowercased_at.ensures).0
