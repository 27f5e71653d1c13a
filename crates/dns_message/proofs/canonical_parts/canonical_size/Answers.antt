use Rattle.std.proofs.Common.{arith}
use Rattle.dns_message.proofs.CanonBuilt.{parts_long}
use Rattle.dns_message.proofs.canonical_parts.canonical_size.Goals as goal

pub returns-clause-size : goal.returns-clause-size
returns-clause-size g c =
    omega (
      arith,
      c.built_bytes_size.ensures.size,
      c.built_bytes_size-2.ensures,
      parts_long c.args.found.now.rname.now c.args.found.now.rtype.code.value c.args.found.now.rclass.code.value c.args.found.now.ttl.value.value (g.D.CanonicalRecordData.canonical c.args.found.now.rdata.now),
    )
