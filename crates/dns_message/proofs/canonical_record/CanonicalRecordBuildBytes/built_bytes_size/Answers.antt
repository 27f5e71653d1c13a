use Rattle.std.proofs.Common.{ap, length, ◌∙◌}
use Rattle.dns_message.specs.Canonical.{canonical_wire}
use Rattle.dns_message.proofs.CanonBuilt.{canonical_short, parts_are}
use Rattle.dns_message.proofs.canonical_record.CanonicalRecordBuildBytes.built_bytes_size.Goals as goal

pub returns-clause-size : goal.returns-clause-size
returns-clause-size c =
    let r = c.parts.result in
    c.canonical_size.ensures.size ∙ ap length (parts_are (λ labels. labels) r.rname.now r.rtype.code.value r.rclass.code.value r.ttl.value.value r.rdata.now c.parts.ensures.typed ∙ ap canonical_wire c.parts.ensures.value)

pub canonical_size-requires : goal.canonical_size-requires
canonical_size-requires c = record { short = canonical_short (λ labels. labels) c.parts.result.rdata.now c.parts.ensures.short }
