use Rattle.std.proofs.Common.{ap, subst, ◌∙◌}
use Rattle.std.specs.Prelude.{⊤}
use Rattle.dns_wire.specs.Building.{Builds}
use Rattle.dns_message.specs.Canonical.{canonical_wire}
use Rattle.dns_message.proofs.CanonBuilt.{canonical_short, parts_are}
use Rattle.dns_message.proofs.canonical_record.CanonicalRecordBuildBytes.build_at.Goals as goal

pub returns : goal.returns
returns c =
    let r = c.parts.result in
    subst (λ o. Builds ⊤ o c.args.bytes.now c.args.start c.build_canonical_record.new.bytes c.build_canonical_record.result)
    (parts_are (λ labels. labels) r.rname.now r.rtype.code.value r.rclass.code.value r.ttl.value.value r.rdata.now c.parts.ensures.typed ∙ ap canonical_wire c.parts.ensures.value) c.build_canonical_record.ensures

pub build_canonical_record-requires-clause-short : goal.build_canonical_record-requires-clause-short
build_canonical_record-requires-clause-short c = canonical_short (λ labels. labels) c.parts.result.rdata.now c.parts.ensures.short
