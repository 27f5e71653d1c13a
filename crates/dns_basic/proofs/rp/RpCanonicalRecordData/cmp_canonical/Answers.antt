use Rattle.std.proofs.Common.{sym, ◌∙◌, true, [], ◌∷◌}
use Rattle.dns_record.specs.Fields.FieldOf.{CompressibleName}
use Rattle.dns_record.proofs.ComparedOctets.{first_ties, first_decides, last_decides}
use Rattle.dns_basic.proofs.rp.RpCanonicalRecordData.cmp_canonical.Goals as goal

pub returns-in-Equal : goal.returns-in-Equal
returns-in-Equal g c =
    let name = g.N.CanonicalName.name in let a = c.args.self.now in let b = c.args.other.now in
    first_ties true (CompressibleName (name a.mailbox)) (CompressibleName (name b.mailbox)) (CompressibleName (name a.texts) ∷ []) (CompressibleName (name b.texts) ∷ []) _ c.cmp_lowercase_composed.ensures.names (sym c.cmp_lowercase_composed.ensures.order ∙ c.in-Equal.is)
    (last_decides true (CompressibleName (name a.texts)) (CompressibleName (name b.texts)) _ c.cmp_lowercase_composed-in-Equal.ensures.names c.cmp_lowercase_composed-in-Equal.ensures.order)

pub returns-in_default : goal.returns-in_default
returns-in_default g c =
    let name = g.N.CanonicalName.name in let a = c.args.self.now in let b = c.args.other.now in
    first_decides true (CompressibleName (name a.mailbox)) (CompressibleName (name b.mailbox)) (CompressibleName (name a.texts) ∷ []) (CompressibleName (name b.texts) ∷ []) _ c.cmp_lowercase_composed.ensures.names c.cmp_lowercase_composed.ensures.order c.in_default.not-Equal
