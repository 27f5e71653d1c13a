use Rattle.std.proofs.Common.{sym, ◌∙◌, true}
use Rattle.dns_basic.specs.Types.{ptr_fields}
use Rattle.std.specs.Prelude.{map}
use Rattle.dns_record.specs.Fields.{named_by}
use Rattle.dns_record.proofs.ComparedOctets.{fields_compared}
use Rattle.dns_basic.proofs.ptr.PtrCanonicalRecordData.cmp_canonical.Goals as goal

pub returns : goal.returns
returns g c =
    c.cmp_lowercase_composed.ensures.order ∙ sym (fields_compared true (map (named_by g.N.CanonicalName.name) (ptr_fields c.args.self.now)) (map (named_by g.N.CanonicalName.name) (ptr_fields c.args.other.now)) c.cmp_lowercase_composed.ensures.names)
