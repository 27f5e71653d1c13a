use Rattle.std.proofs.Common.{sym, ◌∙◌, false}
use Rattle.dns_record.proofs.ComparedOctets.{fields_compared, then_assoc}
use Rattle.dns_nsec.specs.Types.{nsec3param_fields}
use Rattle.dns_nsec.proofs.nsec3param.Nsec3ParamCanonicalRecordData.cmp_canonical.Goals as goal

pub returns : goal.returns
returns c =
    let order = rw (c.order_key.ensures.key, c.order_key-others.ensures.key) at c.cmp.ensures in
    order ∙ simp then_assoc
    (sym (fields_compared false (nsec3param_fields c.args.self.now) (nsec3param_fields c.args.other.now) (tt, (tt, ((c.order_key.ensures.fits, c.order_key-others.ensures.fits), tt)))))
