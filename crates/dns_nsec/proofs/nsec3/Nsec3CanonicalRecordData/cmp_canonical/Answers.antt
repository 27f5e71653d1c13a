use Rattle.std.proofs.Common.{sym, ◌∙◌, false}
use Rattle.dns_record.proofs.ComparedOctets.{fields_compared, then_assoc}
use Rattle.dns_nsec.specs.Types.{nsec3_fields}
use Rattle.dns_nsec.proofs.nsec3.Nsec3CanonicalRecordData.cmp_canonical.Goals as goal

pub returns : goal.returns
returns c =
    let p = c.order_key-parameters.ensures in
    let q = c.order_key-parameters-2.ensures in
    let order = rw (p.key, q.key, c.order_key-next_owner.ensures, c.order_key-next_owner-2.ensures) at c.cmp.ensures in
    order ∙ simp then_assoc
    (sym (simp then_assoc at (fields_compared false (nsec3_fields c.args.self.now) (nsec3_fields c.args.other.now) (tt, (tt, ((p.fits, q.fits), (tt, (tt, tt))))))))
