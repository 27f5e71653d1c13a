use Rattle.std.proofs.Common.{sym, ◌∙◌, ◌<◌, ◌^◌, false, arith}
use Rattle.dns_record.proofs.ComparedOctets.{fields_compared, then_assoc}
use Rattle.dns_sec.specs.Types.{ds_fields}
use Rattle.dns_sec.proofs.ds.DsCanonicalRecordData.cmp_canonical.Goals as goal

pub returns : goal.returns
returns c =
    let one : c.args.self.now.keytag.value < 2 ^ 16 = omega (arith, c.get.ensures) in
    let two : c.args.other.now.keytag.value < 2 ^ 16 = omega (arith, c.get-2.ensures) in
    c.cmp.ensures ∙ rw (c.get.ensures, c.get-2.ensures) (simp then_assoc
    (sym (fields_compared false (ds_fields c.args.self.now) (ds_fields c.args.other.now) ((one, two), (tt, (tt, tt))))))
