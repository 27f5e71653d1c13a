use Rattle.std.proofs.Common.{sym, ◌∙◌, ◌<◌, ◌^◌, false, arith}
use Rattle.dns_record.proofs.ComparedOctets.{fields_compared, then_assoc}
use Rattle.dns_sec.specs.Types.{zonemd_fields}
use Rattle.dns_sec.proofs.zonemd.ZoneMDCanonicalRecordData.cmp_canonical.Goals as goal

pub returns : goal.returns
returns g c =
    let one : c.args.self.now.serial.0.value < 2 ^ 32 = omega (arith, c.get.ensures) in
    let two : c.args.other.now.serial.0.value < 2 ^ 32 = omega (arith, c.get-2.ensures) in
    c.cmp.ensures ∙ rw (c.get.ensures, c.get-2.ensures, c.as_slice.ensures, c.as_slice-2.ensures) (simp then_assoc
    (sym (fields_compared false (zonemd_fields g.D.AsSlice.items c.args.self.now) (zonemd_fields g.D.AsSlice.items c.args.other.now) ((one, two), (tt, (tt, tt))))))
