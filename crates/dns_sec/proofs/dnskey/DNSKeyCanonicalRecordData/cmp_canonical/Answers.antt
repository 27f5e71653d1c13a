use Rattle.std.proofs.Common.{sym, ◌∙◌, ◌<◌, ◌^◌, false, arith}
use Rattle.dns_record.proofs.ComparedOctets.{fields_compared, then_assoc}
use Rattle.dns_sec.specs.Flags.{key_flag_bits}
use Rattle.dns_sec.specs.Types.{dnskey_fields}
use Rattle.dns_sec.proofs.dnskey.DNSKeyCanonicalRecordData.cmp_canonical.Goals as goal

pub returns : goal.returns
returns c =
    let one : key_flag_bits c.args.self.now.flags < 2 ^ 16 = omega (arith, c.bits.ensures) in
    let two : key_flag_bits c.args.other.now.flags < 2 ^ 16 = omega (arith, c.bits-2.ensures) in
    c.cmp.ensures ∙ rw (c.bits.ensures, c.bits-2.ensures) (simp then_assoc
    (sym (fields_compared false (dnskey_fields c.args.self.now) (dnskey_fields c.args.other.now) ((one, two), (tt, (tt, tt))))))
