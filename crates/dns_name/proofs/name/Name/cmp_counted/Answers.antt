use Rattle.std.proofs.Common.{arith, ap, length}
use Rattle.dns_name.proofs.Agreed.{end_short}
use Rattle.dns_name.proofs.NameSuffixes.{steps_of_label}
use Rattle.dns_name.proofs.name.Name.cmp_counted.Goals as goal

pub overflow_add-agreed : goal.overflow_add-agreed
overflow_add-agreed g c = record { fits = omega (arith, c.agreement_from_end-agreed.ensures, end_short c.as_bytes.result.now c.as_bytes-2.result.now, c.as_bytes.ensures.short) }

pub returns-clause-most : goal.returns-clause-most
returns-clause-most g c =
    let scanned = end_short c.as_bytes.result.now c.as_bytes-2.result.now in
    let label = steps_of_label c.labels_before.result.0 _ _ _ c.compare_labels.ensures.most c.labels_before.ensures.labels in
    omega (arith, c.agreement_from_end-agreed.ensures, scanned, ap length c.as_bytes.ensures.octets, c.add.ensures, c.labels_before.ensures.most, label, c.relative.ensures.octets, c.relative-2.ensures.octets)
