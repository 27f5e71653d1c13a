use Rattle.dns_record_lines.proofs.RecordOrder.{lines_order}
use Rattle.dns_record_lines.proofs.RecordsOfLines.{records_order}
use Rattle.dns_record_lines.proofs.laws.lines_are_sorted.Goals as goal

pub returns : goal.returns
returns c = record { forms = lines_order; records = records_order }
