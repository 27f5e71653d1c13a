use Rattle.dns_record_lines.proofs.RecordsOfLines.{equal_records, same_line}
use Rattle.dns_record_lines.proofs.laws.equal_lines.Goals as goal

pub returns : goal.returns
returns c = record { forms = same_line; records = equal_records }
