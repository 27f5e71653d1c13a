use Rattle.std.proofs.Common.{refl}
use Rattle.dns_record_lines.proofs.RecordsOfLines.{is_record, one_record}
use Rattle.dns_record_lines.proofs.laws.lines_are_read_back.Goals as goal

pub returns : goal.returns
returns c = record { read = λ r well other. (is_record r well other, refl); one = one_record }
