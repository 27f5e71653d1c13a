use Rattle.dns_message.proofs.Ordering.{records_total, ties, before}
use Rattle.dns_message.proofs.laws.order_of_records.Goals as goal

pub returns : goal.returns
returns c = record { total = records_total; ties = ties; before = before }
