use Rattle.dns_message.proofs.WellFormedLemmas.{record_item_well, all_well}
use Rattle.dns_message.proofs.laws.records_that_are_read_are_well_formed.Goals as goal

pub returns : goal.returns
returns c = record { record_item = record_item_well; valid = all_well }
