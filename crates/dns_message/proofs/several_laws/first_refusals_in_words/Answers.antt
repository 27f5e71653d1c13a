use Rattle.dns_wire.specs.Pointers.{name_at}
use Rattle.dns_record.specs.Data.{data_in}
use Rattle.dns_record.specs.FurtherFormats.{data_by}
use Rattle.dns_message.proofs.SeveralMessages.{first_words, none_valid, valid_none}
use Rattle.dns_message.proofs.several_laws.first_refusals_in_words.Goals as goal

pub returns : goal.returns
returns c = record {
  refused = first_words (data_in name_at);
  none = λ messages. (none_valid (data_in name_at) messages 0, λ (records, valid). valid_none (data_in name_at) messages records 0 valid);
  refused_by = λ formats. first_words (data_by formats);
  none_by = λ formats messages. (none_valid (data_by formats) messages 0, λ (records, valid). valid_none (data_by formats) messages records 0 valid);
}
