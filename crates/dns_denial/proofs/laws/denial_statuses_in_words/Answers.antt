use Rattle.std.proofs.Common.{refl}
use Rattle.dns_command.specs.declared.outcome.Outcome.TheVariants.{Done, Refused, TooLong}
use Rattle.dns_command.specs.declared.refusal.Refusal.TheVariants.{BadHex, Item, Own, Short}
use Rattle.dns_denial.specs.declared.refusal.DenialReason.TheVariants.{NoSignature, TooManyLabels}
use Rattle.dns_denial.proofs.Outcomes.{command_words, unread_done}
use Rattle.dns_denial.proofs.laws.denial_statuses_in_words.Goals as goal

pub returns : goal.returns
returns c = record {
  unread = unread_done;
  done = λ command t reads. command_words command t Done reads;
  short = λ command t reads. command_words command t (Refused (Short (record {}))) reads;
  item = λ command t section index reads. command_words command t (Refused (Item (record {}) section index)) reads;
  bad_hex = λ command t reads. command_words command t (Refused BadHex) reads;
  too_long = λ command t reads. command_words command t TooLong reads;
  no_signature = λ command t reads. command_words command t (Refused (Own NoSignature)) reads;
  too_many_labels = λ command t reads. command_words command t (Refused (Own TooManyLabels)) reads;
  usage = λ t. refl;
}
