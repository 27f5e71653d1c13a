use Rattle.std.proofs.Common.{refl}
use Rattle.dns_command.specs.declared.outcome.Outcome.TheVariants.{Done, Refused, TooLong}
use Rattle.dns_command.specs.declared.refusal.Refusal.TheVariants.{BadHex, Item, Own, Short}
use Rattle.dns_normal.specs.declared.refusal.NormalReason.TheVariants.{TooLarge}
use Rattle.dns_normal.proofs.NormalOutcomes.{outcome_words}
use Rattle.dns_normal.proofs.laws.normal_statuses_in_words.Goals as goal

pub returns : goal.returns
returns c = record {
  done = λ t. outcome_words t Done;
  too_large = λ t. outcome_words t (Refused (Own TooLarge));
  short = λ t. outcome_words t (Refused (Short (record {})));
  item = λ t section index. outcome_words t (Refused (Item (record {}) section index));
  bad_hex = λ t. outcome_words t (Refused BadHex);
  too_long = λ t. outcome_words t TooLong;
  usage = λ t. refl;
}
