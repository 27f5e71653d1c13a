use Rattle.std.proofs.Common.{refl}
use Rattle.dns_command.specs.declared.outcome.Outcome.TheVariants.{Done, Refused, TooLong}
use Rattle.dns_command.specs.declared.refusal.Refusal.TheVariants.{BadHex, Item, Own, Short}
use Rattle.dns_zone.specs.declared.refusal.ZoneReason.TheVariants.{NoSoa}
use Rattle.dns_zone.proofs.ZoneOutcomes.{outcome_words}
use Rattle.dns_zone.proofs.laws.zone_statuses_in_words.Goals as goal

pub returns : goal.returns
returns c = record {
  done = λ apex t. outcome_words apex t Done;
  no_soa = λ apex t. outcome_words apex t (Refused (Own NoSoa));
  short = λ apex t message. outcome_words apex t (Refused (Short message));
  item = λ apex t message section index. outcome_words apex t (Refused (Item message section index));
  bad_hex = λ apex t. outcome_words apex t (Refused BadHex);
  too_long = λ apex t. outcome_words apex t TooLong;
  usage = λ t. refl;
}
