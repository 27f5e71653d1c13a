use Rattle.std.proofs.Common.{refl}
use Rattle.dns_canon.proofs.Pairs.{pair_words}
use Rattle.dns_canon.proofs.ExpectedStatuses.{done_words, short_words, item_words, bad_words, long_words}
use Rattle.dns_canon.specs.declared.status.Status.TheVariants.{Done, Short, Item, BadHex, TooLong}
use Rattle.dns_canon.proofs.laws.expected_statuses_in_words.Goals as goal

pub returns : goal.returns
returns c = record {
  done = done_words;
  short = short_words;
  item = item_words;
  bad_hex = bad_words;
  too_long = long_words;
  same_done = λ t. pair_words t Done;
  same_short = λ t message. pair_words t (Short message);
  same_item = λ t message section index. pair_words t (Item message section index);
  same_bad_hex = λ t. pair_words t BadHex;
  same_too_long = λ t. pair_words t TooLong;
  make_done = λ count. refl;
  usage = λ t. refl;
}
