use Rattle.std.proofs.Common.{arith}
use Rattle.std.proofs.lemmas.Grind.{common_steps}
use Rattle.dns_record.specs.Options.{is_option_data}
use Rattle.dns_record.proofs.data_checks.are_options.Goals as goal

pub returns-then-bytes-le-MAX_DATA_SIZE : goal.returns-then-bytes-le-MAX_DATA_SIZE
unfolding is_option_data
returns-then-bytes-le-MAX_DATA_SIZE c = grind (arith, common_steps)

pub returns-else-bytes-le-MAX_DATA_SIZE : goal.returns-else-bytes-le-MAX_DATA_SIZE
unfolding is_option_data
returns-else-bytes-le-MAX_DATA_SIZE c = grind (arith, common_steps)
