use Rattle.std.proofs.Common.{arith, refl, slice_index_or}
use Rattle.std.proofs.lemmas.Grind.{common_steps}
use Rattle.dns_record.proofs.data_checks.after_window.Goals as goal

pub returns : goal.returns
returns c = (record { number = slice_index_or c.args.bytes.now 0 0; bits = c.split_at.result.0.now }, grind (arith, common_steps), refl, grind (arith, common_steps))
