use Rattle.std.proofs.Common.{◌+◌, arith}
use Rattle.dns_message.specs.Building.{count_in}
use Rattle.dns_message.proofs.Pushed.{header_long, header_octets, header_prefix, counts_with}
use Rattle.dns_message.proofs.build_laws.pushes_count_one_more.Goals as goal

pub returns : goal.returns
returns c = record {
  size = λ section writes draft below twelve. header_long section (count_in section draft.header + 1) draft.header below twelve;
  octets = λ section writes draft are. header_octets section (count_in section draft.header + 1) draft.header are;
  prefix = λ section writes draft below twelve. header_prefix section (count_in section draft.header + 1) draft.header below twelve;
  counts = λ section writes draft below twelve few. counts_with section (count_in section draft.header + 1) draft.header below (omega (arith, few)) (omega (arith, twelve));
}
