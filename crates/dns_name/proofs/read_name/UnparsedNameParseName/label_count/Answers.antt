use Rattle.std.proofs.Common.{arith}
use Rattle.dns_name.specs.Unparsed.{unparsed_of}
use Rattle.dns_name.proofs.UnparsedNames.{unparsed_octets, few_unparsed}
use Rattle.dns_name.proofs.read_name.UnparsedNameParseName.label_count.Goals as goal

pub loop-label-init : goal.loop-label-init
loop-label-init c = (omega arith, few_unparsed _ (unparsed_octets c.args.self.now.slice.now (unparsed_of c.args.self.now.slice.now) c.args.self.now.is_name).0)
