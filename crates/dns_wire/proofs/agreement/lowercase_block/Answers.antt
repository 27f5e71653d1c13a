use Rattle.std.proofs.Common.{refl, take, drop, w8}
use Rattle.std.proofs.lemmas.Simd.{chunk-fits}
use Rattle.dns_wire.proofs.Agreeing.{block_of, lowercase_chosen}
use Rattle.dns_wire.proofs.agreement.lowercase_block.Goals as goal

pub returns : goal.returns
returns c = lowercase_chosen _ _ _ (take 16 (drop c.args.at c.args.octets.now)) (block_of c.args.at c.args.octets.now c.requires) (chunk-fits w8 c.args.at 16 c.args.octets.now c.type_inv.octets) refl
