use Rattle.std.proofs.Common.{◌+◌, ◌*◌, ◌∙◌}
use Rattle.std.proofs.lemmas.Simd.{length-put_chunk}
use Rattle.dns_text.proofs.ShownBlocks.{next_block}
use Rattle.dns_text.proofs.write_digits.put_block.Goals as goal

pub returns-clause-long : goal.returns-clause-long
returns-clause-long c = length-put_chunk (2 * c.args.at + 16) _ c.block_shown.result.1 ∙ length-put_chunk (2 * c.args.at) c.args.text.now c.block_shown.result.0

pub returns-clause-next : goal.returns-clause-next
returns-clause-next c = λ so_far.
    next_block c.args.octets.now c.args.text.now c.block_shown.result.0 c.block_shown.result.1 c.args.at c.requires.within c.requires.long so_far
    (c.block_shown.ensures.first, c.block_shown.ensures.second)
