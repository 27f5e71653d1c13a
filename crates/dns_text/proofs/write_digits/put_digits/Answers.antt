use Rattle.std.proofs.Common.{◌∙◌, ◌+◌, ◌-◌, arith, length}
use Rattle.dns_text.proofs.Encoding.{encoded}
use Rattle.dns_text.proofs.ShownBlocks.{fewer_shown, last_block}
use Rattle.dns_text.proofs.write_digits.put_digits.Goals as goal

pub returns-then-octets-lt-BLOCK : goal.returns-then-octets-lt-BLOCK
returns-then-octets-lt-BLOCK c = (rw c.unwrap.ensures at c.encode_to_slice.ensures.written) ∙ encoded c.args.octets.now

pub returns : goal.returns
returns c =
    let i = c.loop-at.invariant in
    let octets = c.args.octets.now in
    let last = length octets - 16 in
    last_block octets c.put_block-2.new.text (last + 16) (omega (arith, c.if-octets-lt-BLOCK.false)) (c.put_block-2.ensures.long ∙ i.long)
    (c.put_block-2.ensures.next (fewer_shown octets c.loop-at.text c.loop-at.at last (omega (arith, c.loop-at-test.false, i.within)) i.within i.so_far))
