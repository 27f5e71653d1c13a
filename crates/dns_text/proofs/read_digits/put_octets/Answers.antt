use Rattle.std.proofs.Common.{◌≤◌, ◌+◌, ◌-◌, ◌*◌, ◌∙◌, ap, arith, length, drop, length-drop, take_all}
use Rattle.std.proofs.lemmas.Bool.{MatchBool-at_false, MatchBool-at_true}
use Rattle.std.proofs.lemmas.List.{drop_all}
use Rattle.std.proofs.lemmas.Simd.{length-put_chunk}
use Rattle.dns_text.proofs.DigitBlocks.{bad_block, good_block, last_read}
use Rattle.dns_text.proofs.read_digits.put_octets.Goals as goal

pub returns-then-not-is_spelled : goal.returns-then-not-is_spelled
returns-then-not-is_spelled c =
    let i = c.loop-octets.invariant in
    let within : c.loop-octets.at + 16 ≤ length c.loop-octets.octets = omega (arith, c.loop-octets-test.true, i.within) in
    bad_block c.args.digits.now c.loop-octets.octets c.loop-octets.at within i.long i.so_far (MatchBool-at_false _ _ c.if-not-is_spelled.true c.block_of-is_spelled.ensures)

pub loop-octets-preserved : goal.loop-octets-preserved
loop-octets-preserved c =
    let i = c.loop-octets.invariant in
    let at = c.loop-octets.at in
    let block = c.block_of-is_spelled.result.0 in
    let within : at + 16 ≤ length c.loop-octets.octets = omega (arith, c.loop-octets-test.true, i.within) in
    record {
      within = rw (length-put_chunk at c.loop-octets.octets block) within;
      long = rw (length-put_chunk at c.loop-octets.octets block) i.long;
      so_far = good_block c.args.digits.now c.loop-octets.octets at within i.long i.so_far block (MatchBool-at_true _ _ c.if-not-is_spelled.false c.block_of-is_spelled.ensures);
    }

pub returns : goal.returns
returns c =
    let i = c.loop-octets.invariant in
    let at = c.loop-octets.at in
    let digits = c.args.digits.now in
    let octets = c.loop-octets.octets in
    last_read digits octets _ c.decode_to_slice.new.out _ at _ c.decode_to_slice.result c.is_ok.result i.long i.so_far
    (take_all (length digits - 2 * at) (drop (2 * at) digits) (omega (arith, length-drop (2 * at) digits)))
    (ap length (take_all (length octets - at) (drop at octets) (omega (arith, length-drop at octets))) ∙ length-drop at octets)
    (drop_all (length octets - at) (drop at octets) (omega (arith, length-drop at octets)))
    c.decode_to_slice.ensures.value c.is_ok.ensures.value
