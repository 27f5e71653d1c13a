use Rattle.dns_text.proofs.DigitBlocks.{block_read}
use Rattle.dns_text.proofs.read_digits.block_of.Goals as goal

pub returns : goal.returns
returns c =
    let first = c.values_of-is_first in
    let second = c.values_of-is_second in
    block_read c.args.first c.args.second c.fits-first c.fits-second first.result.0 second.result.0 first.result.1 second.result.1 first.ensures second.ensures
