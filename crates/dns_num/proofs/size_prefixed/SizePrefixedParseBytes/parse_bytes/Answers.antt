use Rattle.dns_num.proofs.SizePrefixes.{not_whole}
use Rattle.dns_num.proofs.size_prefixed.SizePrefixedParseBytes.parse_bytes.Goals as goal

pub returns-then-content-size : goal.returns-then-content-size
returns-then-content-size g c = not_whole _ _ _ _ _ c.in_ok-size.ensures.exact c.if-content-size.true
