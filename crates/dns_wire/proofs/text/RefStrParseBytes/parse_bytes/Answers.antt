use Rattle.dns_wire.proofs.Utf8.{is_text, is_no_text}
use Rattle.dns_wire.proofs.text.RefStrParseBytes.parse_bytes.Goals as goal

pub returns-in-Ok-clause-exact : goal.returns-in-Ok-clause-exact
returns-in-Ok-clause-exact c = rw c.in-Ok.ensures.cases.0 (is_text c.args.bytes.now c.in-Ok.ensures.cases.1)

pub returns-in-Err-clause-exact : goal.returns-in-Err-clause-exact
returns-in-Err-clause-exact c = is_no_text c.args.bytes.now c.in-Err.ensures.cases.0
