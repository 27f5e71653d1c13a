use Rattle.std.proofs.Common.{rules}
use Rattle.dns_record.proofs.data_checks.after_option.Goals as goal

pub returns : goal.returns
returns c = (record { code = c.in-Ok._code.value; content = c.in-Ok-split_octets._content.now }, search rules)
