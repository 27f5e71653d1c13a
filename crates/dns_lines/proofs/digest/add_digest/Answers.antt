use Rattle.std.proofs.Common.{None, rules}
use Rattle.dns_lines.proofs.digest.add_digest.Goals as goal

pub returns-in_err-forms-clause-refused : goal.returns-in_err-forms-clause-refused
returns-in_err-forms-clause-refused c = let refused = c.in_err-forms.ensures.refused (λ rs. None) in search (rules, refused)
