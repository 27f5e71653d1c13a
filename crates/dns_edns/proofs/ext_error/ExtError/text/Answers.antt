use Rattle.std.proofs.Common.{None, rules, arith}
use Rattle.std.proofs.lemmas.Str.Pattern.{strip_suffix_char}
use Rattle.dns_edns.proofs.TrimmedTexts.{no_nul}
use Rattle.dns_edns.proofs.ext_error.ExtError.text.Goals as goal

pub returns-in-None-clause-text : goal.returns-in-None-clause-text
returns-in-None-clause-text c = no_nul c.args.self.now.text.now (search rules) (strip_suffix_char 0 c.args.self.now.text.now None c.in-None.ensures.cases (omega arith))
