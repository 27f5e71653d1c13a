use Rattle.std.proofs.Common.{ap, ◌∙◌, length, arith}
use Rattle.dns_record.specs.CharacterStrings.{character_strings_octets}
use Rattle.dns_plain.proofs.TxtLemmas.{character_strings_whole, character_strings_few}
use Rattle.dns_plain.proofs.txt.Txt.iter.Goals as goal

pub returns-clause-whole : goal.returns-clause-whole
returns-clause-whole c = ap character_strings_octets c.new.ensures ∙ character_strings_whole _ c.args.self.now.is_txt

pub returns-clause-few : goal.returns-clause-few
returns-clause-few c = omega (arith, ap length c.new.ensures, character_strings_few _ c.args.self.now.is_txt)
