use Rattle.std.proofs.Common.{ap}
use Rattle.dns_name.specs.Json.{named}
use Rattle.dns_name.specs.Text.{shown_name}
use Rattle.dns_name.proofs.NameTexts.{names_spell, parsed_again, split_again}
use Rattle.dns_name.proofs.text_laws.printed_names_are_read.Goals as goal

pub returns-clause-parsed : goal.returns-clause-parsed
returns-clause-parsed c = λ labels name octets. parsed_again (shown_name labels) labels (names_spell labels octets) name

pub returns-clause-split : goal.returns-clause-split
returns-clause-split c =
    λ labels rest name octets some ends. split_again (shown_name labels) rest labels (names_spell labels octets) name some ends

pub returns-clause-json : goal.returns-clause-json
returns-clause-json c = λ labels name octets. ap named (parsed_again (shown_name labels) labels (names_spell labels octets) name)
