use Rattle.dns_label.specs.Text.{shown_label}
use Rattle.dns_label.proofs.Scanned.{shown_spells, parsed_again, split_again}
use Rattle.dns_label.proofs.text_laws.printed_labels_are_read.Goals as goal

pub returns-clause-parsed : goal.returns-clause-parsed
returns-clause-parsed c = λ contents octets short. parsed_again (shown_label contents) contents (shown_spells contents octets) short

pub returns-clause-split : goal.returns-clause-split
returns-clause-split c =
    λ contents rest octet octets short foreign. split_again (shown_label contents) contents rest octet (shown_spells contents octets) short foreign
