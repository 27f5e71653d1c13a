use Rattle.std.proofs.Common.{ap, ◌∙◌}
use Rattle.std.specs.Str.{str_to_ascii_lowercase}
use Rattle.dns_wire.specs.Names.{wire, lowered, name_labels}
use Rattle.dns_wire.proofs.Spelled.{name_octets}
use Rattle.dns_name.specs.Composed.{octets_cmp}
use Rattle.dns_name.proofs.NameSameness.{octets_lowered}
use Rattle.dns_name.proofs.canonical_name.NameCanonicalName.cmp_lowercase_composed.Goals as goal

pub returns-clause-order : goal.returns-clause-order
returns-clause-order c =
    c.compare_lowercase.ensures
    ∙ ap (λ a. octets_cmp a (str_to_ascii_lowercase c.as_bytes-2.result.now)) (ap str_to_ascii_lowercase c.as_bytes.ensures.octets ∙ octets_lowered _ c.args.self.now.is_name)
    ∙ ap (octets_cmp (wire (lowered (name_labels c.args.self.now.slice.now)))) (ap str_to_ascii_lowercase c.as_bytes-2.ensures.octets ∙ octets_lowered _ c.args.other.now.is_name)

pub returns-clause-names : goal.returns-clause-names
returns-clause-names c = ((name_octets _ _ c.args.self.now.is_name).0, (name_octets _ _ c.args.other.now.is_name).0)
