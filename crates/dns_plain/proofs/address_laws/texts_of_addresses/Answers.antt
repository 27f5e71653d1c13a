use Rattle.std.proofs.Common.{sym, ap, ◌∙◌}
use Rattle.std.specs.Net.Addr.{segments_of, octets_of}
use Rattle.dns_plain.proofs.AddressTexts.{four_spell, printed_spells, one_ipv4, one_ipv6, ungrouped}
use Rattle.dns_plain.proofs.address_laws.texts_of_addresses.Goals as goal

-- src/address_laws.rt:11:1
pub returns-clause-printed : goal.returns-clause-printed
returns-clause-printed c v e all = four_spell v.octets e all

-- src/address_laws.rt:11:1
pub returns-clause-one : goal.returns-clause-one
returns-clause-one c text v other h k = one_ipv4 text v.octets other.octets h k

-- src/address_laws.rt:11:1
pub returns-clause-printed_long : goal.returns-clause-printed_long
returns-clause-printed_long c v e all = printed_spells v.octets e all

-- src/address_laws.rt:11:1
pub returns-clause-one_long : goal.returns-clause-one_long
returns-clause-one_long c text v other e all f others h k =
    sym (ungrouped 8 v.octets e all) ∙ ap octets_of (one_ipv6 text (segments_of v.octets) (segments_of other.octets) h k) ∙ ungrouped 8 other.octets f others
