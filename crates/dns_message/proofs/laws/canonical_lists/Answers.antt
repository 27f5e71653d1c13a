use Rattle.dns_message.proofs.Collapsing.{least_members}
use Rattle.dns_message.proofs.CanonicalListSameness.{canonical_list_least, least_climb, canonical_list_one}
use Rattle.dns_message.proofs.laws.canonical_lists.Goals as goal

pub returns : goal.returns
returns c = record { octets = canonical_list_least; least = least_members; climbs = least_climb; one = canonical_list_one }
