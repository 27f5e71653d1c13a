use Rattle.dns_zonemd.proofs.SortedRecords.{count_of_messages, members_of_messages, soa_of_messages, stream_of_messages}
use Rattle.dns_zonemd.proofs.laws.members_of_sorted_records.Goals as goal

pub returns : goal.returns
returns c = record { members = members_of_messages; count = count_of_messages; stream = stream_of_messages; soa = soa_of_messages }
