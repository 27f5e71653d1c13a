use Rattle.std.proofs.Common.{◌≡◌, List, filter, map, take}
use Rattle.dns_message.specs.Canonical.{is_not_opt}
use Rattle.dns_message.specs.Messages.{RecordValue}
use Rattle.dns_message.specs.Order.{sort_key}
use Rattle.dns_message.specs.Several.{AreValidBy, all_records_by}
use Rattle.dns_record.specs.FurtherFormats.{data_by}
use Rattle.dns_zone.specs.Zone.{belongs, has_soa}
use Rattle.dns_zone.proofs.messages.zone_records.Given as goal

-- the messages so far are valid, and what they hold of the zone has been kept
abbrev pub invariant-loop-number : goal.invariant-loop-number
invariant-loop-number l = record {
  records : List (List RecordValue);
  valid : AreValidBy (data_by l.formats) (take l.number (map (λ m. m.now) l.messages)) records;
  members : l.found.forms ≡ map sort_key (filter (belongs l.apex) (filter is_not_opt (all_records_by (data_by l.formats) (take l.number (map (λ m. m.now) l.messages)))));
  soa : l.found.has_soa ≡ has_soa l.apex (filter is_not_opt (all_records_by (data_by l.formats) (take l.number (map (λ m. m.now) l.messages))));
}
