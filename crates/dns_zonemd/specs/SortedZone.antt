-- What a zone's digest is taken of, for the canonical forms of records in canonical order.
use Rattle.std.specs.Prelude.{◌≡◌, ◌↔◌, ◌≢◌, true, List, [], ◌∷◌, filter, map, Contains}
use Rattle.std.specs.List.{concat, dedup}
use Rattle.std.specs.Ordering.{eq_by_cmp}
use Rattle.std.specs.declared.cmp.Ordering.TheVariants.{Greater}
use Rattle.dns_wire.specs.Octets.{Octets, Labels}
use Rattle.dns_record.specs.FurtherFormats.{data_by}
use Rattle.dns_record.specs.declared.formats.Formats.{Formats}
use Rattle.dns_message.specs.FormsRead.{forms_of}
use Rattle.dns_message.specs.Several.{all_records_by}
use Rattle.dns_message.specs.Order.{SortKey, alike_cmp, octets_of_key, sort_key_cmp}
use Rattle.dns_zone.specs.Zone.{belongs_form, is_of_zone_form, is_soa_form, is_zonemd_form}

-- the first of records that are alike, which has the least TTL
abbrev pub firsts : List SortKey → List SortKey
firsts ks = dedup (eq_by_cmp alike_cmp) ks

-- the members of the zone of an apex
abbrev pub sorted_members : Labels → List SortKey → List SortKey
sorted_members apex ks = firsts (filter (belongs_form apex) ks)

-- what the digest is taken of: the canonical octets of the members, one after another (RFC 8976 section 3.3.1)
abbrev pub sorted_stream : Labels → List SortKey → Octets
sorted_stream apex ks = concat (map octets_of_key (sorted_members apex ks))

-- the SOA records of the apex
abbrev pub sorted_soas : Labels → List SortKey → List SortKey
sorted_soas apex ks = firsts (filter (is_soa_form apex) ks)

-- the ZONEMD records of the apex
abbrev pub sorted_zonemds : Labels → List SortKey → List SortKey
sorted_zonemds apex ks = firsts (filter (is_zonemd_form apex) ks)

-- records come in canonical order: none comes before the one before it
abbrev pub InOrder : List SortKey → Type 0
InOrder [] = Unit {0}
InOrder (k ∷ []) = Unit {0}
InOrder (j ∷ k ∷ ks) = (sort_key_cmp j k ≢ Greater) × InOrder (k ∷ ks)

-- Of the records of a zone these and those of messages are the same, in whatever order and however often each comes. Other records may be among
-- them or not. A message that is not valid counts as one without records.
abbrev pub HaveZoneOf : Labels → Formats → List Octets → List SortKey → Type 0
HaveZoneOf apex formats messages ks = (k : SortKey) → is_of_zone_form apex k ≡ true → Contains ks k ↔ Contains (forms_of (all_records_by (data_by formats) messages)) k
