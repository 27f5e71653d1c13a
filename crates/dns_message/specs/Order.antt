-- The order of records, and the canonical list (RFC 4034 section 6). RFC 4034 leaves unspecified
-- that class, type and TTL are compared as numbers, and where they come in the order.
use Rattle.std.specs.Prelude.{◌≡◌, ℕ, Bool, not, if◌then◌else◌, List, [], ◌∷◌, map, reverse, filter}
use Rattle.std.specs.declared.cmp.Ordering.{Ordering}
use Rattle.std.specs.declared.cmp.Ordering.TheVariants.{Less}
use Rattle.std.specs.List.{dedup}
use Rattle.std.specs.Ordering.{nat_cmp, on, then_cmp, eq_by_cmp, is_gt}
use Rattle.std.specs.Cmp.Lexicographic.{slice_cmp}
use Rattle.dns_wire.specs.Octets.{Octets, Labels}
use Rattle.dns_wire.specs.Names.{wire}
use Rattle.dns_name.specs.Order.{key, key_cmp}
use Rattle.dns_record.specs.Fields.{fields_octets, canonical_fields}
use Rattle.dns_record.specs.Records.{octets_of_parts}
use Rattle.dns_message.specs.Messages.{RecordValue}
use Rattle.dns_message.specs.Canonical.{canonical_wire, is_not_opt}

-- what records are compared by, in this order: the owner's lowered labels from the root on, the class, the type, the
-- canonical octets of the data, and the time to live
pub record SortKey : Type 0 where
  pub owner : Labels
  pub class : ℕ
  pub rtype : ℕ
  pub octets : Octets
  pub ttl : ℕ

abbrev pub sort_key : RecordValue → SortKey
sort_key r = record {
  owner = key r.owner;
  class = r.class;
  rtype = r.rtype;
  octets = fields_octets (canonical_fields r.rtype r.content);
  ttl = r.ttl;
}

-- by class, type and data, by the first that differs; octets lexicographically, a proper prefix first
abbrev pub class_and_data_cmp : SortKey → SortKey → Ordering
class_and_data_cmp = then_cmp (on (λ k. k.class) nat_cmp) (then_cmp (on (λ k. k.rtype) nat_cmp) (on (λ k. k.octets) (slice_cmp nat_cmp)))

-- by owner, class, type and data, by the first that differs
abbrev pub alike_cmp : SortKey → SortKey → Ordering
alike_cmp = then_cmp (on (λ k. k.owner) key_cmp) class_and_data_cmp

-- by the time to live
abbrev pub ttl_cmp : SortKey → SortKey → Ordering
ttl_cmp = on (λ k. k.ttl) nat_cmp

-- by all, the time to live last
abbrev pub sort_key_cmp : SortKey → SortKey → Ordering
sort_key_cmp = then_cmp alike_cmp ttl_cmp

-- the order of two records
abbrev pub record_cmp : RecordValue → RecordValue → Ordering
record_cmp r s = sort_key_cmp (sort_key r) (sort_key s)

-- the first record comes before the second
abbrev pub Before : RecordValue → RecordValue → Type 0
Before r s = record_cmp r s ≡ Less

-- the canonical octets are those of what records are compared by
abbrev pub octets_of_key : SortKey → Octets
octets_of_key k = octets_of_parts (wire (reverse k.owner)) k.rtype k.class k.ttl k.octets

-- ---- the list

-- the first record does not come after the second
abbrev pub precedes : RecordValue → RecordValue → Bool
precedes r s = not (is_gt (record_cmp r s))

-- puts a record before the first that it precedes
unfoldable pub inserted : RecordValue → List RecordValue → List RecordValue
inserted r [] = r ∷ []
inserted r (s ∷ rest) = if precedes r s then r ∷ s ∷ rest else s ∷ inserted r rest

-- the records in order
unfoldable pub in_order : List RecordValue → List RecordValue
in_order [] = []
in_order (r ∷ rest) = inserted r (in_order rest)

-- the records are the same except for the time to live and the case of letters where it does not count
abbrev pub are_alike : RecordValue → RecordValue → Bool
are_alike r s = eq_by_cmp alike_cmp (sort_key r) (sort_key s)

-- the records in order, of those that are alike the first, which has the least time to live
abbrev pub collapsed : List RecordValue → List RecordValue
collapsed rs = dedup are_alike (in_order rs)

-- the canonical list of some records: the canonical octets of those other than OPT, in order, alike ones once
abbrev pub canonical_list : List RecordValue → List Octets
canonical_list rs = map canonical_wire (collapsed (filter is_not_opt rs))
