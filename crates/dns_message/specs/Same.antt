-- Which records two lists have in common. Records that are alike count once, with the least time to live (RFC 2181 section 5.2), and
-- the case of letters counts only where it does in canonical form.
use Rattle.std.specs.Prelude.{◌≡◌, ◌≤◌, ◌↔◌, true, List, Contains, map, filter}
use Rattle.dns_wire.specs.Names.{lowered}
use Rattle.dns_record.specs.Fields.{fields_octets, canonical_fields}
use Rattle.dns_message.specs.Canonical.{lowercase_names, is_not_opt}
use Rattle.dns_message.specs.Messages.{RecordValue}
use Rattle.dns_message.specs.Order.{collapsed}

-- the same owner in lowercase, class, type and canonical data; the times to live may differ
pub record Alike (r s : RecordValue) : Type 0 where
  pub owner : lowered r.owner ≡ lowered s.owner
  pub class : r.class ≡ s.class
  pub rtype : r.rtype ≡ s.rtype
  pub octets : fields_octets (canonical_fields r.rtype r.content) ≡ fields_octets (canonical_fields s.rtype s.content)

-- x is a record of the list, lowercased: one of another type than OPT, to which no alike record of the list has a smaller time to live
pub record IsLeast (rs : List RecordValue) (x : RecordValue) : Type 0 where
  pub found : RecordValue
  pub occurs : Contains rs found
  pub not_opt : is_not_opt found ≡ true
  pub lowercased : lowercase_names found ≡ x
  pub least : (other : RecordValue) → Contains rs other → Alike other found → found.ttl ≤ other.ttl

-- each record is so in both lists, or in neither
abbrev pub Same : List RecordValue → List RecordValue → Type 0
Same rs ss = (x : RecordValue) → IsLeast rs x ↔ IsLeast ss x

-- these records as a list, in order
abbrev pub least : List RecordValue → List RecordValue
least rs = map lowercase_names (collapsed (filter is_not_opt rs))
