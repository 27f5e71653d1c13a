-- When data of any type are the same, and what they feed a hasher.
use Rattle.std.specs.Prelude.{ℕ, suc, List, [], ◌∷◌, ◌++◌, length, map, Bool, true, false, nat_eq, ◌==◌, ◌&&◌, if◌then◌else◌}
use Rattle.std.proofs.Math.Bool.{beq}
use Rattle.std.specs.Hash.{le_bytes}
use Rattle.std.specs.Ordering.{eq_by_cmp, on}
use Rattle.dns_wire.specs.Octets.{Octets, Labels}
use Rattle.dns_name.specs.Hashing.{name_writes}
use Rattle.dns_name.specs.Order.{key, key_cmp}
use Rattle.dns_record.specs.FieldOrder.{fields_eq, fields_writes}
use Rattle.dns_record.specs.Fields.{FieldOf}
use Rattle.dns_record.specs.Kinds.{Kind}
use Rattle.dns_record.specs.Formats.{rdata_formats}
use Rattle.dns_rdata.specs.Data.{data_fields, type_number}
use Rattle.dns_rdata.specs.declared.record_data.RecordData.{RecordData}
use Rattle.dns_rdata.specs.declared.record_data.RecordData.TheVariants.{Unknown}

-- Data under the number of their type: their fields, and whether they are read as the type says, or are octets of any type.
pub record Content (N : Type 0) : Type 0 where
  pub rtype : ℕ
  pub known : Bool
  pub fields : List (FieldOf N)

-- unknown octets are not read as their type says
abbrev pub is_known : {N : Type 0} → RecordData N → Bool
is_known (Unknown rtype v) = false
is_known v = true

-- the content of data, with their names as they are
abbrev pub content_of : {N : Type 0} → RecordData N → Content N
content_of v = record { rtype = type_number v; known = is_known v; fields = data_fields v }

-- ---- equality

-- names without regard to ASCII case (RFC 1035 section 2.3.3)
abbrev pub same_name : Labels → Labels → Bool
same_name = eq_by_cmp (on key key_cmp)

-- both read as their type says or neither, of the same type, and field by field the same, names that may have pointers as given
abbrev pub same_content : {N : Type 0} → (N → N → Bool) → Content N → Content N → Bool
same_content names a b = beq a.known b.known && (nat_eq a.rtype b.rtype && fields_eq names same_name a.fields b.fields)

-- ---- hashing

-- the numbers of the types that are read as they say, in the order of the choice among them
abbrev pub choices : List ℕ
choices = map (λ ((rtype, format) : ℕ × List Kind). rtype) rdata_formats

-- how many come before the number
abbrev pub index_among : List ℕ → ℕ → ℕ
index_among [] n = 0
index_among (first ∷ others) n = if n == first then 0 else suc (index_among others n)

-- what represents the type: its place in the choice, and of unknown octets their number too
abbrev pub type_writes : {N : Type 0} → Content N → List Octets
type_writes c =
    if c.known then le_bytes 8 (index_among choices c.rtype) ∷ []
    else le_bytes 8 (length choices) ∷ le_bytes 2 c.rtype ∷ []

-- what represents the type, and the fields one after another
abbrev pub content_writes : {N : Type 0} → (N → List Octets) → Content N → List Octets
content_writes names c = type_writes c ++ fields_writes names name_writes c.fields
