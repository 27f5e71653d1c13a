-- Which records are the input of a zone's digest (RFC 8976 section 3.3.1), and the digest.
use Rattle.std.specs.Prelude.{◌≡◌, ◌≢◌, ℕ, ◌==◌, ◌&&◌, ◌||◌, not, Bool, true, List, [], ◌∷◌, ◌++◌, codes, Contains, decimal, filter, length, nat_eq, reverse}
use Rattle.std.specs.Cmp.Lexicographic.{pointwise}
use Rattle.std.specs.List.{concat, ends_with, list_any, starts_with}
use Rattle.sha2.specs.Sha512.{sha384}
use Rattle.dns_wire.specs.Octets.{Octets, Labels}
use Rattle.dns_text.specs.Hexadecimal.{line}
use Rattle.dns_wire.specs.Names.{lowered}
use Rattle.dns_record.specs.Fields.{Field, fields_octets}
use Rattle.dns_message.specs.Canonical.{is_not_opt}
use Rattle.dns_message.specs.Messages.{RecordValue}
use Rattle.dns_message.specs.Order.{SortKey, canonical_list}

-- ---- the numbers of types and of a class

abbrev pub soa_number : ℕ
soa_number = 6

abbrev pub rrsig_number : ℕ
rrsig_number = 46

abbrev pub zonemd_number : ℕ
zonemd_number = 63

-- the class IN
abbrev pub internet_number : ℕ
internet_number = 1

-- ---- owners

-- the same labels
abbrev pub labels_eq : Labels → Labels → Bool
labels_eq = pointwise (pointwise nat_eq)

-- whether the name is the apex, ignoring ASCII case
abbrev pub is_apex : Labels → Labels → Bool
is_apex apex owner = labels_eq (lowered owner) (lowered apex)

-- whether the name is the apex or below it: its last labels are those of the apex, ignoring ASCII case
abbrev pub is_at_or_below : Labels → Labels → Bool
is_at_or_below apex owner = ends_with (pointwise nat_eq) (lowered owner) (lowered apex)

-- ---- members

-- whether data begin with the number of ZONEMD in two octets, as those of a signature over ZONEMD records do (RFC 4034 section 3.1)
abbrev pub signs_zonemd : List Field → Bool
signs_zonemd content = starts_with nat_eq (fields_octets content) (0 ∷ zonemd_number ∷ [])

-- whether the record is a ZONEMD record, or a signature over such records
abbrev pub is_digest_record : RecordValue → Bool
is_digest_record r = r.rtype == zonemd_number || (r.rtype == rrsig_number && signs_zonemd r.content)

-- whether a record of another type than OPT is in the zone: of class IN, at the apex or below it, and not one of the zone's own digests or
-- of the signatures over these, which are at the apex
abbrev pub belongs : Labels → RecordValue → Bool
belongs apex r = r.class == internet_number && is_at_or_below apex r.owner && not (is_apex apex r.owner && is_digest_record r)

-- whether a record is in the zone of an apex; `members_in_words` says it in other words
abbrev pub is_in_zone : Labels → RecordValue → Bool
is_in_zone apex r = is_not_opt r && belongs apex r

-- the records in the zone
abbrev pub in_zone : Labels → List RecordValue → List RecordValue
in_zone apex rs = filter (is_in_zone apex) rs

-- ---- the SOA record of the apex

abbrev pub is_soa_of : Labels → RecordValue → Bool
is_soa_of apex r = r.rtype == soa_number && r.class == internet_number && is_apex apex r.owner

-- whether one of the records is the apex's SOA
abbrev pub has_soa : Labels → List RecordValue → Bool
has_soa apex rs = list_any (is_soa_of apex) rs

-- ---- the same of what records are compared by

-- whether it is that of a ZONEMD record, or of a signature over such records
abbrev pub is_digest_form : SortKey → Bool
is_digest_form k = k.rtype == zonemd_number || (k.rtype == rrsig_number && starts_with nat_eq k.octets (0 ∷ zonemd_number ∷ []))

-- whether the record is of the zone, one of the zone's own digests or not: of class IN, and at the apex or below it
abbrev pub is_of_zone_form : Labels → SortKey → Bool
is_of_zone_form apex k = k.class == internet_number && is_at_or_below apex (reverse k.owner)

-- whether the record is in the zone
abbrev pub belongs_form : Labels → SortKey → Bool
belongs_form apex k = is_of_zone_form apex k && not (is_apex apex (reverse k.owner) && is_digest_form k)

-- whether it is the SOA record of the apex
abbrev pub is_soa_form : Labels → SortKey → Bool
is_soa_form apex k = k.rtype == soa_number && k.class == internet_number && is_apex apex (reverse k.owner)

-- whether it is a ZONEMD record of the apex
abbrev pub is_zonemd_form : Labels → SortKey → Bool
is_zonemd_form apex k = k.rtype == zonemd_number && k.class == internet_number && is_apex apex (reverse k.owner)

-- whether one of the records is the apex's SOA
abbrev pub has_soa_form : Labels → List SortKey → Bool
has_soa_form apex ks = list_any (is_soa_form apex) ks

-- ---- the digest

-- the canonical octets of each member, in order, alike ones once
abbrev pub members : Labels → List RecordValue → List Octets
members apex rs = canonical_list (in_zone apex rs)

-- what the digest is taken of: the members one after another (RFC 8976 section 3.3.1.2)
abbrev pub stream : Labels → List RecordValue → Octets
stream apex rs = concat (members apex rs)

-- the text for some members: how many they are, how many octets they have, and their digest by SHA-384
abbrev pub zone_output : List Octets → Octets
zone_output lists =
    codes "records " ++ (decimal (length lists) ++ (codes " octets " ++ (decimal (length (concat lists)) ++ (10 ∷ codes "digest " ++ line (sha384 (concat lists))))))

-- the text for the zone of an apex
abbrev pub zone_text : Labels → List RecordValue → Octets
zone_text apex rs = zone_output (members apex rs)

-- ---- in words

-- a name is another or below it, ignoring ASCII case: its last labels are those of the other
abbrev pub IsAtOrBelow : Labels → Labels → Type 0
IsAtOrBelow apex owner = (before : Labels) × (lowered owner ≡ before ++ lowered apex)

-- a signature over ZONEMD records: the first two octets of the data are the number of the type that it covers (RFC 4034 section 3.1)
abbrev pub CoversZonemd : RecordValue → Type 0
CoversZonemd r = (r.rtype ≡ rrsig_number) × ((rest : Octets) × (fields_octets r.content ≡ 0 ∷ zonemd_number ∷ rest))

-- The record is in the zone of the apex: of class IN, of another type than OPT, and at the apex or below it. At the apex a ZONEMD record
-- and a signature over one are left out (RFC 8976 section 3.3.1.1).
pub record IsInZone (apex : Labels) (r : RecordValue) : Type 0 where
  pub below : IsAtOrBelow apex r.owner
  pub class : r.class ≡ internet_number
  pub not_opt : is_not_opt r ≡ true
  pub no_digest : lowered r.owner ≡ lowered apex → r.rtype ≢ zonemd_number
  pub no_signature : lowered r.owner ≡ lowered apex → ¬ CoversZonemd r

-- one of the records is the SOA record of the apex (RFC 1035 section 3.3.13)
pub record HasSoa (apex : Labels) (rs : List RecordValue) : Type 0 where
  pub soa : RecordValue
  pub occurs : Contains rs soa
  pub owner : lowered soa.owner ≡ lowered apex
  pub class : soa.class ≡ internet_number
  pub rtype : soa.rtype ≡ soa_number
