-- The tests of membership, of what records are compared by.
use Rattle.std.proofs.Common.{◌≡◌, ◌==◌, ◌&&◌, ◌||◌, ℕ, Bool, true, false, cond, List, [], ◌∷◌, ◌++◌, filter, map, reverse, refl, sym, ap, ap₂, ◌∙◌}
use Rattle.std.specs.Prelude.{◌↔◌, nat_eq, not, Some}
use Rattle.std.specs.Cmp.Lexicographic.{pointwise}
use Rattle.std.specs.Int.{w16, to_be_bytes}
use Rattle.std.specs.List.{AllByRecursion, ends_with, starts_with}
use Rattle.std.proofs.lemmas.Bool.{eq-eqb, eqb-true}
use Rattle.std.proofs.lemmas.List.{reverse-reverse, take_at}
use Rattle.std.proofs.lemmas.List.Elements.{All-filter, All-from_recursion, recursion_from_All}
use Rattle.dns_wire.specs.Names.{lowered}
use Rattle.dns_wire.specs.Pointers.{name_at}
use Rattle.dns_record.specs.Data.{data_in}
use Rattle.dns_record.specs.Fields.{Field, canonical_fields, fields_octets, lowercased_field}
use Rattle.dns_record.specs.Fields.FieldOf.{Number}
use Rattle.dns_record.specs.FurtherFormats.{data_by}
use Rattle.dns_record.specs.InPlace.{DataAt}
use Rattle.dns_record.specs.declared.formats.Formats.{Formats}
use Rattle.dns_record.specs.declared.formats.Formats.TheVariants.{Usual, Listed}
use Rattle.dns_record.proofs.Worded.{data_is}
use Rattle.dns_name.specs.Order.{key}
use Rattle.dns_message.specs.Canonical.{is_not_opt}
use Rattle.dns_message.specs.Messages.{RecordValue, ValidBy}
use Rattle.dns_message.specs.Order.{sort_key}
use Rattle.dns_message.proofs.EachRead.{IsReadBy, each_read}
use Rattle.dns_message.proofs.Whole.{lowered_twice}
use Rattle.dns_zone.specs.Zone.{IsAtOrBelow, belongs, belongs_form, has_soa, has_soa_form, is_apex, is_at_or_below, is_digest_form, is_digest_record, is_of_zone_form, is_soa_form, is_soa_of, labels_eq, signs_zonemd}
use Rattle.dns_zone.proofs.Members.{both, both_true}
use Rattle.dns_zone.proofs.Suffixes.{below_tested}

-- ---- the type that a signature covers

-- the data of a signature begin with a number, in two octets
abbrev pub CoversType : RecordValue → Type 0
CoversType r = r.rtype ≡ 46 → (n : ℕ) × (rest : List Field) × (r.content ≡ Number w16 n ∷ rest)

first_number : (contents : List ℕ) (at : ℕ) (content : List Field) → DataAt 46 contents at content → (n : ℕ) × (rest : List Field) × (content ≡ Number w16 n ∷ rest)
first_number contents at content (Number v n, next, others, (v-is, here), is, later) = (n, others, is ∙ ap (λ w. Number w n ∷ others) v-is)
first_number contents at content (field, next, others, here, is, later) = absurd here

usual_signature : (formats : Formats) (contents : List ℕ) (at : ℕ) (content : List Field) → data_by formats 46 contents at ≡ Some content → data_in name_at 46 contents at ≡ Some content
usual_signature Usual contents at content e = e
usual_signature Listed contents at content e = e

covers_type : (formats : Formats) (r : RecordValue) → IsReadBy (data_by formats) r → CoversType r
covers_type formats r (contents, at, e) is =
    let read = ap (λ (n : ℕ). data_by formats n contents at) (sym is) ∙ e in
    first_number contents at r.content (data_is 46 contents at r.content (usual_signature formats contents at r.content read))

cover_types : (formats : Formats) (rs : List RecordValue) → AllByRecursion (IsReadBy (data_by formats)) rs → AllByRecursion CoversType rs
cover_types formats [] are = tt
cover_types formats (r ∷ rs) (is, are) = (covers_type formats r is, cover_types formats rs are)

-- the records of a message that are not of type OPT
pub read_cover_types : (formats : Formats) (m : List ℕ) (rs : List RecordValue) → ValidBy (data_by formats) m rs → AllByRecursion CoversType (filter is_not_opt rs)
read_cover_types formats m rs valid =
    let all = All-from_recursion CoversType rs (cover_types formats rs (recursion_from_All (IsReadBy (data_by formats)) rs (each_read (data_by formats) m rs valid))) in
    recursion_from_All CoversType (filter is_not_opt rs) (All-filter is_not_opt CoversType rs all)

-- ---- one record

owner_same : (owner : List (List ℕ)) → lowered (reverse (key owner)) ≡ lowered owner
owner_same owner = ap lowered (reverse-reverse (lowered owner)) ∙ lowered_twice owner

below_same : (apex owner : List (List ℕ)) → is_at_or_below apex (reverse (key owner)) ≡ is_at_or_below apex owner
below_same apex owner = ap (λ (l : List (List ℕ)). ends_with (pointwise nat_eq) l (lowered apex)) (owner_same owner)

apex_same : (apex owner : List (List ℕ)) → is_apex apex (reverse (key owner)) ≡ is_apex apex owner
apex_same apex owner = ap (λ (l : List (List ℕ)). labels_eq l (lowered apex)) (owner_same owner)

begins_same : (n : ℕ) (rest others : List ℕ) → starts_with nat_eq (to_be_bytes w16 n ++ rest) (0 ∷ 63 ∷ []) ≡ starts_with nat_eq (to_be_bytes w16 n ++ others) (0 ∷ 63 ∷ [])
begins_same n rest others = ap (pointwise nat_eq (0 ∷ 63 ∷ [])) (take_at (to_be_bytes w16 n) rest 2 refl ∙ sym (take_at (to_be_bytes w16 n) others 2 refl))

signs_same : (r : RecordValue) → CoversType r → r.rtype ≡ 46 → starts_with nat_eq (sort_key r).octets (0 ∷ 63 ∷ []) ≡ signs_zonemd r.content
signs_same r covers is =
    let found = covers is in
    let canonical : canonical_fields r.rtype r.content ≡ Number w16 found.0 ∷ map lowercased_field found.1 = ap₂ (λ (n : ℕ) (l : List Field). canonical_fields n l) is found.2 in
    ap (λ (l : List Field). starts_with nat_eq (fields_octets l) (0 ∷ 63 ∷ [])) canonical
    ∙ begins_same found.0 (fields_octets (map lowercased_field found.1)) (fields_octets found.1)
    ∙ ap (λ (l : List Field). signs_zonemd l) (sym found.2)

digest_same : (r : RecordValue) → CoversType r → is_digest_form (sort_key r) ≡ is_digest_record r
digest_same r covers = by (r.rtype == 46) refl where
  by : (b : Bool) → (r.rtype == 46) ≡ b → (r.rtype == 63 || ((r.rtype == 46) && starts_with nat_eq (sort_key r).octets (0 ∷ 63 ∷ []))) ≡ (r.rtype == 63 || ((r.rtype == 46) && signs_zonemd r.content))
  by true is = ap (λ (b : Bool). r.rtype == 63 || ((r.rtype == 46) && b)) (signs_same r covers (eqb-true r.rtype 46 is))
  by false is = rw is refl

pub belongs_same : (apex : List (List ℕ)) (r : RecordValue) → CoversType r → belongs_form apex (sort_key r) ≡ belongs apex r
belongs_same apex r covers = λ i. r.class == 1 && below_same apex r.owner i && not (apex_same apex r.owner i && digest_same r covers i)

-- in words
pub of_zone_words : (apex : List (List ℕ)) (r : RecordValue) → (is_of_zone_form apex (sort_key r) ≡ true) ↔ ((r.class ≡ 1) × IsAtOrBelow apex r.owner)
of_zone_words apex r = (
  λ e. (let p = both (r.class == 1) (is_at_or_below apex (reverse (key r.owner))) e in (eqb-true r.class 1 p.0, (below_tested apex r.owner).0 (sym (below_same apex r.owner) ∙ p.1))),
  λ h. both_true (r.class == 1) (is_at_or_below apex (reverse (key r.owner))) (eq-eqb r.class 1 h.0) (below_same apex r.owner ∙ (below_tested apex r.owner).1 h.1),
)

soa_same : (apex : List (List ℕ)) (r : RecordValue) → is_soa_form apex (sort_key r) ≡ is_soa_of apex r
soa_same apex r = ap (λ (b : Bool). r.rtype == 6 && r.class == 1 && b) (apex_same apex r.owner)

-- ---- some records

pub members_same : (apex : List (List ℕ)) (rs : List RecordValue) → AllByRecursion CoversType rs → filter (belongs_form apex) (map sort_key rs) ≡ map sort_key (filter (belongs apex) rs)
members_same apex [] covers = refl
members_same apex (r ∷ rs) (first, later) =
    (λ i. cond (belongs_same apex r first i) (sort_key r ∷ members_same apex rs later i) (members_same apex rs later i)) ∙ into (belongs apex r) where
      into : (b : Bool) → cond b (sort_key r ∷ map sort_key (filter (belongs apex) rs)) (map sort_key (filter (belongs apex) rs)) ≡ map sort_key (cond b (r ∷ filter (belongs apex) rs) (filter (belongs apex) rs))
      into true = refl
      into false = refl

pub soa_found : (apex : List (List ℕ)) (rs : List RecordValue) → has_soa_form apex (map sort_key rs) ≡ has_soa apex rs
soa_found apex [] = refl
soa_found apex (r ∷ rs) = λ i. soa_same apex r i || soa_found apex rs i
