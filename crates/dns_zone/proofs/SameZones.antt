-- Lists of records that are the same have the same records in a zone.
use Rattle.std.proofs.Common.{◌≡◌, ◌<◌, ℕ, Bool, true, false, cond, inl, inr, List, [], ◌∷◌, ◌++◌, length, map, get_or, filter, refl, sym, ap, ◌∙◌, subst, arith}
use Rattle.std.specs.Prelude.{◌==◌, ◌&&◌, ◌||◌, not, nat_eq, Contains}
use Rattle.std.specs.Char.{to_ascii_lowercase}
use Rattle.std.specs.List.{ends_with, starts_with}
use Rattle.std.specs.Str.{str_to_ascii_lowercase}
use Rattle.std.specs.Cmp.Lexicographic.{pointwise}
use Rattle.std.proofs.lemmas.Bool.{cases_lt}
use Rattle.std.proofs.lemmas.List.{length-map, map-append}
use Rattle.std.proofs.lemmas.List.Elements.{All-contains, All-contains_itself, All-filter, filter_passes}
use Rattle.std.proofs.lemmas.Str.Ascii.{lowercase_is}
use Rattle.dns_wire.specs.Names.{labels_wire, lowered, wire}
use Rattle.dns_record.specs.Fields.{CompressibleName, UncompressedName, CharacterString, CountedOctets, CharacterStrings, OtherOctets, Byte, Number, Field, canonical_fields, field_octets, fields_octets, lowercased_field}
use Rattle.dns_record.specs.Types.{is_lowercased}
use Rattle.dns_message.specs.Canonical.{lowercase_names}
use Rattle.dns_message.specs.Messages.{RecordValue}
use Rattle.dns_message.specs.Same.{Alike, IsLeast, Same}
use Rattle.dns_message.proofs.FirstOfRuns.{Among, among, contains}
use Rattle.dns_message.proofs.Whole.{lower_twice}
use Rattle.dns_zone.specs.Texts.{HasRecords, PrintsZone}
use Rattle.dns_zone.specs.Zone.{in_zone, is_in_zone, labels_eq, signs_zonemd}
use Rattle.dns_zone.proofs.Members.{starts_two, two_octets}
use Rattle.dns_zone.proofs.ZoneOutcomes.{same_printed}
use Rattle.dns_zone.proofs.Suffixes.{tests_same}

-- ---- the octets of canonical data, up to the case of letters

labels_low : (labels : List (List ℕ)) → str_to_ascii_lowercase (labels_wire (lowered labels)) ≡ str_to_ascii_lowercase (labels_wire labels)
labels_low [] = refl
labels_low (label ∷ labels) =
    let size : length (str_to_ascii_lowercase label) ≡ length label = length-map label to_ascii_lowercase in
    let body : str_to_ascii_lowercase (str_to_ascii_lowercase label ++ labels_wire (lowered labels)) ≡ str_to_ascii_lowercase (label ++ labels_wire labels) =
    map-append to_ascii_lowercase (str_to_ascii_lowercase label) (labels_wire (lowered labels)) ∙ (λ i. lower_twice label i ++ labels_low labels i) ∙ sym (map-append to_ascii_lowercase label (labels_wire labels)) in
    λ i. to_ascii_lowercase (size i) ∷ body i

name_low : (labels : List (List ℕ)) → str_to_ascii_lowercase (wire (lowered labels)) ≡ str_to_ascii_lowercase (wire labels)
name_low labels =
    map-append to_ascii_lowercase (labels_wire (lowered labels)) (0 ∷ []) ∙ ap (λ (l : List ℕ). l ++ 0 ∷ []) (labels_low labels) ∙ sym (map-append to_ascii_lowercase (labels_wire labels) (0 ∷ []))

field_low : (f : Field) → str_to_ascii_lowercase (field_octets (lowercased_field f)) ≡ str_to_ascii_lowercase (field_octets f)
field_low (CompressibleName labels) = name_low labels
field_low (UncompressedName labels) = name_low labels
field_low (CharacterString o) = refl
field_low (CountedOctets o) = refl
field_low (CharacterStrings o) = refl
field_low (OtherOctets o) = refl
field_low (Byte b) = refl
field_low (Number w n) = refl

fields_low : (fs : List Field) → str_to_ascii_lowercase (fields_octets (map lowercased_field fs)) ≡ str_to_ascii_lowercase (fields_octets fs)
fields_low [] = refl
fields_low (f ∷ fs) =
    map-append to_ascii_lowercase (field_octets (lowercased_field f)) (fields_octets (map lowercased_field fs)) ∙ (λ i. field_low f i ++ fields_low fs i) ∙ sym (map-append to_ascii_lowercase (field_octets f) (fields_octets fs))

canonical_low : (rtype : ℕ) (fs : List Field) → str_to_ascii_lowercase (fields_octets (canonical_fields rtype fs)) ≡ str_to_ascii_lowercase (fields_octets fs)
canonical_low rtype fs = by (is_lowercased rtype) where
  by : (b : Bool) → str_to_ascii_lowercase (fields_octets (cond b (map lowercased_field fs) fs)) ≡ str_to_ascii_lowercase (fields_octets fs)
  by true = fields_low fs
  by false = refl

-- ---- the number of ZONEMD in two octets has no letter

-- what is no letter in lowercase was the same before
low_back : (c n : ℕ) → n < 65 → to_ascii_lowercase c ≡ n → c ≡ n
low_back c n small e =
    elim (cases_lt c 65) [
      | inl low ↦ omega (arith, e, (lowercase_is c).1 low)
      | inr high ↦ elim (cases_lt 90 c) [ inl over ↦ omega (arith, e, (lowercase_is c).2 over) | inr letter ↦ omega (arith, e, (lowercase_is c).0 (high, letter)) ]
    ]

begins_low : (octets rest : List ℕ) → str_to_ascii_lowercase octets ≡ 0 ∷ 63 ∷ rest → (more : List ℕ) × (octets ≡ 0 ∷ 63 ∷ more)
begins_low [] rest e = absurd cc
begins_low (a ∷ []) rest e = absurd cc
begins_low (a ∷ (b ∷ more)) rest e =
    let first : a ≡ 0 = low_back a 0 (omega arith) (ap (λ (l : List ℕ). get_or l 0 0) e) in
    let second : b ≡ 63 = low_back b 63 (omega arith) (ap (λ (l : List ℕ). get_or l 1 0) e) in
    (more, λ i. first i ∷ second i ∷ more)

starts_low : (octets : List ℕ) → starts_with nat_eq (str_to_ascii_lowercase octets) (0 ∷ 63 ∷ []) ≡ starts_with nat_eq octets (0 ∷ 63 ∷ [])
starts_low octets =
    tests_same (starts_with nat_eq (str_to_ascii_lowercase octets) (0 ∷ 63 ∷ [])) (starts_with nat_eq octets (0 ∷ 63 ∷ []))
    (λ e. let low = two_octets (str_to_ascii_lowercase octets) e in let begins = begins_low octets low.0 low.1 in starts_two octets begins.0 begins.1)
    (λ e. let begins = two_octets octets e in starts_two (str_to_ascii_lowercase octets) (str_to_ascii_lowercase begins.0) (ap str_to_ascii_lowercase begins.1))

-- ---- alike records

signs_alike : (r s : RecordValue) → Alike r s → signs_zonemd r.content ≡ signs_zonemd s.content
signs_alike r s a =
    let low : str_to_ascii_lowercase (fields_octets r.content) ≡ str_to_ascii_lowercase (fields_octets s.content) =
    sym (canonical_low r.rtype r.content) ∙ ap str_to_ascii_lowercase a.octets ∙ canonical_low s.rtype s.content in
    sym (starts_low (fields_octets r.content)) ∙ ap (λ (l : List ℕ). starts_with nat_eq l (0 ∷ 63 ∷ [])) low ∙ starts_low (fields_octets s.content)

-- what decides on a record of an owner in lowercase
abbrev tested : List (List ℕ) → List (List ℕ) → ℕ → ℕ → Bool → Bool
tested apex owner class rtype signs =
    not (rtype == 41) && (class == 1 && ends_with (pointwise nat_eq) owner (lowered apex) && not (labels_eq owner (lowered apex) && (rtype == 63 || (rtype == 46 && signs))))

-- alike records are in the same zones
in_zone_alike : (apex : List (List ℕ)) (r s : RecordValue) → Alike r s → is_in_zone apex r ≡ is_in_zone apex s
in_zone_alike apex r s a = λ i. tested apex (a.owner i) (a.class i) (a.rtype i) (signs_alike r s a i)

-- records that are the same in lowercase are alike
alike_lowercased : (r s : RecordValue) → lowercase_names r ≡ lowercase_names s → Alike r s
alike_lowercased r s e = record {
  owner = ap (λ (x : RecordValue). x.owner) e;
  class = ap (λ (x : RecordValue). x.class) e;
  rtype = ap (λ (x : RecordValue). x.rtype) e;
  octets = ap (λ (x : RecordValue). fields_octets x.content) e;
}

-- ---- elements that are kept

kept : {X : Type 0} (p : X → Bool) (xs : List X) (x : X) → Among x xs → p x ≡ true → Among x (filter p xs)
kept p [] x m is = absurd m
kept p (y ∷ ys) x (inl e) is = subst (λ (b : Bool). Among x (cond b (y ∷ filter p ys) (filter p ys))) (sym (ap p (sym e) ∙ is)) (inl e)
kept p (y ∷ ys) x (inr deep) is = by (p y) (kept p ys x deep is) where
  by : (b : Bool) → Among x (filter p ys) → Among x (cond b (y ∷ filter p ys) (filter p ys))
  by true m = inr m
  by false m = m

module _ (apex : List (List ℕ)) where
  into_zone : (rs : List RecordValue) (r : RecordValue) → Contains rs r → is_in_zone apex r ≡ true → Contains (in_zone apex rs) r
  into_zone rs r occurs is = contains (in_zone apex rs) r (kept (is_in_zone apex) rs r (among rs r occurs) is)

  from_zone : (rs : List RecordValue) (r : RecordValue) → Contains (in_zone apex rs) r → Contains rs r × (is_in_zone apex r ≡ true)
  from_zone rs r occurs = (
    All-contains (Contains rs) (in_zone apex rs) r (All-filter (is_in_zone apex) (Contains rs) rs (All-contains_itself rs)) occurs,
    All-contains (λ (x : RecordValue). is_in_zone apex x ≡ true) (in_zone apex rs) r (filter_passes (is_in_zone apex) rs) occurs,
  )

  -- ---- records with the least times to live

  least_of_all : (rs : List RecordValue) (x : RecordValue) → IsLeast (in_zone apex rs) x → IsLeast rs x
  least_of_all rs x h =
      let there = from_zone rs h.found h.occurs in
      record {
        found = h.found;
        occurs = there.0;
        not_opt = h.not_opt;
        lowercased = h.lowercased;
        least = λ other occurs alike. h.least other (into_zone rs other occurs (in_zone_alike apex other h.found alike ∙ there.1)) alike;
      }

  least_in_zone : (rs : List RecordValue) (x : RecordValue) (h : IsLeast rs x) → is_in_zone apex h.found ≡ true → IsLeast (in_zone apex rs) x
  least_in_zone rs x h is = record {
    found = h.found;
    occurs = into_zone rs h.found h.occurs is;
    not_opt = h.not_opt;
    lowercased = h.lowercased;
    least = λ other occurs alike. h.least other (from_zone rs other occurs).0 alike;
  }

  least_there : (rs ss : List RecordValue) (x : RecordValue) → (IsLeast rs x → IsLeast ss x) → IsLeast (in_zone apex rs) x → IsLeast (in_zone apex ss) x
  least_there rs ss x to h =
      let other = to (least_of_all rs x h) in
      let alike = alike_lowercased other.found h.found (other.lowercased ∙ sym h.lowercased) in
      least_in_zone ss x other (in_zone_alike apex other.found h.found alike ∙ (from_zone rs h.found h.occurs).1)

  pub zones_same : (rs ss : List RecordValue) → Same rs ss → Same (in_zone apex rs) (in_zone apex ss)
  zones_same rs ss same = λ x. (least_there rs ss x (same x).0, least_there ss rs x (same x).1)

pub records_printed : (apex : List (List ℕ)) (t u printed other : List ℕ) (rs ss : List RecordValue) → HasRecords t rs → HasRecords u ss → Same rs ss → PrintsZone apex t printed → PrintsZone apex u other → printed ≡ other
records_printed apex t u printed other rs ss first second same = same_printed apex t u printed other rs ss first second (zones_same apex rs ss same)
