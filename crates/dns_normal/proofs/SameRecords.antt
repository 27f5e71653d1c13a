-- Lists that have the same records: a list and its records with the least TTLs, and lists that are one when lowercased.
use Rattle.std.proofs.Common.{◌≡◌, inl, inr, List, [], ◌∷◌, map, refl, sym, ap, subst, ◌∙◌, arith}
use Rattle.std.specs.List.{All}
use Rattle.dns_record.specs.Fields.{fields_octets}
use Rattle.dns_message.specs.Canonical.{lowercase_names, is_not_opt}
use Rattle.dns_message.specs.Messages.{RecordValue}
use Rattle.dns_message.specs.Same.{Alike, IsLeast, Same, least}
use Rattle.dns_message.specs.WellFormed.{WellFormed}
use Rattle.dns_message.proofs.Collapsing.{least_members}
use Rattle.dns_message.proofs.FirstOfRuns.{Among, among, contains}
use Rattle.dns_message.proofs.Whole.{lowercase_twice}

-- records are alike by what they are when lowercased
alike_by : (r s other also : RecordValue) → lowercase_names r ≡ lowercase_names other → lowercase_names s ≡ lowercase_names also → Alike r s → Alike other also
alike_by r s other also e d a = record {
  owner = sym (ap (λ (x : RecordValue). x.owner) e) ∙ a.owner ∙ ap (λ (x : RecordValue). x.owner) d;
  class = sym (ap (λ (x : RecordValue). x.class) e) ∙ a.class ∙ ap (λ (x : RecordValue). x.class) d;
  rtype = sym (ap (λ (x : RecordValue). x.rtype) e) ∙ a.rtype ∙ ap (λ (x : RecordValue). x.rtype) d;
  octets = sym (ap (λ (x : RecordValue). fields_octets x.content) e) ∙ a.octets ∙ ap (λ (x : RecordValue). fields_octets x.content) d;
}

-- ---- a list and its records with the least TTLs

-- a record that is one when lowercased is so when lowercased twice
once : (r x : RecordValue) → lowercase_names r ≡ x → lowercase_names x ≡ lowercase_names r
once r x e = ap lowercase_names (sym e) ∙ lowercase_twice r

pub same_least : (rs : List RecordValue) → All WellFormed rs → Same rs (least rs)
same_least rs are x = (
  λ h. record {
    found = x;
    occurs = (least_members rs are x).1 h;
    not_opt = ap is_not_opt (sym h.lowercased) ∙ h.not_opt;
    lowercased = once h.found x h.lowercased ∙ h.lowercased;
    least = λ other occurs alike.
        let o = (least_members rs are other).0 occurs in
        omega (
          arith,
          h.least o.found o.occurs (alike_by other x o.found h.found (once o.found other o.lowercased) (once h.found x h.lowercased) alike),
          ap (λ (r : RecordValue). r.ttl) o.lowercased,
          ap (λ (r : RecordValue). r.ttl) h.lowercased,
        );
  },
  λ h.
      let o = (least_members rs are h.found).0 h.occurs in
      let same : h.found ≡ x = sym o.lowercased ∙ sym (once o.found h.found o.lowercased) ∙ h.lowercased in
      subst (IsLeast rs) same o,
)

-- ---- lists that are one when lowercased

-- each record of the one is in the other, except for the case of letters
moved : (rs ss : List RecordValue) → map lowercase_names rs ≡ map lowercase_names ss → (r : RecordValue) → Among r rs → (s : RecordValue) × Among s ss × (lowercase_names s ≡ lowercase_names r)
moved [] ss e r m = absurd m
moved (x ∷ rs) [] e r m = absurd cc
moved (x ∷ rs) (y ∷ ss) e r (inl is) = let first : lowercase_names x ≡ lowercase_names y = cc in (y, inl refl, sym first ∙ ap lowercase_names (sym is))
moved (x ∷ rs) (y ∷ ss) e r (inr deep) =
    let others : map lowercase_names rs ≡ map lowercase_names ss = cc in
    let found = moved rs ss others r deep in
    (found.0, inr found.1, found.2)

least_of_other : (rs ss : List RecordValue) → map lowercase_names rs ≡ map lowercase_names ss → (x : RecordValue) → IsLeast rs x → IsLeast ss x
least_of_other rs ss e x h =
    let f = moved rs ss e h.found (among rs h.found h.occurs) in
    record {
      found = f.0;
      occurs = contains ss f.0 f.1;
      not_opt = ap is_not_opt f.2 ∙ h.not_opt;
      lowercased = f.2 ∙ h.lowercased;
      least = λ other occurs alike.
          let g = moved ss rs (sym e) other (among ss other occurs) in
          omega (
            arith,
            h.least g.0 (contains rs g.0 g.1) (alike_by other f.0 g.0 h.found (sym g.2) f.2 alike),
            ap (λ (r : RecordValue). r.ttl) f.2,
            ap (λ (r : RecordValue). r.ttl) g.2,
          );
    }

pub same_lowercased : (rs ss : List RecordValue) → map lowercase_names rs ≡ map lowercase_names ss → Same rs ss
same_lowercased rs ss e x = (least_of_other rs ss e x, least_of_other ss rs (sym e) x)

-- ---- an equivalence

pub same_back : (rs ss : List RecordValue) → Same rs ss → Same ss rs
same_back rs ss same x = ((same x).1, (same x).0)

pub same_then : (rs ss ts : List RecordValue) → Same rs ss → Same ss ts → Same rs ts
same_then rs ss ts same more x = (λ h. (more x).0 ((same x).0 h), λ h. (same x).1 ((more x).1 h))
