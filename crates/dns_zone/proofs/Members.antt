-- What the tests of membership say.
use Rattle.std.proofs.Common.{◌≡◌, ◌<◌, ◌^◌, ◌==◌, ◌&&◌, ◌||◌, ◌⊎◌, inl, inr, cond, ℕ, Bool, true, false, List, [], ◌∷◌, ◌++◌, take, drop, take-append-drop, filter, refl, sym, ap, ◌∙◌}
use Rattle.std.specs.Prelude.{◌↔◌, nat_eq, not}
use Rattle.std.specs.List.{Any, starts_with}
use Rattle.std.specs.Cmp.Lexicographic.{bytes_decides}
use Rattle.std.specs.Int.{w16, from_be_bytes, to_be_bytes}
use Rattle.std.proofs.lemmas.Bool.{eqb-true, eq-eqb}
use Rattle.std.proofs.lemmas.List.Folds.{Any-from_list_any, list_any-from_Any}
use Rattle.std.proofs.lemmas.Map.Views.{any-filter_same}
use Rattle.std.proofs.lemmas.List.{take_at}
use Rattle.std.proofs.lemmas.Nat.{from_be_bytes-to_be_bytes_2}
use Rattle.dns_wire.specs.Names.{lowered}
use Rattle.dns_record.specs.Fields.{fields_octets}
use Rattle.dns_message.specs.Canonical.{is_not_opt}
use Rattle.dns_message.specs.Messages.{RecordValue}
use Rattle.dns_zone.specs.Zone.{HasSoa, IsInZone, CoversZonemd, belongs, has_soa, in_zone, is_apex, is_at_or_below, is_digest_record, is_in_zone, is_soa_of, signs_zonemd}
use Rattle.dns_zone.proofs.Suffixes.{apex_tested, below_tested, tests_same}

-- ---- parts of tests

pub both : (a b : Bool) → (a && b) ≡ true → (a ≡ true) × (b ≡ true)
both true b e = (refl, e)
both false b e = absurd cc

pub both_true : (a b : Bool) → a ≡ true → b ≡ true → (a && b) ≡ true
both_true a b e f = rw (e, f) refl

-- ---- members of members

-- of records other than OPT those that belong to a zone are those in the zone
pub filter_twice : {X : Type 0} (p q : X → Bool) (xs : List X) → filter p (filter q xs) ≡ filter (λ x. q x && p x) xs
filter_twice p q [] = refl
filter_twice {X = X} p q (x ∷ xs) = by (q x) (filter_twice p q xs) where
  by : (b : Bool) → filter p (filter q xs) ≡ filter (λ x. q x && p x) xs
      → filter p (cond b (x ∷ filter q xs) (filter q xs)) ≡ cond (b && p x) (x ∷ filter (λ x. q x && p x) xs) (filter (λ x. q x && p x) xs)
  by true same = ap (λ (l : List X). cond (p x) (x ∷ l) l) same
  by false same = same

pub in_zone_kept : (apex : List (List ℕ)) (rs : List RecordValue) → filter (belongs apex) (filter is_not_opt rs) ≡ in_zone apex rs
in_zone_kept apex rs = filter_twice (belongs apex) is_not_opt rs

-- and none of them is of type OPT
pub in_zone_not_opt : (apex : List (List ℕ)) (rs : List RecordValue) → filter is_not_opt (in_zone apex rs) ≡ in_zone apex rs
in_zone_not_opt apex rs = filter_twice is_not_opt (is_in_zone apex) rs ∙ ap (λ (test : RecordValue → Bool). filter test rs) (λ i r. once (is_not_opt r) (belongs apex r) i) where
  once : (a b : Bool) → ((a && b) && a) ≡ (a && b)
  once true true = refl
  once true false = refl
  once false b = refl

-- a SOA record is none of OPT
pub soa_kept : (apex : List (List ℕ)) (rs : List RecordValue) → has_soa apex (filter is_not_opt rs) ≡ has_soa apex rs
soa_kept apex rs = any-filter_same (is_soa_of apex) is_not_opt true (λ r e. other r (both (r.rtype == 6) (r.class == 1) (both (r.rtype == 6 && r.class == 1) (is_apex apex r.owner) e).0).0) rs where
  other : (r : RecordValue) → (r.rtype == 6) ≡ true → is_not_opt r ≡ true
  other r e = let six : r.rtype ≡ 6 = eqb-true r.rtype 6 e in rw six refl

-- ---- in words

pub two_octets : (octets : List ℕ) → starts_with nat_eq octets (0 ∷ 63 ∷ []) ≡ true → (rest : List ℕ) × (octets ≡ 0 ∷ 63 ∷ rest)
two_octets octets e =
    let first : 0 ∷ 63 ∷ [] ≡ take 2 octets = (bytes_decides (0 ∷ 63 ∷ []) (take 2 octets)).0 e in
    (drop 2 octets, sym (take-append-drop 2 octets) ∙ ap (λ (l : List ℕ). l ++ drop 2 octets) (sym first))

pub starts_two : (octets rest : List ℕ) → octets ≡ 0 ∷ 63 ∷ rest → starts_with nat_eq octets (0 ∷ 63 ∷ []) ≡ true
starts_two octets rest is = ap (λ (l : List ℕ). starts_with nat_eq l (0 ∷ 63 ∷ [])) is

-- what a record of the zone's own digests is
digest_cases : (r : RecordValue) → is_digest_record r ≡ true → (r.rtype ≡ 63) ⊎ CoversZonemd r
digest_cases r e = by (r.rtype == 63) refl e where
  by : (b : Bool) → (r.rtype == 63) ≡ b → (b || (r.rtype == 46 && signs_zonemd r.content)) ≡ true → (r.rtype ≡ 63) ⊎ CoversZonemd r
  by true is e = inl (eqb-true r.rtype 63 is)
  by false is e = let p = both (r.rtype == 46) (signs_zonemd r.content) e in inr (eqb-true r.rtype 46 p.0, two_octets (fields_octets r.content) p.1)

digest_own : (r : RecordValue) → r.rtype ≡ 63 → is_digest_record r ≡ true
digest_own r is = ap (λ (b : Bool). b || (r.rtype == 46 && signs_zonemd r.content)) (eq-eqb r.rtype 63 is)

digest_signature : (r : RecordValue) → CoversZonemd r → is_digest_record r ≡ true
digest_signature r (is, (rest, begins)) =
    ap (λ (b : Bool). r.rtype == 63 || b) (both_true (r.rtype == 46) (signs_zonemd r.content) (eq-eqb r.rtype 46 is) (starts_two (fields_octets r.content) rest begins)) ∙ either (r.rtype == 63) where
      either : (b : Bool) → (b || true) ≡ true
      either true = refl
      either false = refl

pub members_words : (apex : List (List ℕ)) (r : RecordValue) → (is_in_zone apex r ≡ true) ↔ IsInZone apex r
members_words apex r = (from, into) where
  none : not (is_apex apex r.owner && is_digest_record r) ≡ true → lowered r.owner ≡ lowered apex → is_digest_record r ≡ true → ⊥
  none e same digest = let clash = sym e ∙ ap not (both_true (is_apex apex r.owner) (is_digest_record r) ((apex_tested apex r.owner).1 same) digest) in absurd cc

  from : is_in_zone apex r ≡ true → IsInZone apex r
  from e =
      let p = both (is_not_opt r) (belongs apex r) e in
      let q = both (r.class == 1 && is_at_or_below apex r.owner) (not (is_apex apex r.owner && is_digest_record r)) p.1 in
      let where_it_is = both (r.class == 1) (is_at_or_below apex r.owner) q.0 in
      record {
        below = (below_tested apex r.owner).0 where_it_is.1;
        class = eqb-true r.class 1 where_it_is.0;
        not_opt = p.0;
        no_digest = λ same is. none q.1 same (digest_own r is);
        no_signature = λ same covers. none q.1 same (digest_signature r covers);
      }

  kept : IsInZone apex r → (a d : Bool) → is_apex apex r.owner ≡ a → is_digest_record r ≡ d → not (a && d) ≡ true
  kept h false d same digest = refl
  kept h true false same digest = refl
  kept h true true same digest =
      let at = (apex_tested apex r.owner).0 same in elim (digest_cases r digest) [ inl own ↦ absurd (h.no_digest at own) | inr covers ↦ absurd (h.no_signature at covers) ]

  into : IsInZone apex r → is_in_zone apex r ≡ true
  into h =
      both_true (is_not_opt r) (belongs apex r) h.not_opt (
      both_true (r.class == 1 && is_at_or_below apex r.owner) (not (is_apex apex r.owner && is_digest_record r))
      (both_true (r.class == 1) (is_at_or_below apex r.owner) (eq-eqb r.class 1 h.class) ((below_tested apex r.owner).1 h.below))
      (kept h (is_apex apex r.owner) (is_digest_record r) refl refl)
      )

pub soa_words : (apex : List (List ℕ)) (rs : List RecordValue) → (has_soa apex rs ≡ true) ↔ HasSoa apex rs
soa_words apex rs = (
  λ e. from (Any-from_list_any (is_soa_of apex) rs e),
  λ h.
      list_any-from_Any (is_soa_of apex) rs (
        h.occurs.0,
        h.soa,
        h.occurs.1,
        h.occurs.2,
        both_true (h.soa.rtype == 6 && h.soa.class == 1) (is_apex apex h.soa.owner) (both_true (h.soa.rtype == 6) (h.soa.class == 1) (eq-eqb h.soa.rtype 6 h.rtype) (eq-eqb h.soa.class 1 h.class))
            ((apex_tested apex h.soa.owner).1 h.owner),
      ),
) where
  from : Any (λ (r : RecordValue). is_soa_of apex r ≡ true) rs → HasSoa apex rs
  from (k, soa, within, is, test) =
      let p = both (soa.rtype == 6 && soa.class == 1) (is_apex apex soa.owner) test in
      let q = both (soa.rtype == 6) (soa.class == 1) p.0 in
      record { soa = soa; occurs = (k, within, is); owner = (apex_tested apex soa.owner).0 p.1; class = eqb-true soa.class 1 q.1; rtype = eqb-true soa.rtype 6 q.0 }

-- ---- data of signatures

-- the first two octets are the number of the type that is covered
pub covered_octets : (n : ℕ) (rest : List ℕ) → n < 2 ^ 16 → (n == 63) ≡ starts_with nat_eq (to_be_bytes w16 n ++ rest) (0 ∷ 63 ∷ [])
covered_octets n rest fits = tests_same (n == 63) (starts_with nat_eq (to_be_bytes w16 n ++ rest) (0 ∷ 63 ∷ [])) to from where
  to : (n == 63) ≡ true → starts_with nat_eq (to_be_bytes w16 n ++ rest) (0 ∷ 63 ∷ []) ≡ true
  to e = let is : n ≡ 63 = eqb-true n 63 e in rw is refl

  from : starts_with nat_eq (to_be_bytes w16 n ++ rest) (0 ∷ 63 ∷ []) ≡ true → (n == 63) ≡ true
  from e =
      let begins = two_octets (to_be_bytes w16 n ++ rest) e in
      let octets : to_be_bytes w16 n ≡ 0 ∷ 63 ∷ [] = sym (take_at (to_be_bytes w16 n) rest 2 refl) ∙ ap (take 2) begins.1 in
      let is : n ≡ 63 = sym (from_be_bytes-to_be_bytes_2 n fits) ∙ ap (from_be_bytes w16) octets in
      eq-eqb n 63 is
