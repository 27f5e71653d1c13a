-- The members of records in canonical order are those of the zone.
use Rattle.std.proofs.Common.{◌≡◌, ℕ, inl, inr, Bool, true, false, cond, List, [], ◌∷◌, ◌++◌, length, map, filter, refl, sym, ap, ◌∙◌, subst}
use Rattle.std.specs.Prelude.{◌≢◌, ◌↔◌, ◌==◌, ◌&&◌, Contains, not, reverse}
use Rattle.std.specs.List.{Any, AllByRecursion, concat, dedup_from}
use Rattle.std.specs.declared.cmp.Ordering.{Ordering}
use Rattle.std.specs.declared.cmp.Ordering.TheVariants.{Less, Equal, Greater}
use Rattle.std.specs.Ordering.{eq_by_cmp, is_lt, ordering_reverse}
use Rattle.std.proofs.lemmas.List.{length-map}
use Rattle.std.proofs.lemmas.List.Elements.{filter-append}
use Rattle.std.proofs.lemmas.List.Folds.{Any-from_list_any, list_any-from_Any}
use Rattle.std.proofs.lemmas.List.Sorted.{ranks_by, Contains-permutation, IsPermutation-sym}
use Rattle.dns_record.specs.FurtherFormats.{data_by}
use Rattle.dns_record.specs.declared.formats.Formats.{Formats}
use Rattle.dns_message.specs.Canonical.{canonical_wire, is_not_opt}
use Rattle.dns_message.specs.FormsRead.{forms_of}
use Rattle.dns_message.specs.Messages.{Reading, RecordValue, message_by, records_among}
use Rattle.dns_message.specs.Messages.Reading.{Short, Stopped, Whole}
use Rattle.dns_message.specs.Order.{SortKey, alike_cmp, collapsed, in_order, octets_of_key, sort_key, sort_key_cmp, ttl_cmp}
use Rattle.dns_message.specs.Several.{all_records_by, records_read}
use Rattle.dns_message.specs.Sorted.{Ascends, NoneBelow}
use Rattle.dns_message.proofs.Collapsing.{keys_collapsed}
use Rattle.dns_message.proofs.FirstOfRuns.{Among, among, contains, first_is_least, same_first}
use Rattle.dns_message.proofs.Ordering.{in_order_moves}
use Rattle.dns_message.proofs.SortedRecords.{alike_total, ascends_in_order, octets_of_keys, same_key, sort_key_cmp_total, ttl_total}
use Rattle.dns_zone.specs.Zone.{belongs_form, has_soa, has_soa_form, in_zone, is_apex, is_at_or_below, is_digest_form, is_of_zone_form, is_soa_form, members, stream}
use Rattle.dns_zone.proofs.MemberForms.{CoversType, members_same, read_cover_types, soa_found}
use Rattle.dns_zone.proofs.Members.{both, both_true, in_zone_kept, in_zone_not_opt, soa_kept}
use Rattle.dns_zone.proofs.Suffixes.{apex_tested, below_tested}
use Rattle.dns_zonemd.specs.SortedZone.{HaveZoneOf, InOrder, firsts, sorted_members, sorted_soas, sorted_stream}

-- ---- records in order

-- if one does not come after another, the other does not come before it
turned : (r : Ordering) → r ≢ Greater → is_lt (ordering_reverse r) ≡ false
turned Less h = refl
turned Equal h = refl
turned Greater h = absurd (h refl)

-- what is not before y is not before x, if y is not
none_further : (x y : SortKey) (zs : List SortKey) → is_lt (sort_key_cmp y x) ≡ false → NoneBelow sort_key_cmp y zs → NoneBelow sort_key_cmp x zs
none_further x y [] h none = tt
none_further x y (z ∷ zs) h none = ((ranks_by sort_key_cmp_total (λ (k : SortKey). k)).chain z y x none.0 h, none_further x y zs h none.1)

-- if none comes before the one before it, none comes before any earlier one
ascends : (ks : List SortKey) → InOrder ks → Ascends sort_key_cmp ks
ascends [] h = tt
ascends (k ∷ []) h = (tt, tt)
ascends (j ∷ k ∷ ks) (first, later) =
    let up : Ascends sort_key_cmp (k ∷ ks) = ascends (k ∷ ks) later in
    let next : is_lt (sort_key_cmp k j) ≡ false = ap is_lt (sort_key_cmp_total.antisymm k j) ∙ turned (sort_key_cmp j k) first in
    ((next, none_further j k ks next up.0), up)

-- ---- those that pass a test

module _ (p : SortKey → Bool) where
  none_filtered : (x : SortKey) (ks : List SortKey) → NoneBelow sort_key_cmp x ks → NoneBelow sort_key_cmp x (filter p ks)
  none_filtered x [] none = tt
  none_filtered x (k ∷ ks) none =
      elim (p k) as (λ b. NoneBelow sort_key_cmp x (cond b (k ∷ filter p ks) (filter p ks))) [
        | true ↦ (none.0, none_filtered x ks none.1)
        | false ↦ none_filtered x ks none.1
      ]

  ascends_filtered : (ks : List SortKey) → Ascends sort_key_cmp ks → Ascends sort_key_cmp (filter p ks)
  ascends_filtered [] up = tt
  ascends_filtered (k ∷ ks) up =
      elim (p k) as (λ b. Ascends sort_key_cmp (cond b (k ∷ filter p ks) (filter p ks))) [
        | true ↦ (none_filtered k ks up.0, ascends_filtered ks up.1)
        | false ↦ ascends_filtered ks up.1
      ]

  among_filtered : (ks : List SortKey) (k : SortKey) → Among k ks → p k ≡ true → Among k (filter p ks)
  among_filtered [] k m passes = absurd m
  among_filtered (j ∷ ks) k m passes =
      elim (p j) as (λ b. p j ≡ b → Among k (cond b (j ∷ filter p ks) (filter p ks))) [
        | true ↦ λ is. elim m as (λ _. Among k (j ∷ filter p ks)) [ inl e ↦ inl e | inr deep ↦ inr (among_filtered ks k deep passes) ]
        | false ↦ λ is. elim m as (λ _. Among k (filter p ks)) [
          | inl e ↦ let wrong : true ≡ false = sym passes ∙ ap p e ∙ is in absurd cc
          | inr deep ↦ among_filtered ks k deep passes
        ]
      ] refl

  from_filtered : (ks : List SortKey) (k : SortKey) → Among k (filter p ks) → Among k ks × (p k ≡ true)
  from_filtered [] k m = absurd m
  from_filtered (j ∷ ks) k m =
      elim (p j) as (λ b. p j ≡ b → Among k (cond b (j ∷ filter p ks) (filter p ks)) → Among k (j ∷ ks) × (p k ≡ true)) [
        | true ↦ λ is m. elim m as (λ _. Among k (j ∷ ks) × (p k ≡ true)) [
          | inl e ↦ (inl e, ap p e ∙ is)
          | inr deep ↦ let found = from_filtered ks k deep in (inr found.0, found.1)
        ]
        | false ↦ λ is m. let found = from_filtered ks k m in (inr found.0, found.1)
      ] refl m

  -- lists with the same elements have the same elements that pass
  same_filtered : (js ks : List SortKey) → ((k : SortKey) → p k ≡ true → Contains js k ↔ Contains ks k) → (k : SortKey) → Among k (filter p js) ↔ Among k (filter p ks)
  same_filtered js ks same k = (
    λ m. (let found = from_filtered js k m in among_filtered ks k (among ks k ((same k found.1).0 (contains js k found.0))) found.1),
    λ m. (let found = from_filtered ks k m in among_filtered js k (among js k ((same k found.1).1 (contains ks k found.0))) found.1),
  )

-- ---- the first of those that are alike

-- lists in order with the same elements have the same firsts
firsts_same : (js ks : List SortKey) → Ascends sort_key_cmp js → Ascends sort_key_cmp ks → ((k : SortKey) → Among k js ↔ Among k ks) → firsts js ≡ firsts ks
firsts_same js ks up vp same = same_first alike_cmp ttl_cmp alike_total ttl_total same_key js ks up vp (λ k. (to js ks up vp same k, to ks js vp up (λ j. ((same j).1, (same j).0)) k)) where
  to : (js ks : List SortKey) → Ascends sort_key_cmp js → Ascends sort_key_cmp ks → ((k : SortKey) → Among k js ↔ Among k ks) → (k : SortKey) → Among k (firsts js) → Among k (firsts ks)
  to js ks up vp same k m =
      let held = (first_is_least alike_cmp ttl_cmp alike_total ttl_total same_key js up k).0 m in
      (first_is_least alike_cmp ttl_cmp alike_total ttl_total same_key ks vp k).1 ((same k).0 held.0, λ j there. held.1 j ((same j).1 there))

-- there is a first exactly if there is an element
some_firsts : (k : SortKey) (ks : List SortKey) → dedup_from (eq_by_cmp alike_cmp) k ks ≢ []
some_firsts k [] none = cc
some_firsts k (j ∷ ks) none =
    elim (eq_by_cmp alike_cmp j k) as (λ b. cond b (dedup_from (eq_by_cmp alike_cmp) k ks) (k ∷ dedup_from (eq_by_cmp alike_cmp) j ks) ≡ [] → ⊥) [
      | true ↦ some_firsts k ks
      | false ↦ λ e. cc
    ] none

firsts_of_some : (ks : List SortKey) (k : SortKey) → Among k ks → firsts ks ≢ []
firsts_of_some [] k m none = m
firsts_of_some (j ∷ ks) k m none = some_firsts j ks none

some_of_firsts : (ks : List SortKey) → firsts ks ≢ [] → (k : SortKey) × Among k ks
some_of_firsts [] some = absurd (some refl)
some_of_firsts (k ∷ ks) some = (k, inl refl)

-- ---- the forms of records

-- records in order have the forms that they had
among_keys : (rs ss : List RecordValue) → ((r : RecordValue) → Contains rs r → Contains ss r) → (k : SortKey) → Among k (map sort_key rs) → Among k (map sort_key ss)
among_keys rs ss there k m = let found = from_map rs k m in into_map ss found.0 k (among ss found.0 (there found.0 (contains rs found.0 found.1))) found.2 where
  from_map : (rs : List RecordValue) (k : SortKey) → Among k (map sort_key rs) → (r : RecordValue) × Among r rs × (k ≡ sort_key r)
  from_map [] k m = absurd m
  from_map (r ∷ rs) k (inl e) = (r, inl refl, e)
  from_map (r ∷ rs) k (inr deep) = let found = from_map rs k deep in (found.0, inr found.1, found.2)

  into_map : (rs : List RecordValue) (r : RecordValue) (k : SortKey) → Among r rs → k ≡ sort_key r → Among k (map sort_key rs)
  into_map [] r k m is = absurd m
  into_map (s ∷ rs) r k (inl e) is = inl (is ∙ ap sort_key e)
  into_map (s ∷ rs) r k (inr deep) is = inr (into_map rs r k deep is)

ordered_keys : (rs : List RecordValue) (k : SortKey) → Among k (map sort_key rs) ↔ Among k (map sort_key (in_order rs))
ordered_keys rs k = (
  among_keys rs (in_order rs) (λ r. Contains-permutation rs (in_order rs) r (in_order_moves rs)) k,
  among_keys (in_order rs) rs (λ r. Contains-permutation (in_order rs) rs r (IsPermutation-sym rs (in_order rs) (in_order_moves rs))) k,
)

-- ---- records of the zone

-- members are of the zone
of_member : (apex : List (List ℕ)) (k : SortKey) → belongs_form apex k ≡ true → is_of_zone_form apex k ≡ true
of_member apex k is = (both (is_of_zone_form apex k) (not (is_apex apex (reverse k.owner) && is_digest_form k)) is).0

-- and so is the SOA record of the apex
of_soa : (apex : List (List ℕ)) (k : SortKey) → is_soa_form apex k ≡ true → is_of_zone_form apex k ≡ true
of_soa apex k is =
    let first = both (k.rtype == 6 && k.class == 1) (is_apex apex (reverse k.owner)) is in
    both_true (k.class == 1) (is_at_or_below apex (reverse k.owner)) (both (k.rtype == 6) (k.class == 1) first.0).1
    ((below_tested apex (reverse k.owner)).1 ([], (apex_tested apex (reverse k.owner)).0 first.1))

-- ---- records whose signatures cover a type

module _ (apex : List (List ℕ)) (rs : List RecordValue) (ks : List SortKey) (same : (k : SortKey) → is_of_zone_form apex k ≡ true → Contains ks k ↔ Contains (forms_of rs) k) where
  module _ (covers : AllByRecursion CoversType (filter is_not_opt rs)) (order : InOrder ks) where
    -- of the forms in order and of those of the records in the zone
    same_in_zone : (k : SortKey) → Among k (filter (belongs_form apex) ks) ↔ Among k (map sort_key (in_order (in_zone apex rs)))
    same_in_zone k =
        let forms : filter (belongs_form apex) (forms_of rs) ≡ map sort_key (in_zone apex rs) = members_same apex (filter is_not_opt rs) covers ∙ ap (map sort_key) (in_zone_kept apex rs) in
        let passing = same_filtered (belongs_form apex) ks (forms_of rs) (λ j is. same j (of_member apex j is)) k in
        let ordered = ordered_keys (in_zone apex rs) k in
        (λ m. ordered.0 (subst (Among k) forms (passing.0 m)), λ m. passing.1 (subst (Among k) (sym forms) (ordered.1 m)))

    keys_of_records : sorted_members apex ks ≡ map sort_key (collapsed (in_zone apex rs))
    keys_of_records =
        firsts_same (filter (belongs_form apex) ks) (map sort_key (in_order (in_zone apex rs))) (ascends_filtered (belongs_form apex) ks (ascends ks order)) (ascends_in_order (in_zone apex rs)) same_in_zone
        ∙ sym (keys_collapsed (in_zone apex rs))

    pub members_of_records : map octets_of_key (sorted_members apex ks) ≡ members apex rs
    members_of_records =
        ap (map octets_of_key) keys_of_records ∙ octets_of_keys (collapsed (in_zone apex rs)) ∙ ap (λ (l : List RecordValue). map canonical_wire (collapsed l)) (sym (in_zone_not_opt apex rs))

  pub soa_of_records : (has_soa apex rs ≡ true) ↔ (sorted_soas apex ks ≢ [])
  soa_of_records =
      let tested : has_soa_form apex (forms_of rs) ≡ has_soa apex rs = soa_found apex (filter is_not_opt rs) ∙ soa_kept apex rs in (
        λ e. there (Any-from_list_any (is_soa_form apex) (forms_of rs) (tested ∙ e)),
        λ some.
            let first = some_of_firsts (filter (is_soa_form apex) ks) some in
            let found = from_filtered (is_soa_form apex) ks first.0 first.1 in
            let occurs = (same first.0 (of_soa apex first.0 found.1)).0 (contains ks first.0 found.0) in
            sym tested ∙ list_any-from_Any (is_soa_form apex) (forms_of rs) (occurs.0, first.0, occurs.1, occurs.2, found.1),
      ) where
        there : Any (λ (k : SortKey). is_soa_form apex k ≡ true) (forms_of rs) → sorted_soas apex ks ≢ []
        there (n, k, within, is, test) = firsts_of_some (filter (is_soa_form apex) ks) k (among_filtered (is_soa_form apex) ks k (among ks k ((same k (of_soa apex k test)).1 (n, within, is))) test)

-- ---- the records of messages

cover_more : (rs ss : List RecordValue) → AllByRecursion CoversType rs → AllByRecursion CoversType ss → AllByRecursion CoversType (rs ++ ss)
cover_more [] ss covers more = more
cover_more (r ∷ rs) ss (first, later) more = (first, cover_more rs ss later more)

-- those of one message; a message that is not valid has none
read_covers : (formats : Formats) (m : List ℕ) (reading : Reading) → message_by (data_by formats) m ≡ reading → AllByRecursion CoversType (filter is_not_opt (records_read reading))
read_covers formats m Short is = tt
read_covers formats m (Stopped items section index place) is = tt
read_covers formats m (Whole items end) is = read_cover_types formats m (records_among items) (items, end, is, refl)

all_cover : (formats : Formats) (messages : List (List ℕ)) → AllByRecursion CoversType (filter is_not_opt (all_records_by (data_by formats) messages))
all_cover formats [] = tt
all_cover formats (m ∷ messages) =
    let one = records_read (message_by (data_by formats) m) in
    let others = all_records_by (data_by formats) messages in
    subst (AllByRecursion CoversType) (sym (filter-append is_not_opt one others))
    (cover_more (filter is_not_opt one) (filter is_not_opt others) (read_covers formats m (message_by (data_by formats) m) refl) (all_cover formats messages))

module _ (apex : List (List ℕ)) (formats : Formats) (messages : List (List ℕ)) (ks : List SortKey) where
  pub members_of_messages : InOrder ks → HaveZoneOf apex formats messages ks
      → map octets_of_key (sorted_members apex ks) ≡ members apex (all_records_by (data_by formats) messages)
  members_of_messages order same = members_of_records apex (all_records_by (data_by formats) messages) ks same (all_cover formats messages) order

  pub count_of_messages : InOrder ks → HaveZoneOf apex formats messages ks
      → length (sorted_members apex ks) ≡ length (members apex (all_records_by (data_by formats) messages))
  count_of_messages order same = sym (length-map (sorted_members apex ks) octets_of_key) ∙ ap length (members_of_messages order same)

  pub stream_of_messages : InOrder ks → HaveZoneOf apex formats messages ks
      → sorted_stream apex ks ≡ stream apex (all_records_by (data_by formats) messages)
  stream_of_messages order same = ap concat (members_of_messages order same)

  pub soa_of_messages : HaveZoneOf apex formats messages ks
      → (has_soa apex (all_records_by (data_by formats) messages) ≡ true) ↔ (sorted_soas apex ks ≢ [])
  soa_of_messages same = soa_of_records apex (all_records_by (data_by formats) messages) ks same
