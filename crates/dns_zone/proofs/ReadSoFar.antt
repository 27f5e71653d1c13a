-- The records of the messages so far, and why the next one is refused.
use Rattle.std.proofs.Common.{◌≡◌, ◌<◌, ◌≤◌, ◌+◌, ℕ, suc, List, [], ◌∷◌, ◌++◌, length, map, take, drop, drop-cons, get_or, filter, Bool, ◌||◌, Some, sym, ap, ◌∙◌, arith, take-append-drop}
use Rattle.std.proofs.lemmas.List.{get_or-map, length-map, map-append, take-map, take_all, take_more}
use Rattle.std.proofs.lemmas.List.Elements.{filter-append}
use Rattle.std.proofs.lemmas.List.Folds.{list_any-append}
use Rattle.dns_command.specs.Outcomes.{RefusesFor}
use Rattle.dns_message.specs.Canonical.{is_not_opt}
use Rattle.dns_record.specs.FurtherFormats.{DataReading}
use Rattle.dns_message.specs.Messages.{RecordValue, ValidBy, message_by}
use Rattle.dns_message.specs.Order.{SortKey, sort_key}
use Rattle.dns_message.specs.Refusals.{RefusedBy, RefusedByOrMemory, first_refused}
use Rattle.dns_message.specs.Several.{AreValidBy, all_records_by}
use Rattle.dns_message.specs.declared.canon_error.CanonError.{CanonError}
use Rattle.dns_message.specs.declared.canon_error.CanonError.TheVariants.{Short, Item, Memory}
use Rattle.dns_message.proofs.SeveralMessages.{records_more, refused_reading, valid_before}
use Rattle.dns_command.specs.Refusals.{first_refusal_by, message_error, on_first}
use Rattle.dns_zone.specs.Zone.{belongs, belongs_form, has_soa, has_soa_form, is_soa_of}
use Rattle.dns_zone.specs.declared.refusal.ZoneReason.{ZoneReason}
use Rattle.dns_zone.proofs.MemberForms.{CoversType, members_same, soa_found}
use Rattle.std.specs.List.{AllByRecursion}

module _ {X : Type 0} (vs : List X) (f : X → List ℕ) where
  -- one more
  pub next_taken : (n : ℕ) (v : X) → n < length vs → v ≡ get_or vs n v → take (n + 1) (map f vs) ≡ take n (map f vs) ++ f v ∷ []
  next_taken n v within is =
      take-map f (n + 1) vs ∙ ap (map f) (take_more vs n v within ∙ ap (λ (x : X). take n vs ++ x ∷ []) (sym is)) ∙ map-append f (take n vs) (v ∷ [])
      ∙ ap (λ (l : List (List ℕ)). l ++ f v ∷ []) (sym (take-map f n vs))

  -- those before one, the one, and those after it
  pub parted_at : (n : ℕ) (v : X) → n < length vs → v ≡ get_or vs n v → map f vs ≡ take n (map f vs) ++ f v ∷ drop (suc n) (map f vs)
  parted_at n v within is =
      let one : get_or (map f vs) n [] ≡ f v = get_or-map f vs n v [] within ∙ ap f (sym is) in
      sym (take-append-drop n (map f vs))
      ∙ ap (λ (l : List (List ℕ)). take n (map f vs) ++ l) (drop-cons (map f vs) n [] (omega (arith, within, length-map vs f)) ∙ ap (λ (m : List ℕ). m ∷ drop (suc n) (map f vs)) one)

-- the records of one more message
pub kept_more : (reads : DataReading) (before : List (List ℕ)) (m : List ℕ) (rs more : List RecordValue) → ValidBy reads m rs → more ≡ filter is_not_opt rs
    → filter is_not_opt (all_records_by reads before) ++ more ≡ filter is_not_opt (all_records_by reads (before ++ m ∷ []))
kept_more reads before m rs more valid more-is =
    ap (λ (l : List RecordValue). filter is_not_opt (all_records_by reads before) ++ l) more-is ∙ sym (filter-append is_not_opt (all_records_by reads before) rs) ∙ ap (filter is_not_opt) (sym (records_more reads before m rs valid))

-- their forms, if they are in the zone
pub members_more : (apex : List (List ℕ)) (records more all : List RecordValue) (forms old new : List SortKey) → records ++ more ≡ all → AllByRecursion CoversType more → forms ≡ map sort_key more → old ≡ map sort_key (filter (belongs apex) records)
    → new ≡ old ++ filter (belongs_form apex) forms → new ≡ map sort_key (filter (belongs apex) all)
members_more apex records more all forms old new all-is covers forms-are old-is new-is =
    new-is ∙ ap (λ (l : List SortKey). old ++ filter (belongs_form apex) l) forms-are ∙ ap (λ (l : List SortKey). old ++ l) (members_same apex more covers) ∙ ap (λ (l : List SortKey). l ++ map sort_key (filter (belongs apex) more)) old-is ∙ sym (map-append sort_key (filter (belongs apex) records) (filter (belongs apex) more))
    ∙ ap (map sort_key) (sym (filter-append (belongs apex) records more)) ∙ ap (λ (l : List RecordValue). map sort_key (filter (belongs apex) l)) all-is

-- and whether one is the SOA record
pub soa_more : (apex : List (List ℕ)) (records more all : List RecordValue) (forms : List SortKey) (old : Bool) → records ++ more ≡ all → forms ≡ map sort_key more → old ≡ has_soa apex records
    → (old || has_soa_form apex forms) ≡ has_soa apex all
soa_more apex records more all forms old all-is forms-are old-is =
    ap (λ (b : Bool). old || b) (ap (has_soa_form apex) forms-are ∙ soa_found apex more) ∙ ap (λ (b : Bool). b || has_soa apex more) old-is ∙ sym (list_any-append (is_soa_of apex) records more) ∙ ap (has_soa apex) all-is

-- a message that is refused after valid ones
pub refuses_next : (reads : DataReading) (messages before after : List (List ℕ)) (m : List ℕ) (rss : List (List RecordValue)) (n : ℕ) (error : CanonError) → messages ≡ before ++ m ∷ after → length before ≡ n → AreValidBy reads before rss → RefusedByOrMemory reads m error
    → RefusesFor (first_refusal_by {R = ZoneReason} reads messages) (message_error n error)
refuses_next reads messages before after m rss n error is place valid refused = by error refused where
  first : (e : CanonError) → RefusedBy reads m e → first_refused 0 (map (message_by reads) messages) ≡ Some (n, e)
  first e why =
      ap (λ (l : List (List ℕ)). first_refused 0 (map (message_by reads) l)) is ∙ valid_before reads before (m ∷ after) rss 0 valid ∙ refused_reading reads m (map (message_by reads) after) e (0 + length before) why
      ∙ ap (λ (k : ℕ). Some (k, e)) (omega (arith, place))

  by : (e : CanonError) → RefusedByOrMemory reads m e → RefusesFor (first_refusal_by {R = ZoneReason} reads messages) (message_error n e)
  by Short few = ap on_first (first Short few)
  by (Item section index) bad = ap on_first (first (Item section index) bad)
  by Memory none = tt

-- all have been read
pub all_taken : (messages : List (List ℕ)) (n : ℕ) → length messages ≤ n → take n messages ≡ messages
all_taken messages n past = take_all n messages past
