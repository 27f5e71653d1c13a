-- The outcome that a text of a zone calls for.
use Rattle.std.proofs.Common.{◌≡◌, ◌<◌, ◌≤◌, ℕ, suc, Bool, true, false, inl, inr, List, [], ◌∷◌, length, map, Option, Some, None, Result, Ok, Err, refl, sym, ap, ◌∙◌, subst, arith, cond}
use Rattle.std.specs.Prelude.{◌↔◌, bytes_eq, codes}
use Rattle.std.specs.List.{Any}
use Rattle.std.specs.Result.{result_ok}
use Rattle.std.specs.Cmp.Lexicographic.{bytes_decides}
use Rattle.std.proofs.lemmas.Bool.{cases_lt, le-ltb, lt-ltb}
use Rattle.dns_text.specs.Hexadecimal.{SpellsNothing, spelled, trim}
use Rattle.dns_wire.specs.Steps.{◌>>=◌}
use Rattle.dns_command.specs.Outcomes.{RefusesFor, refused_or_done}
use Rattle.dns_text.specs.Spelled.{all_spelled}
use Rattle.dns_command.specs.declared.outcome.Outcome.{Outcome}
use Rattle.dns_command.specs.declared.outcome.Outcome.TheVariants.{Done, Usage, TooLong, Refused, ReadFault, WriteFault, Memory}
use Rattle.dns_command.specs.declared.outcome.PrintError.{PrintError}
use Rattle.dns_command.specs.declared.outcome.PrintError.TheVariants as print
use Rattle.dns_name.specs.Text.{parsed_name}
use Rattle.dns_name.specs.declared.text_error.NameParseError.{NameParseError}
use Rattle.dns_wire.specs.Pointers.{name_at}
use Rattle.dns_record.specs.Data.{data_in}
use Rattle.dns_record.specs.FurtherFormats.{DataReading}
use Rattle.dns_message.specs.Messages.{RecordValue, message_by, message_reading}
use Rattle.dns_message.specs.Refusals.{first_refused}
use Rattle.dns_message.specs.Same.{Same}
use Rattle.dns_message.specs.Several.{all_records, all_records_by}
use Rattle.dns_message.specs.declared.canon_error.CanonError.{CanonError}
use Rattle.dns_message.specs.declared.canon_error.CanonError.TheVariants as canon
use Rattle.dns_message.proofs.CanonicalListSameness.{canonical_list_from_same}
use Rattle.dns_message.proofs.SeveralMessages.{first_words, none_valid, valid_none, valid_records}
use Rattle.dns_command.specs.Refusals.{first_refusal, first_refusal_by, on_first}
use Rattle.dns_zone.specs.Texts.{HasRecords, PrintsZone, RefusesMessage, ZoneRefusal, apex_named, apex_of, lines_refusal, on_messages, on_messages_by, on_records, texts_in, zone_outcome, zone_refusal}
use Rattle.dns_zone.specs.Zone.{HasSoa, has_soa, in_zone, zone_output, zone_text}
use Rattle.dns_command.specs.declared.refusal.Refusal.TheVariants.{BadHex, Short, Item, Own}
use Rattle.dns_zone.specs.declared.refusal.ZoneReason.TheVariants.{NoSoa}
use Rattle.dns_zone.proofs.Lines.{none_spelled}
use Rattle.dns_zone.proofs.Members.{soa_words}

-- ---- refusals

pub unspelled : (apex : List (List ℕ)) (text : List ℕ) (error : PrintError ZoneRefusal) → RefusesFor (lines_refusal (all_spelled (texts_in text))) error → RefusesFor (zone_refusal apex text) error
unspelled apex text error refuses = by (all_spelled (texts_in text)) error refuses where
  by : (o : Option (List (List ℕ))) (e : PrintError ZoneRefusal) → RefusesFor (lines_refusal o) e → RefusesFor (on_messages apex o) e
  by o print.Memory h = tt
  by None (print.Refused r) h = h
  by (Some messages) (print.Refused r) h = absurd cc

-- the refusal of the first message that is not valid
pub first_refusal_of : (reads : DataReading) (apex : List (List ℕ)) (messages : List (List ℕ)) (error : PrintError ZoneRefusal) → RefusesFor (first_refusal_by reads messages) error → RefusesFor (on_messages_by reads apex (Some messages)) error
first_refusal_of reads apex messages (print.Refused r) is = ap (on_records apex (all_records_by reads messages)) is
first_refusal_of reads apex messages print.Memory is = tt

-- why valid messages are refused
pub on_valid_records : (reads : DataReading) (apex : List (List ℕ)) (messages : List (List ℕ)) (soa : Bool) → first_refused 0 (map (message_by reads) messages) ≡ None → has_soa apex (all_records_by reads messages) ≡ soa
    → on_messages_by reads apex (Some messages) ≡ cond soa None (Some (Own NoSoa))
on_valid_records reads apex messages soa none has = ap (λ (o : Option (ℕ × CanonError)). on_records apex (all_records_by reads messages) (on_first o)) none ∙ ap (λ (b : Bool). cond b None (Some (Own NoSoa))) has

module _ (apex : List (List ℕ)) (text : List ℕ) (messages : List (List ℕ)) (spells : all_spelled (texts_in text) ≡ Some messages) where
  -- what messages call for, the text that spells them does
  pub spelled_refusal : zone_refusal apex text ≡ on_messages apex (Some messages)
  spelled_refusal = ap (on_messages apex) spells

  pub first_error : (error : PrintError ZoneRefusal) → RefusesFor (first_refusal messages) error → RefusesFor (zone_refusal apex text) error
  first_error error refuses = subst (λ (o : Option ZoneRefusal). RefusesFor o error) (sym spelled_refusal) (first_refusal_of (data_in name_at) apex messages error refuses)

  pub valid_refusal : (soa : Bool) → first_refused 0 (map message_reading messages) ≡ None → has_soa apex (all_records messages) ≡ soa → zone_refusal apex text ≡ cond soa None (Some (Own NoSoa))
  valid_refusal soa none has = spelled_refusal ∙ on_valid_records (data_in name_at) apex messages soa none has

  pub has_records : first_refused 0 (map message_reading messages) ≡ None → HasRecords text (all_records messages)
  has_records none = let valid = none_valid (data_in name_at) messages 0 none in (messages, valid.0, spells, valid.1, valid_records (data_in name_at) messages valid.0 valid.1)

-- ---- records

-- what the text has
spelled_records : (text : List ℕ) (rs : List RecordValue) → HasRecords text rs
    → (messages : List (List ℕ)) × (all_spelled (texts_in text) ≡ Some messages) × (first_refused 0 (map message_reading messages) ≡ None) × (rs ≡ all_records messages)
spelled_records text rs (messages, rss, spells, valid, are) = (messages, spells, valid_none (data_in name_at) messages rss 0 valid, are ∙ sym (valid_records (data_in name_at) messages rss valid))

pub one_records : (text : List ℕ) (rs ss : List RecordValue) → HasRecords text rs → HasRecords text ss → rs ≡ ss
one_records text rs ss first second =
    let p = spelled_records text rs first in
    let q = spelled_records text ss second in
    let same : p.0 ≡ q.0 = (let e = sym p.1 ∙ q.1 in cc) in
    p.3 ∙ ap all_records same ∙ sym q.3

pub same_texts : (apex : List (List ℕ)) (rs ss : List RecordValue) → Same (in_zone apex rs) (in_zone apex ss) → zone_text apex rs ≡ zone_text apex ss
same_texts apex rs ss same = ap zone_output (canonical_list_from_same (in_zone apex rs) (in_zone apex ss) same)

pub same_printed : (apex : List (List ℕ)) (t u printed other : List ℕ) (rs ss : List RecordValue) → HasRecords t rs → HasRecords u ss → Same (in_zone apex rs) (in_zone apex ss)
    → PrintsZone apex t printed → PrintsZone apex u other → printed ≡ other
same_printed apex t u printed other rs ss first second same (rs', has, is) (ss', also, js) =
    is ∙ ap (zone_text apex) (one_records t rs' rs has first) ∙ same_texts apex rs ss same ∙ ap (zone_text apex) (one_records u ss ss' second also) ∙ sym js

-- ---- lines that spell nothing

pub nothing_among : (texts : List (List ℕ)) → all_spelled texts ≡ None → Any SpellsNothing texts
nothing_among [] e = absurd cc
nothing_among (text ∷ texts) e = by (spelled (trim text)) refl e (all_spelled texts) refl (nothing_among texts) where
  by : (o : Option (List ℕ)) → spelled (trim text) ≡ o → (o >>= (λ m. all_spelled texts >>= (λ ms. Some (m ∷ ms)))) ≡ None → (p : Option (List (List ℕ))) → all_spelled texts ≡ p
      → (all_spelled texts ≡ None → Any SpellsNothing texts) → Any SpellsNothing (text ∷ texts)
  by None is e p later more = (0, text, omega arith, refl, is)
  by (Some m) is e None later more = let h = more later in (suc h.0, h.1, omega (arith, h.2), h.3, h.4)
  by (Some m) is e (Some ms) later more = let clash = sym (ap (λ (o : Option (List (List ℕ))). o >>= (λ ms. Some (m ∷ ms))) later) ∙ e in absurd cc

pub none_from_any : (texts : List (List ℕ)) → Any SpellsNothing texts → all_spelled texts ≡ None
none_from_any texts (k, text, within, is, nothing) = none_spelled texts k text within is nothing

-- ---- in words

-- what calls for an outcome
abbrev pub CallsFor : List (List ℕ) → List ℕ → Outcome ZoneRefusal → Type 0
CallsFor apex t Done = (length t ≤ 4194304) × ((rs : List RecordValue) × HasRecords t rs × HasSoa apex rs)
CallsFor apex t (Refused (Own NoSoa)) = (length t ≤ 4194304) × ((rs : List RecordValue) × HasRecords t rs × ¬ HasSoa apex rs)
CallsFor apex t (Refused (Short message)) = (length t ≤ 4194304) × RefusesMessage t message canon.Short
CallsFor apex t (Refused (Item message section index)) = (length t ≤ 4194304) × RefusesMessage t message (canon.Item section index)
CallsFor apex t (Refused BadHex) = (length t ≤ 4194304) × Any SpellsNothing (texts_in t)
CallsFor apex t TooLong = 4194304 < length t
CallsFor apex t Usage = ⊥
CallsFor apex t ReadFault = ⊥
CallsFor apex t WriteFault = ⊥
CallsFor apex t Memory = ⊥

module _ (apex : List (List ℕ)) (t : List ℕ) where
  within_limit : length t ≤ 4194304 → zone_outcome (Some apex) t ≡ refused_or_done (zone_refusal apex t)
  within_limit within = ap (λ (b : Bool). cond b TooLong (refused_or_done (zone_refusal apex t))) (le-ltb 4194304 (length t) within)

  on_valid : (soa : Bool) (rs : List RecordValue) → HasRecords t rs → has_soa apex rs ≡ soa → zone_refusal apex t ≡ cond soa None (Some (Own NoSoa))
  on_valid soa rs has is = let p = spelled_records t rs has in valid_refusal apex t p.0 p.1 soa p.2 (ap (has_soa apex) (sym p.3) ∙ is)

  no_soa_test : (rs : List RecordValue) → ¬ HasSoa apex rs → has_soa apex rs ≡ false
  no_soa_test rs none = by (has_soa apex rs) refl where
    by : (b : Bool) → has_soa apex rs ≡ b → has_soa apex rs ≡ false
    by true e = absurd (none ((soa_words apex rs).0 e))
    by false e = e

  on_refused : (message : ℕ) (error : CanonError) (refusal : ZoneRefusal) → RefusesMessage t message error → on_first (Some (message, error)) ≡ Some refusal → zone_refusal apex t ≡ Some refusal
  on_refused message error refusal (messages, spells, first) is =
      first_error apex t messages spells (print.Refused refusal) (ap on_first ((first_words (data_in name_at) messages message error).1 first) ∙ is)

  pub called : (o : Outcome ZoneRefusal) → CallsFor apex t o → zone_outcome (Some apex) t ≡ o
  called Done (within, (rs, has, soa)) = within_limit within ∙ ap refused_or_done (on_valid true rs has ((soa_words apex rs).1 soa))
  called (Refused (Own NoSoa)) (within, (rs, has, none)) = within_limit within ∙ ap refused_or_done (on_valid false rs has (no_soa_test rs none))
  called (Refused (Short message)) (within, refuses) = within_limit within ∙ ap refused_or_done (on_refused message canon.Short (Short message) refuses refl)
  called (Refused (Item message section index)) (within, refuses) =
      within_limit within ∙ ap refused_or_done (on_refused message (canon.Item section index) (Item message section index) refuses refl)
  called (Refused BadHex) (within, nothing) = within_limit within ∙ ap (λ (o : Option (List (List ℕ))). refused_or_done (on_messages apex o)) (none_from_any (texts_in t) nothing)
  called TooLong long = ap (λ (b : Bool). cond b TooLong (refused_or_done (zone_refusal apex t))) (lt-ltb 4194304 (length t) long)
  called Usage none = absurd none
  called ReadFault none = absurd none
  called WriteFault none = absurd none
  called Memory none = absurd none

  -- each text calls for an outcome
  some_call : (o : Outcome ZoneRefusal) × CallsFor apex t o
  some_call = elim (cases_lt 4194304 (length t)) [ inl long ↦ (TooLong, long) | inr within ↦ on_spelled within (all_spelled (texts_in t)) refl ] where
    on_soa : length t ≤ 4194304 → (rs : List RecordValue) → HasRecords t rs → (b : Bool) → has_soa apex rs ≡ b → (o : Outcome ZoneRefusal) × CallsFor apex t o
    on_soa within rs has true e = (Done, (within, (rs, has, (soa_words apex rs).0 e)))
    on_soa within rs has false e = (Refused (Own NoSoa), (within, (rs, has, λ soa. (let clash = sym e ∙ (soa_words apex rs).1 soa in absurd cc))))

    on_reading : length t ≤ 4194304 → (messages : List (List ℕ)) → all_spelled (texts_in t) ≡ Some messages → (o : Option (ℕ × CanonError)) → first_refused 0 (map message_reading messages) ≡ o → (o : Outcome ZoneRefusal) × CallsFor apex t o
    on_reading within messages spells None none = on_soa within (all_records messages) (has_records apex t messages spells none) (has_soa apex (all_records messages)) refl
    on_reading within messages spells (Some (message, canon.Short)) is = (Refused (Short message), (within, (messages, spells, (first_words (data_in name_at) messages message canon.Short).0 is)))
    on_reading within messages spells (Some (message, canon.Item section index)) is =
        (Refused (Item message section index), (within, (messages, spells, (first_words (data_in name_at) messages message (canon.Item section index)).0 is)))
    on_reading within messages spells (Some (message, canon.Memory)) is = absurd ((first_words (data_in name_at) messages message canon.Memory).0 is).refused

    on_spelled : length t ≤ 4194304 → (o : Option (List (List ℕ))) → all_spelled (texts_in t) ≡ o → (o : Outcome ZoneRefusal) × CallsFor apex t o
    on_spelled within None nothing = (Refused BadHex, (within, nothing_among (texts_in t) nothing))
    on_spelled within (Some messages) spells = on_reading within messages spells (first_refused 0 (map message_reading messages)) refl

  pub outcome_words : (o : Outcome ZoneRefusal) → (zone_outcome (Some apex) t ≡ o) ↔ CallsFor apex t o
  outcome_words o = (λ e. let some = some_call in subst (CallsFor apex t) (sym (called some.0 some.1) ∙ e) some.1, called o)

-- ---- words

pub zone_words : (words apex : List (List ℕ)) → (apex_of words ≡ Some apex) ↔ ((text : List ℕ) × (words ≡ codes "zone" ∷ text ∷ []) × (parsed_name text ≡ Ok apex))
zone_words words apex = (from words, λ (text, is, parsed). ap apex_of is ∙ ap result_ok parsed) where
  parsed : (r : Result (List (List ℕ)) NameParseError) → result_ok r ≡ Some apex → r ≡ Ok apex
  parsed (Ok name) e = cc
  parsed (Err error) e = absurd cc

  two : (word text : List ℕ) → apex_named word text ≡ Some apex → (name : List ℕ) × (word ∷ text ∷ [] ≡ codes "zone" ∷ name ∷ []) × (parsed_name name ≡ Ok apex)
  two word text e = by (bytes_eq word (codes "zone")) refl e where
    by : (b : Bool) → bytes_eq word (codes "zone") ≡ b → cond b (result_ok (parsed_name text)) None ≡ Some apex → (name : List ℕ) × (word ∷ text ∷ [] ≡ codes "zone" ∷ name ∷ []) × (parsed_name name ≡ Ok apex)
    by true is e = (text, ap (λ (l : List ℕ). l ∷ text ∷ []) ((bytes_decides word (codes "zone")).0 is), parsed (parsed_name text) e)
    by false is e = absurd cc

  from : (words : List (List ℕ)) → apex_of words ≡ Some apex → (text : List ℕ) × (words ≡ codes "zone" ∷ text ∷ []) × (parsed_name text ≡ Ok apex)
  from [] e = absurd cc
  from (word ∷ []) e = absurd cc
  from (word ∷ text ∷ []) e = two word text e
  from (word ∷ text ∷ other ∷ more) e = absurd cc
