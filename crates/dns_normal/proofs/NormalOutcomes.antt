-- The outcome that a text calls for, and what is printed for it.
use Rattle.std.proofs.Common.{◌≡◌, ℕ, ◌<◌, ◌≤◌, Bool, true, false, cond, inl, inr, List, [], ◌∷◌, length, Option, Some, None, refl, sym, ap, subst, ◌∙◌, arith}
use Rattle.std.specs.Prelude.{◌↔◌, bytes_eq, codes, ⊤}
use Rattle.std.specs.List.{All}
use Rattle.std.specs.Cmp.Lexicographic.{bytes_decides}
use Rattle.std.proofs.lemmas.Bool.{cases_lt, le-ltb, lt-ltb}
use Rattle.dns_text.specs.Hexadecimal.{Spells, SpellsNothing, line, spelled, trim}
use Rattle.dns_command.specs.Outcomes.{refused_or_done}
use Rattle.dns_command.specs.declared.outcome.Outcome.{Outcome}
use Rattle.dns_command.specs.declared.outcome.Outcome.TheVariants.{Done, Usage, TooLong, Refused, ReadFault, WriteFault, Memory}
use Rattle.dns_message.specs.Messages.{BadAt, Reading, RecordValue, message_reading, records_among}
use Rattle.dns_message.specs.Messages.Reading.{Short as TooShort, Stopped, Whole}
use Rattle.dns_message.specs.Same.{Same}
use Rattle.dns_message.specs.WellFormed.{WellFormed}
use Rattle.dns_message.proofs.OneReading.{three_kinds}
use Rattle.dns_message.proofs.Phrased.{short_reading}
use Rattle.dns_normal.specs.Normal.{normal_form}
use Rattle.dns_command.specs.Texts.{HasRecords}
use Rattle.dns_command.proofs.TextLemmas.{one_records, text_well}
use Rattle.dns_normal.specs.Texts.{NormalRefusal, PrintsNormal, command_of, form_refusal, normal_outcome, normal_refusal, size_refusal}
use Rattle.dns_command.specs.Refusals.{reading_refusal, spelling_refusal}
use Rattle.dns_command.specs.declared.refusal.Refusal.{Refusal}
use Rattle.dns_command.specs.declared.refusal.Refusal.TheVariants as refusal
use Rattle.dns_command.proofs.RefusalLemmas.{text_refusal}
use Rattle.dns_normal.specs.declared.refusal.NormalReason.TheVariants.{TooLarge}
use Rattle.dns_normal.proofs.NormalForms.{normal_octets, normal_read, same_normal}
use Rattle.dns_normal.proofs.NormalTexts.{line_back, line_long}

-- ---- refusals of messages

pub accepted_size : (m : List ℕ) → length m ≤ 65535 → size_refusal m ≡ None
accepted_size m short = ap (λ (b : Bool). cond b (Some (refusal.Own TooLarge)) None) (le-ltb 65535 (length m) short)

pub refused_size : (m : List ℕ) → 65535 < length m → size_refusal m ≡ Some (refusal.Own TooLarge)
refused_size m long = ap (λ (b : Bool). cond b (Some (refusal.Own TooLarge)) None) (lt-ltb 65535 (length m) long)

-- ---- records

pub same_printed : (t u printed other : List ℕ) (rs ss : List RecordValue) → HasRecords t rs → HasRecords u ss → Same rs ss → PrintsNormal tt t printed → PrintsNormal tt u other → printed ≡ other
same_printed t u printed other rs ss first second same (rs', has, is) (ss', also, js) =
    is ∙ ap (λ (l : List RecordValue). line (normal_form l)) (one_records t rs' rs has first) ∙ ap line (same_normal rs ss (text_well t rs first) (text_well u ss second) same)
    ∙ ap (λ (l : List RecordValue). line (normal_form l)) (one_records u ss ss' second also) ∙ sym js

-- ---- in words

-- what calls for an outcome
abbrev pub CallsFor : List ℕ → Outcome NormalRefusal → Type 0
CallsFor t Done = (length t ≤ 131072) × ((rs : List RecordValue) × HasRecords t rs × (length (normal_form rs) ≤ 65535))
CallsFor t (Refused (refusal.Own TooLarge)) = (length t ≤ 131072) × ((rs : List RecordValue) × HasRecords t rs × (65535 < length (normal_form rs)))
CallsFor t (Refused (refusal.Short message)) = (length t ≤ 131072) × ((m : List ℕ) × Spells t m × (length m < 12))
CallsFor t (Refused (refusal.Item message section index)) = (length t ≤ 131072) × ((m : List ℕ) × Spells t m × BadAt m section index)
CallsFor t (Refused refusal.BadHex) = (length t ≤ 131072) × SpellsNothing t
CallsFor t TooLong = 131072 < length t
CallsFor t Usage = ⊥
CallsFor t ReadFault = ⊥
CallsFor t WriteFault = ⊥
CallsFor t Memory = ⊥

module _ (t : List ℕ) where
  within_limit : length t ≤ 131072 → normal_outcome (Some tt) t ≡ refused_or_done (normal_refusal tt t)
  within_limit within = ap (λ (b : Bool). cond b TooLong (refused_or_done (normal_refusal tt t))) (le-ltb 131072 (length t) within)

  on_message : (m : List ℕ) → Spells t m → (r : Reading) → message_reading m ≡ r → normal_refusal tt t ≡ reading_refusal (record {}) form_refusal r
  on_message m spells r is = ap (spelling_refusal (record {}) form_refusal) spells ∙ ap (reading_refusal (record {}) form_refusal) is

  on_records : (rs : List RecordValue) → HasRecords t rs → normal_refusal tt t ≡ size_refusal (normal_form rs)
  on_records rs has = text_refusal (record {}) form_refusal t rs has

  pub called : (o : Outcome NormalRefusal) → CallsFor t o → normal_outcome (Some tt) t ≡ o
  called Done (within, (rs, has, short)) = within_limit within ∙ ap refused_or_done (on_records rs has ∙ accepted_size (normal_form rs) short)
  called (Refused (refusal.Own TooLarge)) (within, (rs, has, long)) = within_limit within ∙ ap refused_or_done (on_records rs has ∙ refused_size (normal_form rs) long)
  called (Refused (refusal.Short message)) (within, (m, spells, short)) = within_limit within ∙ ap refused_or_done (on_message m spells TooShort (short_reading m short))
  called (Refused (refusal.Item message section index)) (within, (m, spells, (place, (items, is)))) = within_limit within ∙ ap refused_or_done (on_message m spells (Stopped items section index place) is)
  called (Refused refusal.BadHex) (within, nothing) = within_limit within ∙ ap (λ (o : Option (List ℕ)). refused_or_done (spelling_refusal (record {}) form_refusal o)) nothing
  called TooLong long = ap (λ (b : Bool). cond b TooLong (refused_or_done (normal_refusal tt t))) (lt-ltb 131072 (length t) long)
  called Usage none = absurd none
  called ReadFault none = absurd none
  called WriteFault none = absurd none
  called Memory none = absurd none

  -- each text calls for an outcome
  some_call : (o : Outcome NormalRefusal) × CallsFor t o
  some_call = elim (cases_lt 131072 (length t)) [ inl long ↦ (TooLong, long) | inr within ↦ on_spelled within (spelled (trim t)) refl ] where
    on_reading : length t ≤ 131072 → (m : List ℕ) → Spells t m → (r : Reading) → message_reading m ≡ r → (o : Outcome NormalRefusal) × CallsFor t o
    on_reading within m spells TooShort is = elim (three_kinds m) [
      | inl short ↦ (Refused (refusal.Short (record {})), (within, (m, spells, short)))
      | inr (inl (rs, (items, end, js, are))) ↦ (let clash = sym is ∙ js in absurd cc)
      | inr (inr (s, i, (place, (items, js)))) ↦ (let clash = sym is ∙ js in absurd cc)
    ]
    on_reading within m spells (Stopped items section index place) is = (Refused (refusal.Item (record {}) section index), (within, (m, spells, (place, (items, is)))))
    on_reading within m spells (Whole items end) is = elim (cases_lt 65535 (length (normal_form (records_among items)))) [
      | inl long ↦ (Refused (refusal.Own TooLarge), (within, (records_among items, (m, spells, (items, end, is, refl)), long)))
      | inr short ↦ (Done, (within, (records_among items, (m, spells, (items, end, is, refl)), short)))
    ]

    on_spelled : length t ≤ 131072 → (o : Option (List ℕ)) → spelled (trim t) ≡ o → (o : Outcome NormalRefusal) × CallsFor t o
    on_spelled within None nothing = (Refused refusal.BadHex, (within, nothing))
    on_spelled within (Some m) spells = on_reading within m spells (message_reading m) refl

  pub outcome_words : (o : Outcome NormalRefusal) → (normal_outcome (Some tt) t ≡ o) ↔ CallsFor t o
  outcome_words o = (λ e. let some = some_call in subst (CallsFor t) (sym (called some.0 some.1) ∙ e) some.1, called o)

-- ---- what is printed, as a text

module _ (t printed : List ℕ) (done : normal_outcome (Some tt) t ≡ Done) (prints : PrintsNormal tt t printed) where
  short : length (normal_form prints.0) ≤ 65535
  short =
      let calls = (outcome_words t Done).0 done in
      subst (λ (l : List RecordValue). length (normal_form l) ≤ 65535) (one_records t calls.1.0 prints.0 calls.1.1 prints.1) calls.1.2

  well : All WellFormed prints.0
  well = text_well t prints.0 prints.1

  -- the records of what is printed
  pub printed_records : (ss : List RecordValue) × HasRecords printed ss × (normal_form ss ≡ normal_form prints.0)
  printed_records =
      let read = normal_read prints.0 well short in
      let spells : Spells printed (normal_form prints.0) = subst (λ (l : List ℕ). Spells l (normal_form prints.0)) (sym prints.2) (line_back (normal_form prints.0) (normal_octets prints.0 well)) in
      (read.0, (normal_form prints.0, spells, read.1), read.4)

  pub printed_accepted : normal_outcome (Some tt) printed ≡ Done
  printed_accepted =
      let found = printed_records in
      let few : length (normal_form found.0) ≤ 65535 = subst (λ (m : List ℕ). length m ≤ 65535) (sym found.2) short in
      called printed Done (omega (arith, short, ap length prints.2, line_long (normal_form prints.0)), (found.0, found.1, few))

  pub printed_itself : (other : List ℕ) → PrintsNormal tt printed other → other ≡ printed
  printed_itself other (ss, has, is) =
      let found = printed_records in
      is ∙ ap (λ (l : List RecordValue). line (normal_form l)) (one_records printed ss found.0 has found.1) ∙ ap line found.2 ∙ sym prints.2

-- ---- words

pub normal_words : (words : List (List ℕ)) → (command_of words ≡ Some tt) ↔ (words ≡ codes "normal" ∷ [])
normal_words words = (from words, λ is. ap command_of is) where
  from : (words : List (List ℕ)) → command_of words ≡ Some tt → words ≡ codes "normal" ∷ []
  from [] e = absurd cc
  from (word ∷ []) e = by (bytes_eq word (codes "normal")) refl e where
    by : (b : Bool) → bytes_eq word (codes "normal") ≡ b → ◌≡◌ {A = Option ⊤} (cond b (Some tt) None) (Some tt) → word ∷ [] ≡ codes "normal" ∷ []
    by true is e = ap (λ (w : List ℕ). w ∷ []) ((bytes_decides word (codes "normal")).0 is)
    by false is e = absurd cc
  from (word ∷ other ∷ more) e = absurd cc
