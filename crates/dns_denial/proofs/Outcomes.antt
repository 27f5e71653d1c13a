-- The outcome that a text calls for, and what is printed for it.
use Rattle.std.proofs.Common.{◌≡◌, ℕ, ◌<◌, ◌≤◌, Bool, true, false, cond, inl, inr, List, length, Option, Some, None, Result, Ok, Err, refl, sym, ap, subst, ◌∙◌}
use Rattle.std.specs.Prelude.{◌↔◌, ◌⊎◌}
use Rattle.std.specs.Result.{IfErr, IsErrAnd}
use Rattle.std.proofs.lemmas.Bool.{cases_lt, le-ltb, lt-ltb}
use Rattle.std.proofs.lemmas.Option.{slice_get_cases, slice_get_past}
use Rattle.dns_text.specs.Hexadecimal.{Spells, SpellsNothing, spelled, trim}
use Rattle.dns_command.specs.Outcomes.{refused_or_done}
use Rattle.dns_command.specs.declared.outcome.Outcome.{Outcome}
use Rattle.dns_command.specs.declared.outcome.Outcome.TheVariants.{Done, Usage, TooLong, Refused, ReadFault, WriteFault, Memory}
use Rattle.dns_message.specs.Messages.{BadAt, Reading, RecordValue, message_reading, records_among}
use Rattle.dns_message.specs.Messages.Reading.{Short as TooShort, Stopped, Whole}
use Rattle.dns_message.specs.Order.{SortKey}
use Rattle.dns_message.specs.Same.{Same}
use Rattle.dns_message.proofs.CanonicalListSameness.{keys_from_same}
use Rattle.dns_message.proofs.OneReading.{three_kinds}
use Rattle.dns_message.proofs.Phrased.{short_reading}
use Rattle.dns_denial.specs.Coverage.{coverage_text}
use Rattle.dns_denial.specs.KeyTags.{key_tags_text}
use Rattle.dns_denial.specs.Signed.{DenialRefusal, labels_field, signature_refusal, signatures, signed_text}
use Rattle.dns_command.specs.Refusals.{reading_refusal, spelling_refusal}
use Rattle.dns_command.specs.Texts.{HasRecords}
use Rattle.dns_command.specs.declared.refusal.Refusal.TheVariants as refusal
use Rattle.dns_command.proofs.RefusalLemmas.{text_refusal}
use Rattle.dns_command.proofs.TextLemmas.{one_records}
use Rattle.dns_denial.specs.Texts.{HasTooManyLabels, LacksSignature, PrintsDenial, PrintsMembers, Suits, denial_outcome, denial_reads, denial_refusal, members, members_refusal, members_text, message_refusal}
use Rattle.dns_denial.specs.declared.refusal.DenialReason.TheVariants.{NoSignature, TooManyLabels}
use Rattle.dns_denial.specs.declared.words.DenialCommand.{DenialCommand}
use Rattle.dns_denial.specs.declared.words.DenialCommand.TheVariants.{Hash, Covers, Signed, KeyTags}

-- ---- errors

-- the error of a call is given back
pub refused_again : {T E : Type 0} (r : Result T E) (e : E) (P : E → Type 0) → IsErrAnd r (λ x. x ≡ e) → P e → IfErr r P
refused_again (Ok x) e P none p = absurd none
refused_again (Err x) e P is p = subst P (sym is) p

-- ---- records

-- what is printed for the members of one of two texts with the same records is printed for the other's
one_output : (f : List SortKey → List ℕ) (t u printed other : List ℕ) (rs ss : List RecordValue) → HasRecords t rs → HasRecords u ss → Same rs ss
    → (rs' : List RecordValue) × HasRecords t rs' × (printed ≡ f (members rs')) → (ss' : List RecordValue) × HasRecords u ss' × (other ≡ f (members ss')) → printed ≡ other
one_output f t u printed other rs ss first second same (rs', has, is) (ss', also, js) =
    is ∙ ap (λ (l : List RecordValue). f (members l)) (one_records t rs' rs has first) ∙ ap f (keys_from_same rs ss same)
    ∙ ap (λ (l : List RecordValue). f (members l)) (one_records u ss ss' second also) ∙ sym js

pub same_printed : (command : DenialCommand) (t u printed other : List ℕ) (rs ss : List RecordValue) → HasRecords t rs → HasRecords u ss → Same rs ss → PrintsDenial command t printed
    → PrintsDenial command u other → printed ≡ other
same_printed (Hash name salt iterations) t u printed other rs ss first second same is js = is ∙ sym js
same_printed (Covers name) t u printed other rs ss first second same prints also = one_output (coverage_text name) t u printed other rs ss first second same prints also
same_printed (Signed number) t u printed other rs ss first second same prints also = one_output (signed_text number) t u printed other rs ss first second same prints also
same_printed KeyTags t u printed other rs ss first second same prints also = one_output key_tags_text t u printed other rs ss first second same prints also

-- ---- what is asked of the members

pub suits_refusal : (command : DenialCommand) (records : List SortKey) → Suits command records → members_refusal command records ≡ None
suits_refusal (Hash name salt iterations) records suits = refl
suits_refusal (Covers name) records suits = refl
suits_refusal (Signed number) records (g, is, few) =
    ap signature_refusal is ∙ ap (λ (b : Bool). cond {A = Option DenialRefusal} b (Some (refusal.Own TooManyLabels)) None) (le-ltb (length g.owner) (labels_field g.octets) few)
suits_refusal KeyTags records suits = refl

pub many_refusal : (command : DenialCommand) (records : List SortKey) → HasTooManyLabels command records → members_refusal command records ≡ Some (refusal.Own TooManyLabels)
many_refusal (Hash name salt iterations) records none = absurd none
many_refusal (Covers name) records none = absurd none
many_refusal (Signed number) records (g, is, more) =
    ap signature_refusal is ∙ ap (λ (b : Bool). cond {A = Option DenialRefusal} b (Some (refusal.Own TooManyLabels)) None) (lt-ltb (length g.owner) (labels_field g.octets) more)
many_refusal KeyTags records none = absurd none

pub lacks_refusal : (command : DenialCommand) (records : List SortKey) → LacksSignature command records → members_refusal command records ≡ Some (refusal.Own NoSignature)
lacks_refusal (Hash name salt iterations) records none = absurd none
lacks_refusal (Covers name) records none = absurd none
lacks_refusal (Signed number) records few = ap signature_refusal (slice_get_past (signatures records) number few)
lacks_refusal KeyTags records none = absurd none

-- one of the three holds
one_holds : (command : DenialCommand) (records : List SortKey) → Suits command records ⊎ (HasTooManyLabels command records ⊎ LacksSignature command records)
one_holds (Hash name salt iterations) records = inl tt
one_holds (Covers name) records = inl tt
one_holds (Signed number) records = elim (slice_get_cases (signatures records) number).1 [
  | inl (g, within, is, at) ↦ elim (cases_lt (length g.owner) (labels_field g.octets)) [ inl more ↦ inr (inl (g, is, more)) | inr few ↦ inl (g, is, few) ]
  | inr (past, none) ↦ inr (inr past)
]
one_holds KeyTags records = inl tt

-- ---- in words

-- what calls for an outcome
abbrev pub CallsFor : DenialCommand → List ℕ → Outcome DenialRefusal → Type 0
CallsFor command t Done = (length t ≤ 131072) × ((rs : List RecordValue) × HasRecords t rs × Suits command (members rs))
CallsFor command t (Refused (refusal.Short message)) = (length t ≤ 131072) × ((m : List ℕ) × Spells t m × (length m < 12))
CallsFor command t (Refused (refusal.Item message section index)) = (length t ≤ 131072) × ((m : List ℕ) × Spells t m × BadAt m section index)
CallsFor command t (Refused refusal.BadHex) = (length t ≤ 131072) × SpellsNothing t
CallsFor command t (Refused (refusal.Own TooManyLabels)) = (length t ≤ 131072) × ((rs : List RecordValue) × HasRecords t rs × HasTooManyLabels command (members rs))
CallsFor command t (Refused (refusal.Own NoSignature)) = (length t ≤ 131072) × ((rs : List RecordValue) × HasRecords t rs × LacksSignature command (members rs))
CallsFor command t TooLong = 131072 < length t
CallsFor command t Usage = ⊥
CallsFor command t ReadFault = ⊥
CallsFor command t WriteFault = ⊥
CallsFor command t Memory = ⊥

-- why the text of a command that reads is refused
pub read_refusal : (command : DenialCommand) (t : List ℕ) → denial_reads command ≡ true → denial_refusal command t ≡ message_refusal (members_refusal command) t
read_refusal (Hash name salt iterations) t reads = absurd cc
read_refusal (Covers name) t reads = refl
read_refusal (Signed number) t reads = refl
read_refusal KeyTags t reads = refl

-- what is printed for it
pub read_prints : (command : DenialCommand) (t printed : List ℕ) → denial_reads command ≡ true → PrintsMembers (members_text command) t printed → PrintsDenial command t printed
read_prints (Hash name salt iterations) t printed reads prints = absurd cc
read_prints (Covers name) t printed reads prints = prints
read_prints (Signed number) t printed reads prints = prints
read_prints KeyTags t printed reads prints = prints

module _ (command : DenialCommand) (t : List ℕ) (reads : denial_reads command ≡ true) where
  -- why a valid message is refused
  abbrev of_message : List RecordValue → Option DenialRefusal
  of_message rs = members_refusal command (members rs)

  within_limit : (o : Option DenialRefusal) → length t ≤ 131072 → message_refusal (members_refusal command) t ≡ o → denial_outcome (Some command) t ≡ refused_or_done o
  within_limit o within is =
      ap (λ (b : Bool). cond {A = Outcome DenialRefusal} b TooLong (refused_or_done (denial_refusal command t))) (le-ltb 131072 (length t) within) ∙ ap refused_or_done (read_refusal command t reads ∙ is)

  on_message : (m : List ℕ) → Spells t m → (r : Reading) → message_reading m ≡ r → message_refusal (members_refusal command) t ≡ reading_refusal (record {}) of_message r
  on_message m spells r is = ap (spelling_refusal (record {}) of_message) spells ∙ ap (reading_refusal (record {}) of_message) is

  on_records : (rs : List RecordValue) → HasRecords t rs → message_refusal (members_refusal command) t ≡ members_refusal command (members rs)
  on_records rs has = text_refusal (record {}) of_message t rs has

  pub called : (o : Outcome DenialRefusal) → CallsFor command t o → denial_outcome (Some command) t ≡ o
  called Done (within, (rs, has, suits)) = within_limit None within (on_records rs has ∙ suits_refusal command (members rs) suits)
  called (Refused (refusal.Short message)) (within, (m, spells, short)) = within_limit (Some (refusal.Short (record {}))) within (on_message m spells TooShort (short_reading m short))
  called (Refused (refusal.Item message section index)) (within, (m, spells, (place, (items, is)))) =
      within_limit (Some (refusal.Item (record {}) section index)) within (on_message m spells (Stopped items section index place) is)
  called (Refused refusal.BadHex) (within, nothing) = within_limit (Some refusal.BadHex) within (ap (λ (o : Option (List ℕ)). spelling_refusal (record {}) of_message o) nothing)
  called (Refused (refusal.Own TooManyLabels)) (within, (rs, has, many)) = within_limit (Some (refusal.Own TooManyLabels)) within (on_records rs has ∙ many_refusal command (members rs) many)
  called (Refused (refusal.Own NoSignature)) (within, (rs, has, lacks)) = within_limit (Some (refusal.Own NoSignature)) within (on_records rs has ∙ lacks_refusal command (members rs) lacks)
  called TooLong long = ap (λ (b : Bool). cond {A = Outcome DenialRefusal} b TooLong (refused_or_done (denial_refusal command t))) (lt-ltb 131072 (length t) long)
  called Usage none = absurd none
  called ReadFault none = absurd none
  called WriteFault none = absurd none
  called Memory none = absurd none

  -- each text calls for an outcome
  some_call : (o : Outcome DenialRefusal) × CallsFor command t o
  some_call = elim (cases_lt 131072 (length t)) [ inl long ↦ (TooLong, long) | inr within ↦ on_spelled within (spelled (trim t)) refl ] where
    on_members : length t ≤ 131072 → (rs : List RecordValue) → HasRecords t rs → (o : Outcome DenialRefusal) × CallsFor command t o
    on_members within rs has = elim (one_holds command (members rs)) [
      | inl suits ↦ (Done, (within, (rs, has, suits)))
      | inr (inl many) ↦ (Refused (refusal.Own TooManyLabels), (within, (rs, has, many)))
      | inr (inr lacks) ↦ (Refused (refusal.Own NoSignature), (within, (rs, has, lacks)))
    ]

    on_reading : length t ≤ 131072 → (m : List ℕ) → Spells t m → (r : Reading) → message_reading m ≡ r → (o : Outcome DenialRefusal) × CallsFor command t o
    on_reading within m spells TooShort is = elim (three_kinds m) [
      | inl short ↦ (Refused (refusal.Short (record {})), (within, (m, spells, short)))
      | inr (inl (rs, (items, end, js, are))) ↦ (let clash = sym is ∙ js in absurd cc)
      | inr (inr (s, i, (place, (items, js)))) ↦ (let clash = sym is ∙ js in absurd cc)
    ]
    on_reading within m spells (Stopped items section index place) is = (Refused (refusal.Item (record {}) section index), (within, (m, spells, (place, (items, is)))))
    on_reading within m spells (Whole items end) is = on_members within (records_among items) (m, spells, (items, end, is, refl))

    on_spelled : length t ≤ 131072 → (o : Option (List ℕ)) → spelled (trim t) ≡ o → (o : Outcome DenialRefusal) × CallsFor command t o
    on_spelled within None nothing = (Refused refusal.BadHex, (within, nothing))
    on_spelled within (Some m) spells = on_reading within m spells (message_reading m) refl

-- for each command that reads
pub command_words : (command : DenialCommand) (t : List ℕ) (o : Outcome DenialRefusal) → denial_reads command ≡ true → (denial_outcome (Some command) t ≡ o) ↔ CallsFor command t o
command_words command t o reads = (λ e. let some = some_call command t reads in subst (CallsFor command t) (sym (called command t reads some.0 some.1) ∙ e) some.1, called command t reads o)

pub unread_done : (command : DenialCommand) (t : List ℕ) → denial_reads command ≡ false → length t ≤ 131072 → denial_outcome (Some command) t ≡ Done
unread_done (Hash name salt iterations) t reads within = ap (λ (b : Bool). cond {A = Outcome DenialRefusal} b TooLong Done) (le-ltb 131072 (length t) within)
unread_done (Covers name) t reads within = absurd cc
unread_done (Signed number) t reads within = absurd cc
unread_done KeyTags t reads within = absurd cc
