-- The answers to messages by what they are read as.
use Rattle.std.proofs.Common.{◌≡◌, ◌<◌, ℕ, Bool, true, false, cond, List, ◌∷◌, ◌++◌, length, Option, Some, None, inl, inr, refl, sym, ap, ◌∙◌, arith}
use Rattle.dns_message.specs.Messages.{BadAt, Reading, RecordValue, ValidBy, message_by, message_reading}
use Rattle.dns_record.specs.FurtherFormats.{DataReading}
use Rattle.dns_message.specs.Messages.Reading.{Short as TooShort, Stopped, Whole}
use Rattle.dns_message.specs.Refusals.{RefusedAs, RefusedByOrMemory, RefusedOrMemory}
use Rattle.dns_message.specs.Several.{AreValid, IsFirstRefused}
use Rattle.dns_message.specs.declared.canon_error.CanonError.{CanonError}
use Rattle.dns_message.specs.declared.canon_error.CanonError.TheVariants.{Short, Item, Memory}
use Rattle.dns_message.proofs.OneReading.{three_kinds}
use Rattle.dns_message.proofs.Phrased.{short_reading_by}
use Rattle.dns_normal.specs.Texts.{NormalRefusal, form_refusal}
use Rattle.dns_command.specs.Refusals.{reading_refusal}
use Rattle.dns_command.specs.declared.refusal.Refusal.TheVariants as normal
use Rattle.dns_normal.specs.declared.refusal.NormalReason.TheVariants.{TooLarge}
use Rattle.dns_command.specs.Outcomes.{RefusesFor}
use Rattle.dns_command.specs.declared.outcome.PrintError.{PrintError}
use Rattle.dns_command.specs.declared.outcome.PrintError.TheVariants as print
use Rattle.nelgvasti.specs.Calls.{AnswersOrMemory, reading_answer}
use Rattle.nelgvasti.specs.Refused.{answer_of, form_answer, form_position, message_position, position_of}
use Rattle.nelgvasti.specs.declared.answers.TheConstants.{SHORT, ITEM}
use Rattle.nelgvasti.specs.declared.item_position.ItemPosition.{ItemPosition}

module _ (reads : DataReading) (answer : List RecordValue → ℕ) (m : List ℕ) where
  pub valid_answer : (rs : List RecordValue) → ValidBy reads m rs → reading_answer answer (message_by reads m) ≡ answer rs
  valid_answer rs (items, end, is, rs-is) = ap (reading_answer answer) is ∙ ap answer (sym rs-is)

  pub refused_answer : (error : CanonError) → RefusedByOrMemory reads m error → AnswersOrMemory (reading_answer answer (message_by reads m)) (answer_of error)
  refused_answer Short few = inl (sym (ap (reading_answer answer) (short_reading_by reads m few)))
  refused_answer (Item section index) (place, (items, is)) = inl (sym (ap (reading_answer answer) is))
  refused_answer Memory none = inr refl

-- ---- several messages

module _ (before : List (List ℕ)) (rss : List (List RecordValue)) (m : List ℕ) (after : List (List ℕ)) (valid : AreValid before rss) where
  first_refusal : (number : ℕ) → number ≡ length before → (error : CanonError) → RefusedAs m error → IsFirstRefused (before ++ m ∷ after) number error
  first_refusal number number-is error refused = record { before = before; message = m; after = after; occurs = refl; place = sym number-is; records = rss; valid = valid; refused = refused }

  -- what the answer to a refusal says of the messages, and the position
  pub short_refusal : (error : CanonError) (answer : ℕ) (old new : ItemPosition) → RefusedOrMemory m error → answer ≡ answer_of error → new ≡ position_of error (length before) old → answer ≡ SHORT
      → IsFirstRefused (before ++ m ∷ after) new.message Short × (new ≡ message_position new.message)
  short_refusal Short answer old new few answer-is new-is is =
      let number : new.message ≡ length before = ap (λ (p : ItemPosition). p.message) new-is in
      (first_refusal new.message number Short few, new-is ∙ ap message_position (sym number))
  short_refusal (Item section index) answer old new bad answer-is new-is is = absurd (omega (arith, answer-is, is))
  short_refusal Memory answer old new none answer-is new-is is = absurd (omega (arith, answer-is, is))

  pub item_refusal : (error : CanonError) (answer : ℕ) (old new : ItemPosition) → RefusedOrMemory m error → answer ≡ answer_of error → new ≡ position_of error (length before) old → answer ≡ ITEM
      → IsFirstRefused (before ++ m ∷ after) new.message (Item new.section new.index)
  item_refusal Short answer old new few answer-is new-is is = absurd (omega (arith, answer-is, is))
  item_refusal (Item section index) answer old new bad answer-is new-is is =
      let section-is : new.section ≡ section = ap (λ (p : ItemPosition). p.section) new-is in
      let index-is : new.index ≡ index = ap (λ (p : ItemPosition). p.index) new-is in
      first_refusal new.message (ap (λ (p : ItemPosition). p.message) new-is) (Item new.section new.index) (rw (section-is, index-is) bad)
  item_refusal Memory answer old new none answer-is new-is is = absurd (omega (arith, answer-is, is))

-- ---- normal forms

not_too_short : (m : List ℕ) → message_reading m ≡ TooShort → length m < 12
not_too_short m is = elim (three_kinds m) [
  | inl few ↦ few
  | inr (inl (rs, (items, end, whole, rs-is))) ↦ (let clash = sym is ∙ whole in absurd cc)
  | inr (inr (s, i, (p, (items, stops)))) ↦ (let clash = sym is ∙ stops in absurd cc)
]

short_form : (m : List ℕ) → reading_refusal (record {}) form_refusal (message_reading m) ≡ Some (normal.Short (record {})) → length m < 12
short_form m e = by (message_reading m) refl e where
  size : (b : Bool) → cond {A = Option NormalRefusal} b (Some (normal.Own TooLarge)) None ≡ Some (normal.Short (record {})) → ⊥
  size true e = cc
  size false e = cc

  by : (reading : Reading) → message_reading m ≡ reading → reading_refusal (record {}) form_refusal reading ≡ Some (normal.Short (record {})) → length m < 12
  by TooShort is e = not_too_short m is
  by (Stopped items section index place) is e = absurd cc
  by (Whole items end) is e = absurd (size _ e)

bad_form : (m : List ℕ) (section index : ℕ) → reading_refusal (record {}) form_refusal (message_reading m) ≡ Some (normal.Item (record {}) section index) → BadAt m section index
bad_form m section index e = by (message_reading m) refl e where
  size : (b : Bool) → cond {A = Option NormalRefusal} b (Some (normal.Own TooLarge)) None ≡ Some (normal.Item (record {}) section index) → ⊥
  size true e = cc
  size false e = cc

  by : (reading : Reading) → message_reading m ≡ reading → reading_refusal (record {}) form_refusal reading ≡ Some (normal.Item (record {}) section index) → BadAt m section index
  by TooShort is e = absurd cc
  by (Stopped items s i place) is e =
      let section-is : s ≡ section = cc in
      let index-is : i ≡ index = cc in
      rw (← section-is, ← index-is) (place, (items, is))
  by (Whole items end) is e = absurd (size _ e)

-- what the answer to a refusal says of the message, and the position
pub form_short : (m : List ℕ) (error : PrintError NormalRefusal) (answer : ℕ) (old new : ItemPosition) → RefusesFor (reading_refusal (record {}) form_refusal (message_reading m)) error → answer ≡ form_answer error → new ≡ form_position error old
    → answer ≡ SHORT → (length m < 12) × (new ≡ message_position 0)
form_short m (print.Refused normal.BadHex) answer old new refused answer-is new-is is = absurd (omega (arith, answer-is, is))
form_short m (print.Refused (normal.Short message)) answer old new refused answer-is new-is is = (short_form m refused, new-is)
form_short m (print.Refused (normal.Item message section index)) answer old new refused answer-is new-is is = absurd (omega (arith, answer-is, is))
form_short m (print.Refused (normal.Own TooLarge)) answer old new refused answer-is new-is is = absurd (omega (arith, answer-is, is))
form_short m print.Memory answer old new refused answer-is new-is is = absurd (omega (arith, answer-is, is))

pub form_item : (m : List ℕ) (error : PrintError NormalRefusal) (answer : ℕ) (old new : ItemPosition) → RefusesFor (reading_refusal (record {}) form_refusal (message_reading m)) error → answer ≡ form_answer error → new ≡ form_position error old
    → answer ≡ ITEM → BadAt m new.section new.index × (new.message ≡ 0)
form_item m (print.Refused normal.BadHex) answer old new refused answer-is new-is is = absurd (omega (arith, answer-is, is))
form_item m (print.Refused (normal.Short message)) answer old new refused answer-is new-is is = absurd (omega (arith, answer-is, is))
form_item m (print.Refused (normal.Item message section index)) answer old new refused answer-is new-is is =
    let section-is : new.section ≡ section = ap (λ (p : ItemPosition). p.section) new-is in
    let index-is : new.index ≡ index = ap (λ (p : ItemPosition). p.index) new-is in
    (rw (section-is, index-is) (bad_form m section index refused), ap (λ (p : ItemPosition). p.message) new-is)
form_item m (print.Refused (normal.Own TooLarge)) answer old new refused answer-is new-is is = absurd (omega (arith, answer-is, is))
form_item m print.Memory answer old new refused answer-is new-is is = absurd (omega (arith, answer-is, is))
