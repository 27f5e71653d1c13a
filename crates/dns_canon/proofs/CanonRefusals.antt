-- Why a text is refused.
use Rattle.std.proofs.Common.{◌≡◌, ℕ, List, [], ◌∷◌, Option, Some, None, refl, sym, ap, ◌∙◌}
use Rattle.dns_text.specs.Hexadecimal.{Spells, spelled, trim}
use Rattle.dns_message.specs.Messages.{Reading, RecordValue, Valid, message_reading}
use Rattle.dns_message.specs.Refusals.{RefusedOrMemory, first_refused}
use Rattle.dns_message.specs.declared.canon_error.CanonError.{CanonError}
use Rattle.dns_message.specs.declared.canon_error.CanonError.TheVariants as canon
use Rattle.dns_message.proofs.Phrased.{short_reading}
use Rattle.dns_command.specs.Outcomes.{RefusesFor}
use Rattle.dns_command.specs.Refusals.{message_error, on_first}
use Rattle.dns_canon.specs.ExpectedStatus.{canon_refusal}
use Rattle.dns_canon.specs.Parts.{first_text, second_text}
use Rattle.dns_canon.specs.Statuses.{CanonRefusal}
use Rattle.dns_canon.specs.declared.words.Command.TheVariants.{Canon, Same}

-- the refusal of messages that are read so
abbrev of_readings : List Reading → Option CanonRefusal
of_readings readings = on_first (first_refused 0 readings)

-- what a text spells, by other words for the text and for the octets
pub spelled_there : (text other m octets : List ℕ) → other ≡ text → octets ≡ m → Spells other m → Spells text octets
spelled_there text other m octets is octets-is spells = ap spelled (ap trim (sym is)) ∙ spells ∙ ap Some (sym octets-is)

-- ---- one message

on_one : (t m : List ℕ) → Spells t m → canon_refusal Canon t ≡ of_readings (message_reading m ∷ [])
on_one t m spells = rw spells refl

pub one_refused : (t m : List ℕ) (error : CanonError) → Spells t m → RefusedOrMemory m error → RefusesFor (canon_refusal Canon t) (message_error 0 error)
one_refused t m canon.Short spells few = on_one t m spells ∙ ap (λ r. of_readings (r ∷ [])) (short_reading m few)
one_refused t m (canon.Item section index) spells (place, (items, is)) = on_one t m spells ∙ ap (λ r. of_readings (r ∷ [])) is
one_refused t m canon.Memory spells none = tt

-- ---- two messages

module _ (t m n : List ℕ) (first : Spells (first_text t) m) (second : Spells (second_text t) n) where
  on_both : canon_refusal Same t ≡ of_readings (message_reading m ∷ message_reading n ∷ [])
  on_both = rw first (rw second refl)

  pub first_of_two_refused : (error : CanonError) → RefusedOrMemory m error → RefusesFor (canon_refusal Same t) (message_error 0 error)
  first_of_two_refused canon.Short few = on_both ∙ ap (λ r. of_readings (r ∷ message_reading n ∷ [])) (short_reading m few)
  first_of_two_refused (canon.Item section index) (place, (items, is)) = on_both ∙ ap (λ r. of_readings (r ∷ message_reading n ∷ [])) is
  first_of_two_refused canon.Memory none = tt

  pub second_of_two_refused : (rs : List RecordValue) (error : CanonError) → Valid m rs → RefusedOrMemory n error → RefusesFor (canon_refusal Same t) (message_error 1 error)
  second_of_two_refused rs canon.Short (items, end, is, are) few = on_both ∙ ap (λ r. of_readings (r ∷ message_reading n ∷ [])) is ∙ ap (λ r. on_first (first_refused 1 (r ∷ []))) (short_reading n few)
  second_of_two_refused rs (canon.Item section index) (items, end, is, are) (place, (others, also)) = on_both ∙ ap (λ r. of_readings (r ∷ message_reading n ∷ [])) is ∙ ap (λ r. on_first (first_refused 1 (r ∷ []))) also
  second_of_two_refused rs canon.Memory valid none = tt

  pub both_accepted : (rs ss : List RecordValue) → Valid m rs → Valid n ss → canon_refusal Same t ≡ None
  both_accepted rs ss (items, end, is, are) (others, last, also, those) = on_both ∙ ap (λ r. of_readings (r ∷ message_reading n ∷ [])) is ∙ ap (λ r. on_first (first_refused 1 (r ∷ []))) also
