-- A message calls for one answer.
use Rattle.std.proofs.Common.{◌≡◌, ℕ, ◌⊎◌, inl, inr, List, refl}
use Rattle.dns_message.specs.Messages.{RecordValue, Valid}
use Rattle.dns_message.proofs.OneReading.{valid_not_short, stops_one, stops_not_short, stops_not_valid}
use Rattle.dns_message.specs.Refusals.{RefusedAs, RefusedOrMemory}
use Rattle.dns_message.specs.declared.canon_error.CanonError.{CanonError}
use Rattle.dns_message.specs.declared.canon_error.CanonError.TheVariants as error

pub refused_not_valid : (m : List ℕ) (rs : List RecordValue) (e : CanonError) → Valid m rs → RefusedAs m e → ⊥
refused_not_valid m rs error.Short valid h = valid_not_short m rs valid h
refused_not_valid m rs (error.Item s i) valid (p, stops) = stops_not_valid m s i p rs stops valid
refused_not_valid m rs error.Memory valid h = h

pub refused_or_memory : (m : List ℕ) (e : CanonError) → RefusedOrMemory m e → RefusedAs m e ⊎ (e ≡ error.Memory)
refused_or_memory m error.Short h = inl h
refused_or_memory m (error.Item s i) h = inl h
refused_or_memory m error.Memory h = inr refl

pub refused_one : (m : List ℕ) (e f : CanonError) → RefusedAs m e → RefusedAs m f → e ≡ f
refused_one m error.Short error.Short h g = refl
refused_one m error.Short (error.Item s i) h (p, stops) = absurd (stops_not_short m s i p stops h)
refused_one m (error.Item s i) error.Short (p, stops) g = absurd (stops_not_short m s i p stops g)
refused_one m (error.Item s i) (error.Item t j) (p, stops) (q, others) =
    let same = stops_one m s i p t j q stops others in λ k. error.Item (same.0 k) (same.1 k)
refused_one m error.Memory f h g = absurd h
refused_one m e error.Memory h g = absurd g

-- a refusal of a valid message
pub memory_alone : (m : List ℕ) (rs : List RecordValue) (e : CanonError) → Valid m rs → RefusedOrMemory m e → e ≡ error.Memory
memory_alone m rs e valid h = elim (refused_or_memory m e h) [ inl refused ↦ absurd (refused_not_valid m rs e valid refused) | inr memory ↦ memory ]

-- a refusal if the message is to be refused
pub that_or_memory : (m : List ℕ) (e f : CanonError) → RefusedOrMemory m e → RefusedAs m f → (e ≡ f) ⊎ (e ≡ error.Memory)
that_or_memory m e f h g = elim (refused_or_memory m e h) [ inl refused ↦ inl (refused_one m e f refused g) | inr memory ↦ inr memory ]
