-- What equal canonical lists say of two messages.
use Rattle.std.proofs.Common.{◌≡◌, ℕ, ◌⊎◌, inl, inr, Bool, true, false, List, [], ◌∷◌, ◌++◌, codes, refl, sym, ◌∙◌, subst}
use Rattle.std.specs.Prelude.{◌↔◌}
use Rattle.dns_text.specs.Hexadecimal.{Spells, trim}
use Rattle.dns_message.specs.Messages.{RecordValue, Valid}
use Rattle.dns_message.specs.Same.{Same}
use Rattle.dns_text.proofs.HexadecimalLemmas.{spelled_octets}
use Rattle.dns_message.proofs.CanonicalListSameness.{message_outputs}
use Rattle.dns_message.proofs.OneReading.{valid_one}
use Rattle.dns_message.specs.Order.{canonical_list}
use Rattle.dns_canon.specs.Parts.{first_text, second_text}
use Rattle.dns_canon.specs.Run.{Prints, ReportsSameness}
use Rattle.dns_canon.specs.declared.words.Command.TheVariants as command

-- ---- what is reported

-- the word for whether the canonical lists of two messages are the same
pub reported : (t u m n : List ℕ) (rs ss : List RecordValue) (lists others : List (List ℕ)) (same : Bool) (printed : List ℕ) → Spells t m → Spells u n → Valid m rs → Valid n ss
    → lists ≡ canonical_list rs → others ≡ canonical_list ss → (same ≡ true) ↔ (lists ≡ others) → (same ≡ true → printed ≡ codes "same" ++ 10 ∷ []) → (same ≡ false → printed ≡ codes "different" ++ 10 ∷ [])
    → ReportsSameness rs ss printed
reported t u m n rs ss lists others same printed first second valid also listed listed-too tested is_same is_different = by same tested is_same is_different where
  equal : (canonical_list rs ≡ canonical_list ss) ↔ Same rs ss
  equal = message_outputs m n rs ss (spelled_octets (trim t) m first) (spelled_octets (trim u) n second) valid also

  by : (same : Bool) → (same ≡ true) ↔ (lists ≡ others) → (same ≡ true → printed ≡ codes "same" ++ 10 ∷ []) → (same ≡ false → printed ≡ codes "different" ++ 10 ∷ []) → ReportsSameness rs ss printed
  by true tested is_same is_different = inl (equal.0 (sym listed ∙ tested.0 refl ∙ listed-too), is_same refl)
  by false tested is_same is_different = inr (λ s. (let clash = tested.1 (listed ∙ equal.1 s ∙ sym listed-too) in absurd cc), is_different refl)

-- ---- in words

-- what is printed is the line on the records of the messages that the parts spell
says : (t m n : List ℕ) (rs ss : List RecordValue) (printed : List ℕ) → Spells (first_text t) m → Spells (second_text t) n → Valid m rs → Valid n ss → Prints command.Same t printed
    → ReportsSameness rs ss printed
says t m n rs ss printed first second valid also (m', n', rs', ss', first', second', valid', also', line) =
    let m-is : m' ≡ m = let e = sym first' ∙ first in cc in
    let n-is : n' ≡ n = let e = sym second' ∙ second in cc in
    let rs-is : rs' ≡ rs = valid_one m rs' rs (subst (λ (l : List ℕ). Valid l rs') m-is valid') valid in
    let ss-is : ss' ≡ ss = valid_one n ss' ss (subst (λ (l : List ℕ). Valid l ss') n-is also') also in
    subst (λ (l : List RecordValue). ReportsSameness l ss printed) rs-is (subst (λ (l : List RecordValue). ReportsSameness rs' l printed) ss-is line)

pub prints_same : (t m n : List ℕ) (rs ss : List RecordValue) → Spells (first_text t) m → Spells (second_text t) n → Valid m rs → Valid n ss → Prints command.Same t (codes "same" ++ 10 ∷ []) ↔ Same rs ss
prints_same t m n rs ss first second valid also = (
  λ prints. from (says t m n rs ss (codes "same" ++ 10 ∷ []) first second valid also prints),
  λ same. (m, n, rs, ss, first, second, valid, also, inl (same, refl)),
) where
  from : ReportsSameness rs ss (codes "same" ++ 10 ∷ []) → Same rs ss
  from (inl (same, e)) = same
  from (inr (other, e)) = absurd cc

pub prints_different : (t m n : List ℕ) (rs ss : List RecordValue) → Spells (first_text t) m → Spells (second_text t) n → Valid m rs → Valid n ss
    → Prints command.Same t (codes "different" ++ 10 ∷ []) ↔ (¬ Same rs ss)
prints_different t m n rs ss first second valid also = (
  λ prints. from (says t m n rs ss (codes "different" ++ 10 ∷ []) first second valid also prints),
  λ other. (m, n, rs, ss, first, second, valid, also, inr (other, refl)),
) where
  from : ReportsSameness rs ss (codes "different" ++ 10 ∷ []) → ¬ Same rs ss
  from (inl (same, e)) = absurd cc
  from (inr (other, e)) = other

pub prints_a_word : (t printed : List ℕ) → Prints command.Same t printed → (printed ≡ codes "same" ++ 10 ∷ []) ⊎ (printed ≡ codes "different" ++ 10 ∷ [])
prints_a_word t printed (m, n, rs, ss, first, second, valid, also, line) = from line where
  from : ReportsSameness rs ss printed → (printed ≡ codes "same" ++ 10 ∷ []) ⊎ (printed ≡ codes "different" ++ 10 ∷ [])
  from (inl (same, e)) = inl e
  from (inr (other, e)) = inr e
