-- What the number for two messages says.
use Rattle.std.proofs.Common.{◌≡◌, ℕ, Bool, true, false, List, inl, inr, refl, sym, ◌∙◌}
use Rattle.std.specs.Prelude.{◌↔◌}
use Rattle.dns_wire.specs.Reading.{AreOctets}
use Rattle.dns_message.specs.Messages.{RecordValue, Valid}
use Rattle.dns_message.specs.Order.{canonical_list}
use Rattle.dns_message.specs.Same.{Same}
use Rattle.dns_message.proofs.CanonicalListSameness.{message_outputs}
use Rattle.nelgvasti.specs.Calls.{SaysWhether}
use mir.Val.{bool_byte}

-- the canonical lists of messages are the same exactly if the messages have the same records
pub says_same : (m n : List ℕ) (rs ss : List RecordValue) (lists others : List (List ℕ)) (same : Bool) (number : ℕ) → AreOctets m → AreOctets n → Valid m rs → Valid n ss
    → lists ≡ canonical_list rs → others ≡ canonical_list ss → (same ≡ true) ↔ (lists ≡ others) → number ≡ bool_byte same → SaysWhether (Same rs ss) number
says_same m n rs ss lists others same number are also valid too listed listed-too tested is = by same tested is where
  equal : (canonical_list rs ≡ canonical_list ss) ↔ Same rs ss
  equal = message_outputs m n rs ss are also valid too

  by : (same : Bool) → (same ≡ true) ↔ (lists ≡ others) → number ≡ bool_byte same → SaysWhether (Same rs ss) number
  by true tested is = inl (is, equal.0 (sym listed ∙ tested.0 refl ∙ listed-too))
  by false tested is = inr (is, λ s. (let clash = tested.1 (listed ∙ equal.1 s ∙ sym listed-too) in absurd cc))
