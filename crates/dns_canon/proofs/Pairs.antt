-- The expected status on the text of two messages.
use Rattle.std.proofs.Common.{◌≡◌, ℕ, ◌<◌, ◌≤◌, ◌⊎◌, inl, inr, false, true, ltb, List, [], ◌∷◌, length, Option, Some, None, refl, sym, ap, subst, ◌∙◌}
use Rattle.std.specs.Prelude.{◌↔◌}
use Rattle.std.proofs.lemmas.Bool.{cases_lt, le-ltb, lt-ltb}
use Rattle.dns_text.specs.Hexadecimal.{SpellsNothing, spelled, trim}
use Rattle.dns_wire.specs.Steps.{◌>>=◌}
use Rattle.dns_message.specs.Messages.{RecordValue, Valid, BadAt, message_reading}
use Rattle.dns_message.proofs.OneReading.{three_kinds}
use Rattle.dns_message.proofs.Phrased.{short_reading}
use Rattle.dns_text.specs.Spelled.{all_spelled}
use Rattle.dns_canon.specs.Parts.{first_text, second_text}
use Rattle.dns_canon.specs.ExpectedStatus.{expected_status, first_refusal, on_messages, SpellsBoth}
use Rattle.dns_message.specs.declared.canon_error.CanonError.{CanonError}
use Rattle.dns_message.specs.declared.canon_error.CanonError.TheVariants as canon
use Rattle.dns_canon.specs.declared.status.Status.{Status}
use Rattle.dns_canon.specs.declared.status.Status.TheVariants.{Done, Short, Item, BadHex, TooLong, Usage, ReadFault, WriteFault, Memory}
use Rattle.dns_canon.specs.declared.words.Command.TheVariants.{Same}

-- what calls for a status
abbrev pub CallsFor : List ℕ → Status → Type 0
CallsFor t Done = (m n : List ℕ) × (rs ss : List RecordValue) × SpellsBoth t m n × Valid m rs × Valid n ss
CallsFor t (Short message) =
    (m n : List ℕ) × SpellsBoth t m n × (((message ≡ 0) × (length m < 12)) ⊎ ((message ≡ 1) × (rs : List RecordValue) × Valid m rs × (length n < 12)))
CallsFor t (Item message section index) =
    (m n : List ℕ) × SpellsBoth t m n × (((message ≡ 0) × BadAt m section index) ⊎ ((message ≡ 1) × (rs : List RecordValue) × Valid m rs × BadAt n section index))
CallsFor t BadHex = (length t ≤ 262144) × (SpellsNothing (first_text t) ⊎ SpellsNothing (second_text t))
CallsFor t TooLong = 262144 < length t
CallsFor t status = ⊥

-- ---- from what calls for it

on_both : (t m n : List ℕ) → SpellsBoth t m n → expected_status (Some Same) t ≡ first_refusal 0 (message_reading m ∷ message_reading n ∷ [])
on_both t m n (within, first, second) = let few : ltb 262144 (length t) ≡ false = le-ltb _ _ within in rw few (rw first (rw second refl))

on_second : (t m n : List ℕ) (rs : List RecordValue) → SpellsBoth t m n → Valid m rs → expected_status (Some Same) t ≡ first_refusal 1 (message_reading n ∷ [])
on_second t m n rs both (items, end, is, rs-is) = on_both t m n both ∙ ap (λ r. first_refusal 0 (r ∷ message_reading n ∷ [])) is

-- the second text spells nothing
second_none : (a b : List ℕ) → spelled (trim b) ≡ None → all_spelled (a ∷ b ∷ []) ≡ None
second_none a b nothing = by (spelled (trim a)) where
  by : (o : Option (List ℕ)) → (o >>= (λ m. all_spelled (b ∷ []) >>= (λ ms. Some (m ∷ ms)))) ≡ None
  by None = refl
  by (Some m) = rw nothing refl

pub called : (t : List ℕ) (status : Status) → CallsFor t status → expected_status (Some Same) t ≡ status
called t Done (m, n, rs, ss, both, valid, (others, last, also, ss-is)) = on_second t m n rs both valid ∙ ap (λ r. first_refusal 1 (r ∷ [])) also
called t (Short message) (m, n, both, inl (first, few)) =
    on_both t m n both ∙ ap (λ r. first_refusal 0 (r ∷ message_reading n ∷ [])) (short_reading m few) ∙ ap Short (sym first)
called t (Short message) (m, n, both, inr (second, rs, valid, few)) =
    on_second t m n rs both valid ∙ ap (λ r. first_refusal 1 (r ∷ [])) (short_reading n few) ∙ ap Short (sym second)
called t (Item message section index) (m, n, both, inl (first, (place, (items, is)))) =
    on_both t m n both ∙ ap (λ r. first_refusal 0 (r ∷ message_reading n ∷ [])) is ∙ ap (λ k. Item k section index) (sym first)
called t (Item message section index) (m, n, both, inr (second, rs, valid, (place, (items, is)))) =
    on_second t m n rs both valid ∙ ap (λ r. first_refusal 1 (r ∷ [])) is ∙ ap (λ k. Item k section index) (sym second)
called t BadHex (within, inl nothing) = let few : ltb 262144 (length t) ≡ false = le-ltb _ _ within in rw few (rw nothing refl)
called t BadHex (within, inr nothing) =
    let few : ltb 262144 (length t) ≡ false = le-ltb _ _ within in rw few (ap on_messages (second_none (first_text t) (second_text t) nothing))
called t TooLong long = let more : ltb 262144 (length t) ≡ true = lt-ltb _ _ long in rw more refl
called t Usage none = absurd none
called t ReadFault none = absurd none
called t WriteFault none = absurd none
called t Memory none = absurd none

-- ---- into what calls for it

-- each text calls for a status
some_call : (t : List ℕ) → (status : Status) × CallsFor t status
some_call t = elim (cases_lt 262144 (length t)) [
  | inl long ↦ (TooLong, long)
  | inr within ↦ by within (spelled (trim (first_text t))) refl (spelled (trim (second_text t))) refl
] where
  by : length t ≤ 262144 → (o : Option (List ℕ)) → spelled (trim (first_text t)) ≡ o → (p : Option (List ℕ)) → spelled (trim (second_text t)) ≡ p
      → (status : Status) × CallsFor t status
  by within None first p second = (BadHex, (within, inl first))
  by within (Some m) first None second = (BadHex, (within, inr second))
  by within (Some m) first (Some n) second = elim (three_kinds m) [
    | inl few ↦ (Short 0, (m, n, (within, first, second), inl (refl, few)))
    | inr (inr (s, i, bad)) ↦ (Item 0 s i, (m, n, (within, first, second), inl (refl, bad)))
    | inr (inl (rs, valid)) ↦ elim (three_kinds n) [
      | inl few ↦ (Short 1, (m, n, (within, first, second), inr (refl, rs, valid, few)))
      | inr (inr (s, i, bad)) ↦ (Item 1 s i, (m, n, (within, first, second), inr (refl, rs, valid, bad)))
      | inr (inl (ss, also)) ↦ (Done, (m, n, rs, ss, (within, first, second), valid, also))
    ]
  ]

pub pair_words : (t : List ℕ) (status : Status) → (expected_status (Some Same) t ≡ status) ↔ CallsFor t status
pair_words t status = (λ e. let some = some_call t in subst (CallsFor t) (sym (called t some.0 some.1) ∙ e) some.1, called t status)
