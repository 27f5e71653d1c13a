-- The expected status on the text of one message.
use Rattle.std.proofs.Common.{◌≡◌, ℕ, ◌<◌, ◌≤◌, inl, inr, true, false, ltb, List, [], ◌∷◌, length, Option, Some, None, refl, sym, ap, ◌∙◌}
use Rattle.std.specs.Prelude.{◌↔◌}
use Rattle.std.proofs.lemmas.Bool.{cases_lt, le-ltb, lt-ltb}
use Rattle.dns_text.specs.Hexadecimal.{Spells, SpellsNothing, spelled, trim}
use Rattle.dns_message.specs.Messages.{RecordValue, Valid, BadAt, message_reading}
use Rattle.dns_canon.specs.ExpectedStatus.{expected_status, first_refusal}
use Rattle.dns_message.specs.declared.canon_error.CanonError.{CanonError}
use Rattle.dns_message.specs.declared.canon_error.CanonError.TheVariants as canon
use Rattle.dns_canon.specs.declared.status.Status.{Status}
use Rattle.dns_canon.specs.declared.status.Status.TheVariants.{Done, Short, Item, BadHex, TooLong}
use Rattle.dns_canon.specs.declared.words.Command.{Command}
use Rattle.dns_canon.specs.declared.words.Command.TheVariants.{Canon}
use Rattle.dns_message.proofs.OneReading.{three_kinds}
use Rattle.dns_message.proofs.Phrased.{short_reading}

-- ---- from words

pub too_long : (t : List ℕ) → 131072 < length t → expected_status (Some Canon) t ≡ TooLong
too_long t long = let more : ltb 131072 (length t) ≡ true = lt-ltb _ _ long in rw more refl

pub bad_hex : (t : List ℕ) → length t ≤ 131072 → SpellsNothing t → expected_status (Some Canon) t ≡ BadHex
bad_hex t within nothing = let few : ltb 131072 (length t) ≡ false = le-ltb _ _ within in rw few (rw nothing refl)

on_reading : (t m : List ℕ) → length t ≤ 131072 → Spells t m → expected_status (Some Canon) t ≡ first_refusal 0 (message_reading m ∷ [])
on_reading t m within spells = let few : ltb 131072 (length t) ≡ false = le-ltb _ _ within in rw few (rw spells refl)

pub done : (t m : List ℕ) (rs : List RecordValue) → length t ≤ 131072 → Spells t m → Valid m rs → expected_status (Some Canon) t ≡ Done
done t m rs within spells (items, end, is, rs-is) = on_reading t m within spells ∙ ap (λ r. first_refusal 0 (r ∷ [])) is

pub short : (t m : List ℕ) → length t ≤ 131072 → Spells t m → length m < 12 → expected_status (Some Canon) t ≡ Short 0
short t m within spells few = on_reading t m within spells ∙ ap (λ r. first_refusal 0 (r ∷ [])) (short_reading m few)

pub bad_item : (t m : List ℕ) (section index : ℕ) → length t ≤ 131072 → Spells t m → BadAt m section index → expected_status (Some Canon) t ≡ Item 0 section index
bad_item t m section index within spells (place, (items, is)) = on_reading t m within spells ∙ ap (λ r. first_refusal 0 (r ∷ [])) is

-- ---- into words

-- a expected status and why it comes
data Called (t : List ℕ) : Type 0 where
  is_long : expected_status (Some Canon) t ≡ TooLong → 131072 < length t → Called t
  is_bad : expected_status (Some Canon) t ≡ BadHex → length t ≤ 131072 → SpellsNothing t → Called t
  is_short : (m : List ℕ) → expected_status (Some Canon) t ≡ Short 0 → length t ≤ 131072 → Spells t m → length m < 12 → Called t
  is_item : (m : List ℕ) (section index : ℕ) → expected_status (Some Canon) t ≡ Item 0 section index → length t ≤ 131072 → Spells t m → BadAt m section index → Called t
  is_done : (m : List ℕ) (rs : List RecordValue) → expected_status (Some Canon) t ≡ Done → length t ≤ 131072 → Spells t m → Valid m rs → Called t

called : (t : List ℕ) → Called t
called t = elim (cases_lt 131072 (length t)) [
  | inl long ↦ is_long (too_long t long) long
  | inr within ↦ by within (spelled (trim t)) refl
] where
  by : length t ≤ 131072 → (o : Option (List ℕ)) → spelled (trim t) ≡ o → Called t
  by within None nothing = is_bad (bad_hex t within nothing) within nothing
  by within (Some m) spells = elim (three_kinds m) [
    | inl few ↦ is_short m (short t m within spells few) within spells few
    | inr (inl (rs, valid)) ↦ is_done m rs (done t m rs within spells valid) within spells valid
    | inr (inr (s, i, bad)) ↦ is_item m s i (bad_item t m s i within spells bad) within spells bad
  ]

pub done_words : (t : List ℕ) → (expected_status (Some Canon) t ≡ Done) ↔ ((length t ≤ 131072) × (m : List ℕ) × (rs : List RecordValue) × Spells t m × Valid m rs)
done_words t = (λ e. from (called t) e, λ (within, m, rs, spells, valid). done t m rs within spells valid) where
  from : Called t → expected_status (Some Canon) t ≡ Done → (length t ≤ 131072) × (m : List ℕ) × (rs : List RecordValue) × Spells t m × Valid m rs
  from (is_long v long) e = let w = sym v ∙ e in absurd cc
  from (is_bad v within nothing) e = let w = sym v ∙ e in absurd cc
  from (is_short m v within spells few) e = let w = sym v ∙ e in absurd cc
  from (is_item m s i v within spells bad) e = let w = sym v ∙ e in absurd cc
  from (is_done m rs v within spells valid) e = (within, m, rs, spells, valid)

pub short_words : (t : List ℕ) (message : ℕ) → (expected_status (Some Canon) t ≡ Short message) ↔ ((message ≡ 0) × (length t ≤ 131072) × (m : List ℕ) × Spells t m × (length m < 12))
short_words t message = (λ e. from (called t) e, λ (first, within, m, spells, few). short t m within spells few ∙ ap Short (sym first)) where
  from : Called t → expected_status (Some Canon) t ≡ Short message → (message ≡ 0) × (length t ≤ 131072) × (m : List ℕ) × Spells t m × (length m < 12)
  from (is_long v long) e = let w = sym v ∙ e in absurd cc
  from (is_bad v within nothing) e = let w = sym v ∙ e in absurd cc
  from (is_short m v within spells few) e =
      let w = sym v ∙ e in
      let first : message ≡ 0 = cc in
      (first, within, m, spells, few)
  from (is_item m s i v within spells bad) e = let w = sym v ∙ e in absurd cc
  from (is_done m rs v within spells valid) e = let w = sym v ∙ e in absurd cc

pub item_words : (t : List ℕ) (message section index : ℕ) → (expected_status (Some Canon) t ≡ Item message section index) ↔ ((message ≡ 0) × (length t ≤ 131072) × (m : List ℕ) × Spells t m × BadAt m section index)
item_words t message section index =
    (λ e. from (called t) e, λ (first, within, m, spells, bad). bad_item t m section index within spells bad ∙ ap (λ n. Item n section index) (sym first)) where
      from : Called t → expected_status (Some Canon) t ≡ Item message section index → (message ≡ 0) × (length t ≤ 131072) × (m : List ℕ) × Spells t m × BadAt m section index
      from (is_long v long) e = let w = sym v ∙ e in absurd cc
      from (is_bad v within nothing) e = let w = sym v ∙ e in absurd cc
      from (is_short m v within spells few) e = let w = sym v ∙ e in absurd cc
      from (is_item m s i v within spells bad) e =
          let w = sym v ∙ e in
          let first : message ≡ 0 = cc in
          let s-is : section ≡ s = cc in
          let i-is : index ≡ i = cc in
          (first, within, m, spells, rw (s-is, i-is) bad)
      from (is_done m rs v within spells valid) e = let w = sym v ∙ e in absurd cc

pub bad_words : (t : List ℕ) → (expected_status (Some Canon) t ≡ BadHex) ↔ ((length t ≤ 131072) × SpellsNothing t)
bad_words t = (λ e. from (called t) e, λ (within, nothing). bad_hex t within nothing) where
  from : Called t → expected_status (Some Canon) t ≡ BadHex → (length t ≤ 131072) × SpellsNothing t
  from (is_long v long) e = let w = sym v ∙ e in absurd cc
  from (is_bad v within nothing) e = (within, nothing)
  from (is_short m v within spells few) e = let w = sym v ∙ e in absurd cc
  from (is_item m s i v within spells bad) e = let w = sym v ∙ e in absurd cc
  from (is_done m rs v within spells valid) e = let w = sym v ∙ e in absurd cc

pub long_words : (t : List ℕ) → (expected_status (Some Canon) t ≡ TooLong) ↔ (131072 < length t)
long_words t = (λ e. from (called t) e, too_long t) where
  from : Called t → expected_status (Some Canon) t ≡ TooLong → 131072 < length t
  from (is_long v long) e = long
  from (is_bad v within nothing) e = let w = sym v ∙ e in absurd cc
  from (is_short m v within spells few) e = let w = sym v ∙ e in absurd cc
  from (is_item m s i v within spells bad) e = let w = sym v ∙ e in absurd cc
  from (is_done m rs v within spells valid) e = let w = sym v ∙ e in absurd cc
