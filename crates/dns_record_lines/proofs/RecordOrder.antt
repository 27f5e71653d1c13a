-- The order of the lines of records.
use Rattle.std.proofs.Common.{◌≡◌, ℕ, zero, suc, ◌/◌, ◌%◌, ◌<◌, ◌≤◌, ◌⊎◌, inl, inr, Bool, true, ◌&&◌, List, [], ◌∷◌, ◌++◌, codes, slice_index, refl, sym, ap, ap₂, ◌∙◌, arith, nat_cmp, append_assoc}
use Rattle.std.specs.Prelude.{nat_lt}
use Rattle.std.specs.Int.{w16, w32, to_be_bytes}
use Rattle.std.specs.Ordering.{ordering_then}
use Rattle.std.specs.Cmp.Lexicographic.{slice_cmp}
use Rattle.std.specs.declared.cmp.Ordering.{Ordering}
use Rattle.std.specs.declared.cmp.Ordering.TheVariants.{Less, Equal, Greater}
use Rattle.std.proofs.lemmas.Bool.{and_parts, cases_lt}
use Rattle.std.proofs.lemmas.Bool.Decides.{nat_tests}
use Rattle.std.proofs.lemmas.List.Concat.{flat_map-cons}
use Rattle.dns_wire.specs.Reading.{AreOctets}
use Rattle.dns_name.specs.Order.{key_cmp}
use Rattle.dns_record.proofs.ComparedOctets.{cmp_2, cmp_4, then_assoc, then_equal}
use Rattle.dns_text.specs.Hexadecimal.{shown}
use Rattle.dns_message.specs.Forms.{form_owner_key}
use Rattle.dns_message.specs.Order.{SortKey, sort_key_cmp}
use Rattle.dns_message.proofs.FormLemmas.{forms_ordered}
use Rattle.dns_message.proofs.Octets.{number_octets_2, number_octets_4, octets_of_both}
use Rattle.dns_record_lines.specs.RecordLines.{IsRecord, class_and_type, digits, field, record_line}

-- ---- numbers

less : (a b : ℕ) → a < b → nat_cmp a b ≡ Less
less a b h = grind (arith, nat_tests)

more : (a b : ℕ) → b < a → nat_cmp a b ≡ Greater
more a b h = grind (arith, nat_tests)

same : (a b : ℕ) → a ≡ b → nat_cmp a b ≡ Equal
same a b h = grind (arith, nat_tests)

-- two numbers below sixteen decide by the first that differs
halves : (a b : ℕ) → nat_cmp a b ≡ ordering_then (nat_cmp (a / 16) (b / 16)) (nat_cmp (a % 16) (b % 16))
halves a b =
    elim (cases_lt (a / 16) (b / 16)) [
      | inl h ↦ less a b (omega arith) ∙ sym (ap (λ (o : Ordering). ordering_then o (nat_cmp (a % 16) (b % 16))) (less (a / 16) (b / 16) h))
      | inr k ↦ elim (cases_lt (b / 16) (a / 16)) [
        | inl h ↦ more a b (omega arith) ∙ sym (ap (λ (o : Ordering). ordering_then o (nat_cmp (a % 16) (b % 16))) (more (a / 16) (b / 16) h))
        | inr l ↦ by (cases_lt (a % 16) (b % 16)) (cases_lt (b % 16) (a % 16)) (omega arith) ∙ sym (ap (λ (o : Ordering). ordering_then o (nat_cmp (a % 16) (b % 16))) (same (a / 16) (b / 16) (omega arith)))
      ]
    ] where
      by : (a % 16 < b % 16) ⊎ (b % 16 ≤ a % 16) → (b % 16 < a % 16) ⊎ (a % 16 ≤ b % 16) → a / 16 ≡ b / 16 → nat_cmp a b ≡ nat_cmp (a % 16) (b % 16)
      by (inl h) k e = less a b (omega arith) ∙ sym (less (a % 16) (b % 16) h)
      by (inr h) (inl k) e = more a b (omega arith) ∙ sym (more (a % 16) (b % 16) k)
      by (inr h) (inr k) e = same a b (omega arith) ∙ sym (same (a % 16) (b % 16) (omega arith))

-- ---- the sixteen digits

abbrev digit : ℕ → ℕ
digit n = slice_index (codes "0123456789abcdef") n

-- each is above the one before it, as a test that computes
abbrev all_rise : ℕ → Bool
all_rise zero = true
all_rise (suc n) = nat_lt (digit n) (digit (suc n)) && all_rise n

one_rises : (n k : ℕ) → all_rise n ≡ true → k < n → nat_lt (digit k) (digit (suc k)) ≡ true
one_rises zero k h lt = absurd (omega (arith, lt))
one_rises (suc n) k h lt =
    let parts = and_parts (nat_lt (digit n) (digit (suc n))) (all_rise n) h in
    elim (cases_lt k n) [
      | inl below ↦ one_rises n k parts.1 below
      | inr top ↦ let e : k ≡ n = omega (arith, lt) in rw e parts.0
    ]

next_rises : (k : ℕ) → k < 15 → digit k < digit (suc k)
next_rises k lt = let t = one_rises 15 k refl lt in grind (arith, nat_tests, t)

rises : (u v : ℕ) → u < v → v < 16 → digit u < digit v
rises u zero lt small = absurd (omega (arith, lt))
rises u (suc v) lt small = elim (cases_lt u v) [
  | inl below ↦ let first = rises u v below (omega (arith, small)) in let then = next_rises v (omega (arith, small)) in omega (arith, first, then)
  | inr top ↦ let e : u ≡ v = omega (arith, lt) in rw e (next_rises v (omega (arith, small)))
]

pub above_space : (u : ℕ) → u < 16 → 32 < digit u
above_space zero small = omega arith
above_space (suc u) small = let more = rises zero (suc u) (omega arith) small in omega (arith, more)

digits_compared : (u v : ℕ) → u < 16 → v < 16 → nat_cmp (digit u) (digit v) ≡ nat_cmp u v
digits_compared u v small few = elim (cases_lt u v) [
  | inl h ↦ less (digit u) (digit v) (rises u v h few) ∙ sym (less u v h)
  | inr k ↦ elim (cases_lt v u) [
    | inl h ↦ more (digit u) (digit v) (rises v u h small) ∙ sym (more u v h)
    | inr l ↦ let e : u ≡ v = omega (arith, k, l) in same (digit u) (digit v) (ap digit e) ∙ sym (same u v e)
  ]
]

-- ---- octets in digits

shown_compared : (x y : ℕ) (p q : List ℕ) → x < 256 → y < 256 → slice_cmp nat_cmp (shown x ++ p) (shown y ++ q) ≡ ordering_then (nat_cmp x y) (slice_cmp nat_cmp p q)
shown_compared x y p q small few =
    ap₂ (λ (o r : Ordering). ordering_then o (ordering_then r (slice_cmp nat_cmp p q))) (digits_compared (x / 16) (y / 16) (omega (arith, small)) (omega (arith, few))) (digits_compared (x % 16) (y % 16) (omega arith) (omega arith))
    ∙ sym (then_assoc (nat_cmp (x / 16) (y / 16)) (nat_cmp (x % 16) (y % 16)) (slice_cmp nat_cmp p q))
    ∙ ap (λ (o : Ordering). ordering_then o (slice_cmp nat_cmp p q)) (sym (halves x y))

-- the digits of an octet and of those after it
after_one : (x : ℕ) (more rest : List ℕ) → digits (x ∷ more) ++ rest ≡ shown x ++ (digits more ++ rest)
after_one x more rest = ap (λ (l : List ℕ). l ++ rest) (flat_map-cons shown x more) ∙ append_assoc (shown x) (digits more) rest

-- a digit is above the space
space_first : (y : ℕ) (p q : List ℕ) → y < 256 → slice_cmp nat_cmp (32 ∷ p) (shown y ++ q) ≡ Less
space_first y p q few = ap (λ (o : Ordering). ordering_then o (slice_cmp nat_cmp p (digit (y % 16) ∷ q))) (less 32 (digit (y / 16)) (above_space (y / 16) (omega (arith, few))))

space_last : (x : ℕ) (p q : List ℕ) → x < 256 → slice_cmp nat_cmp (shown x ++ p) (32 ∷ q) ≡ Greater
space_last x p q few = ap (λ (o : Ordering). ordering_then o (slice_cmp nat_cmp (digit (x % 16) ∷ p) q)) (more (digit (x / 16)) 32 (above_space (x / 16) (omega (arith, few))))

pub field_order : (a b p q : List ℕ) → AreOctets a → AreOctets b → slice_cmp nat_cmp (field a p) (field b q) ≡ ordering_then (slice_cmp nat_cmp a b) (slice_cmp nat_cmp p q)
field_order [] [] p q small few = refl
field_order [] (y ∷ b) p q small few = ap (slice_cmp nat_cmp (32 ∷ p)) (after_one y b (32 ∷ q)) ∙ space_first y p (digits b ++ 32 ∷ q) (few 0)
field_order (x ∷ a) [] p q small few = ap (λ (l : List ℕ). slice_cmp nat_cmp l (32 ∷ q)) (after_one x a (32 ∷ p)) ∙ space_last x (digits a ++ 32 ∷ p) q (small 0)
field_order (x ∷ a) (y ∷ b) p q small few =
    ap₂ (slice_cmp nat_cmp) (after_one x a (32 ∷ p)) (after_one y b (32 ∷ q))
    ∙ shown_compared x y (digits a ++ 32 ∷ p) (digits b ++ 32 ∷ q) (small 0) (few 0)
    ∙ ap (ordering_then (nat_cmp x y)) (field_order a b p q (λ i. small (suc i)) (λ i. few (suc i)))
    ∙ sym (then_assoc (nat_cmp x y) (slice_cmp nat_cmp a b) (slice_cmp nat_cmp p q))

pub digits_order : (a b : List ℕ) → AreOctets a → AreOctets b → slice_cmp nat_cmp (digits a) (digits b) ≡ slice_cmp nat_cmp a b
digits_order [] [] small few = refl
digits_order [] (y ∷ b) small few = ap (slice_cmp nat_cmp []) (flat_map-cons shown y b)
digits_order (x ∷ a) [] small few = ap (λ (l : List ℕ). slice_cmp nat_cmp l []) (flat_map-cons shown x a)
digits_order (x ∷ a) (y ∷ b) small few =
    ap₂ (slice_cmp nat_cmp) (flat_map-cons shown x a) (flat_map-cons shown y b)
    ∙ shown_compared x y (digits a) (digits b) (small 0) (few 0)
    ∙ ap (ordering_then (nat_cmp x y)) (digits_order a b (λ i. small (suc i)) (λ i. few (suc i)))

-- ---- lines

-- the first that differs decides, however the parts are taken together
together : (owner class rtype rdata ttl : Ordering)
    → ordering_then owner (ordering_then (ordering_then class rtype) (ordering_then rdata ttl)) ≡ ordering_then (ordering_then owner (ordering_then class (ordering_then rtype rdata))) ttl
together Less class rtype rdata ttl = refl
together Greater class rtype rdata ttl = refl
together Equal Less rtype rdata ttl = refl
together Equal Greater rtype rdata ttl = refl
together Equal Equal Less rdata ttl = refl
together Equal Equal Greater rdata ttl = refl
together Equal Equal Equal rdata ttl = refl

pub numbers_octets : (k : SortKey) → AreOctets (class_and_type k)
numbers_octets k = octets_of_both (to_be_bytes w16 k.class) (to_be_bytes w16 k.rtype) (number_octets_2 k.class) (number_octets_2 k.rtype)

numbers_compared : (j k : SortKey) → IsRecord j → IsRecord k → slice_cmp nat_cmp (class_and_type j) (class_and_type k) ≡ ordering_then (nat_cmp j.class k.class) (nat_cmp j.rtype k.rtype)
numbers_compared j k is are =
    cmp_2 j.class k.class (to_be_bytes w16 j.rtype) (to_be_bytes w16 k.rtype) is.class are.class
    ∙ ap (ordering_then (nat_cmp j.class k.class)) (cmp_2 j.rtype k.rtype [] [] is.rtype are.rtype ∙ then_equal (nat_cmp j.rtype k.rtype))

ttls_compared : (j k : SortKey) → IsRecord j → IsRecord k → slice_cmp nat_cmp (to_be_bytes w32 j.ttl) (to_be_bytes w32 k.ttl) ≡ nat_cmp j.ttl k.ttl
ttls_compared j k is are = cmp_4 j.ttl k.ttl [] [] is.ttl are.ttl ∙ then_equal (nat_cmp j.ttl k.ttl)

module _ (j k : SortKey) (is : IsRecord j) (are : IsRecord k) where
  abbrev ttls : SortKey → List ℕ
  ttls x = digits (to_be_bytes w32 x.ttl)

  after_data : slice_cmp nat_cmp (field j.octets (ttls j)) (field k.octets (ttls k)) ≡ ordering_then (slice_cmp nat_cmp j.octets k.octets) (nat_cmp j.ttl k.ttl)
  after_data =
      field_order j.octets k.octets (ttls j) (ttls k) is.octets are.octets
      ∙ ap (ordering_then (slice_cmp nat_cmp j.octets k.octets)) (digits_order (to_be_bytes w32 j.ttl) (to_be_bytes w32 k.ttl) (number_octets_4 j.ttl) (number_octets_4 k.ttl) ∙ ttls_compared j k is are)

  after_owner : slice_cmp nat_cmp (field (class_and_type j) (field j.octets (ttls j))) (field (class_and_type k) (field k.octets (ttls k)))
      ≡ ordering_then (ordering_then (nat_cmp j.class k.class) (nat_cmp j.rtype k.rtype)) (ordering_then (slice_cmp nat_cmp j.octets k.octets) (nat_cmp j.ttl k.ttl))
  after_owner =
      field_order (class_and_type j) (class_and_type k) (field j.octets (ttls j)) (field k.octets (ttls k)) (numbers_octets j) (numbers_octets k)
      ∙ ap₂ ordering_then (numbers_compared j k is are) after_data

  -- the order of lines is that of records
  pub lines_order : slice_cmp nat_cmp (record_line j) (record_line k) ≡ sort_key_cmp j k
  unfolding record_line
  lines_order =
      field_order (form_owner_key j) (form_owner_key k) (field (class_and_type j) (field j.octets (ttls j))) (field (class_and_type k) (field k.octets (ttls k))) is.key are.key
      ∙ ap₂ ordering_then (forms_ordered j k is.lowercase are.lowercase) after_owner
      ∙ together (key_cmp j.owner k.owner) (nat_cmp j.class k.class) (nat_cmp j.rtype k.rtype) (slice_cmp nat_cmp j.octets k.octets) (nat_cmp j.ttl k.ttl)
