-- The order of records.
use Rattle.std.proofs.Common.{◌≡◌, ℕ, ◌+◌, ◌/◌, ◌%◌, ◌^◌, ◌<◌, ◌⊎◌, inl, inr, Bool, true, false, cond, List, [], ◌∷◌, ◌++◌, length, map, filter, refl, sym, ap, ◌∙◌, arith}
use Rattle.std.specs.Prelude.{◌↔◌, reverse}
use Rattle.std.specs.Int.{w16, w32, to_be_bytes}
use Rattle.std.specs.declared.cmp.Ordering.{Ordering}
use Rattle.std.specs.declared.cmp.Ordering.TheVariants.{Less, Equal, Greater}
use Rattle.std.specs.Ordering.{ordering_reverse}
use Rattle.std.specs.Cmp.{IsTotalOrder}
use Rattle.std.specs.List.Sorted.{IsPermutation}
use Rattle.std.proofs.lemmas.Cmp.{on_total, tied_itself}
use Rattle.std.proofs.lemmas.List.{reverse-reverse, length-append}
use Rattle.std.proofs.lemmas.List.Sorted.{IsPermutation-refl, IsPermutation-cons, IsPermutation-middle, IsPermutation-trans}
use Rattle.dns_wire.specs.Names.{lowered, wire}
use Rattle.dns_wire.proofs.Lowered.{wire_parts, name_lowered, lowered_long}
use Rattle.dns_record.specs.Records.{octets_of_parts}
use Rattle.dns_message.specs.Canonical.{canonical_wire, is_not_opt}
use Rattle.dns_record.specs.Types.{is_lowercased}
use Rattle.dns_record.specs.Fields.{Field, field_octets, fields_octets, lowercased_field, canonical_fields}
use Rattle.dns_record.specs.Fields.FieldOf.{CompressibleName, UncompressedName, CharacterString, CountedOctets, CharacterStrings, OtherOctets, Byte, Number}
use Rattle.dns_message.specs.Messages.{RecordValue}
use Rattle.dns_message.specs.Order.{SortKey, sort_key, sort_key_cmp, record_cmp, Before, precedes, inserted, in_order, octets_of_key}
use Rattle.dns_message.specs.Sorted.{times, NoneBelow, Ascends}
use Rattle.dns_message.specs.WellFormed.{WellFormed}
use Rattle.dns_message.proofs.SortedRecords.{SameSums, sort_key_cmp_total, sort_key_cmp_same, sorted_unique, sums_permuted, in_order_sums, ascends_in_order}

-- ---- the order

pub records_total : IsTotalOrder record_cmp
records_total = on_total sort_key sort_key_cmp_total

-- ---- ties

-- numbers of two and of four octets are their octets' number
two_octets : (n m : ℕ) (x y : List ℕ) → n < 2 ^ 16 → m < 2 ^ 16 → to_be_bytes w16 n ++ x ≡ to_be_bytes w16 m ++ y → (n ≡ m) × (x ≡ y)
two_octets n m x y p q e =
    let high : n / 256 % 256 ≡ m / 256 % 256 = cc in
    let low : n % 256 ≡ m % 256 = cc in
    (omega arith, cc)

four_octets : (n m : ℕ) (x y : List ℕ) → n < 2 ^ 32 → m < 2 ^ 32 → to_be_bytes w32 n ++ x ≡ to_be_bytes w32 m ++ y → (n ≡ m) × (x ≡ y)
four_octets n m x y p q e =
    let a : n / 16777216 % 256 ≡ m / 16777216 % 256 = cc in
    let b : n / 65536 % 256 ≡ m / 65536 % 256 = cc in
    let c : n / 256 % 256 ≡ m / 256 % 256 = cc in
    let d : n % 256 ≡ m % 256 = cc in
    (omega arith, cc)

-- lowercase letters change no length
field_long : (field : Field) → length (field_octets (lowercased_field field)) ≡ length (field_octets field)
field_long (CompressibleName labels) = lowered_long labels
field_long (UncompressedName labels) = lowered_long labels
field_long (CharacterString octets) = refl
field_long (CountedOctets octets) = refl
field_long (CharacterStrings octets) = refl
field_long (OtherOctets octets) = refl
field_long (Byte b) = refl
field_long (Number w n) = refl

lowercased_long : (fields : List Field) → length (fields_octets (map lowercased_field fields)) ≡ length (fields_octets fields)
lowercased_long [] = refl
lowercased_long (field ∷ fields) =
    length-append (field_octets (lowercased_field field)) (fields_octets (map lowercased_field fields))
    ∙ omega (arith, field_long field, lowercased_long fields, length-append (field_octets field) (fields_octets fields))

octets_long : (r : RecordValue) → WellFormed r → length (fields_octets (canonical_fields r.rtype r.content)) < 2 ^ 16
octets_long r is = by (is_lowercased r.rtype) where
  by : (b : Bool) → length (fields_octets (cond b (map lowercased_field r.content) r.content)) < 2 ^ 16
  by true = omega (arith, is.size, lowercased_long r.content)
  by false = is.size

-- the canonical octets are those of what is compared
pub key_canonical_wire : (r : RecordValue) → octets_of_key (sort_key r) ≡ canonical_wire r
key_canonical_wire r = ap (λ (small : List (List ℕ)). octets_of_parts (wire small) r.rtype r.class r.ttl (fields_octets (canonical_fields r.rtype r.content))) (reverse-reverse (lowered r.owner))

-- equal canonical octets are of records that are compared as equal
pub keys_from_canonical_wire : (r s : RecordValue) → WellFormed r → WellFormed s → canonical_wire r ≡ canonical_wire s → sort_key r ≡ sort_key s
keys_from_canonical_wire r s is js e =
    let owner = wire_parts (lowered r.owner) (lowered s.owner) _ _ (name_lowered r.owner is.owner) (name_lowered s.owner js.owner) e in
    let rtype = two_octets r.rtype s.rtype _ _ is.rtype js.rtype owner.1 in
    let class = two_octets r.class s.class _ _ is.class js.class rtype.1 in
    let ttl = four_octets r.ttl s.ttl _ _ is.ttl js.ttl class.1 in
    let size = two_octets _ _ _ _ (octets_long r is) (octets_long s js) ttl.1 in
    λ i. record { owner = reverse (owner.0 i); class = class.0 i; rtype = rtype.0 i; octets = size.1 i; ttl = ttl.0 i }

canonical_wire_from_equal : (r s : RecordValue) → record_cmp r s ≡ Equal → canonical_wire r ≡ canonical_wire s
canonical_wire_from_equal r s e = sym (key_canonical_wire r) ∙ ap octets_of_key (sort_key_cmp_same (sort_key r) (sort_key s) e) ∙ key_canonical_wire s

pub ties : (r s : RecordValue) → WellFormed r → WellFormed s → (record_cmp r s ≡ Equal) ↔ (canonical_wire r ≡ canonical_wire s)
ties r s is js = (
  canonical_wire_from_equal r s,
  λ e. ap (λ (k : SortKey). sort_key_cmp k (sort_key s)) (keys_from_canonical_wire r s is js e) ∙ tied_itself sort_key_cmp_total (sort_key s),
)

pub before : (r s : RecordValue) → WellFormed r → WellFormed s → (Before r s ⊎ Before s r) ⊎ (canonical_wire r ≡ canonical_wire s)
before r s is js = by (record_cmp r s) refl where
  by : (o : Ordering) → record_cmp r s ≡ o → (Before r s ⊎ Before s r) ⊎ (canonical_wire r ≡ canonical_wire s)
  by Less e = inl (inl e)
  by Equal e = inr (canonical_wire_from_equal r s e)
  by Greater e = inl (inr (records_total.antisymm s r ∙ ap ordering_reverse e))

-- ---- the list

inserted_moves : (r : RecordValue) (rs : List RecordValue) → IsPermutation (r ∷ rs) (inserted r rs)
unfolding inserted
inserted_moves r [] = IsPermutation-refl (r ∷ [])
inserted_moves r (s ∷ rs) =
    elim (precedes r s) as (λ b. IsPermutation (r ∷ s ∷ rs) (cond b (r ∷ s ∷ rs) (s ∷ inserted r rs))) [
      | true ↦ IsPermutation-refl (r ∷ s ∷ rs)
      | false ↦ IsPermutation-trans (r ∷ s ∷ rs) (s ∷ r ∷ rs) (s ∷ inserted r rs) (IsPermutation-middle (r ∷ []) s rs) (IsPermutation-cons s (r ∷ rs) (inserted r rs) (inserted_moves r rs))
    ]

pub in_order_moves : (rs : List RecordValue) → IsPermutation rs (in_order rs)
unfolding in_order
in_order_moves [] = IsPermutation-refl []
in_order_moves (r ∷ rs) = IsPermutation-trans (r ∷ rs) (r ∷ in_order rs) (inserted r (in_order rs)) (IsPermutation-cons r rs (in_order rs) (in_order_moves rs)) (inserted_moves r (in_order rs))

none_unmapped : (x : RecordValue) (zs : List RecordValue) → NoneBelow sort_key_cmp (sort_key x) (map sort_key zs) → NoneBelow record_cmp x zs
none_unmapped x [] h = tt
none_unmapped x (z ∷ zs) h = (h.0, none_unmapped x zs h.1)

pub ascends_unmapped : (rs : List RecordValue) → Ascends sort_key_cmp (map sort_key rs) → Ascends record_cmp rs
ascends_unmapped [] h = tt
ascends_unmapped (r ∷ rs) h = (none_unmapped r rs h.0, ascends_unmapped rs h.1)

-- what is added up over the kept records is added up over all
not_opt_sums : (f : SortKey → ℕ) (rs : List RecordValue) → times f (map sort_key (filter is_not_opt rs)) ≡ times (λ r. cond (is_not_opt r) (f (sort_key r)) 0) rs
not_opt_sums f [] = refl
not_opt_sums f (r ∷ rs) = by (is_not_opt r) (not_opt_sums f rs) where
  by : (b : Bool) → times f (map sort_key (filter is_not_opt rs)) ≡ times (λ r. cond (is_not_opt r) (f (sort_key r)) 0) rs
      → times f (map sort_key (cond b (r ∷ filter is_not_opt rs) (filter is_not_opt rs))) ≡ cond b (f (sort_key r)) 0 + times (λ r. cond (is_not_opt r) (f (sort_key r)) 0) rs
  by true h = ap (λ (n : ℕ). f (sort_key r) + n) h
  by false h = h ∙ omega arith

-- the order in which records come does not count
pub keys_one : (rs ss : List RecordValue) → IsPermutation rs ss → map sort_key (in_order (filter is_not_opt rs)) ≡ map sort_key (in_order (filter is_not_opt ss))
keys_one rs ss moved =
    let one = in_order (filter is_not_opt rs) in
    let two = in_order (filter is_not_opt ss) in
    let sums : SameSums (map sort_key one) (map sort_key two) = λ f.
    in_order_sums (filter is_not_opt rs) f ∙ not_opt_sums f rs ∙ sym (sums_permuted rs ss moved (λ r. cond (is_not_opt r) (f (sort_key r)) 0)) ∙ sym (not_opt_sums f ss) ∙ sym (in_order_sums (filter is_not_opt ss) f) in
    sorted_unique sort_key_cmp sort_key_cmp_total sort_key_cmp_same (map sort_key one) (map sort_key two) (ascends_in_order (filter is_not_opt rs)) (ascends_in_order (filter is_not_opt ss)) sums
