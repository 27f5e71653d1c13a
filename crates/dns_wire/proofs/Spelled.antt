-- What a name without pointers is, in words: labels whose octets are at the start.
use Rattle.std.proofs.Common.{◌≡◌, ℕ, zero, suc, ◌+◌, ◌<◌, ◌≤◌, ◌⊎◌, inl, inr, Bool, true, false, cond, ltb, List, [], ◌∷◌, ◌++◌, length, get_or, take, drop, Option, Some, None, refl, sym, ap, subst, ◌∙◌, append_assoc, arith}
use Rattle.std.specs.Prelude.{unwrap_or, ◌==◌, ◌||◌}
use Rattle.std.specs.List.{AllByRecursion}
use Rattle.std.proofs.lemmas.Bool.Decides.{nat_tests}
use Rattle.std.proofs.lemmas.Bool.{ltb-false}
use Rattle.std.proofs.lemmas.List.{take_at, drop_at, take-append-drop, length-append, length-take, append-nil}
use Rattle.std.proofs.lemmas.Option.{some_pair_parts}
use Rattle.dns_wire.specs.Reading.{all_of}
use Rattle.dns_wire.specs.Names.{labels_wire, wire, IsLabel, IsName, after_labels, labels_within, up_to_255, plain_name, name_labels}
use Rattle.dns_wire.proofs.Walk.{Read, plain_wire, wire_long}

-- the two cases of a choice that gives z
pub chosen : {A : Type 0} (b : Bool) (x y z : A) → cond b x y ≡ z → ((b ≡ true) × (x ≡ z)) ⊎ ((b ≡ false) × (y ≡ z))
chosen true x y z e = inl (refl, e)
chosen false x y z e = inr (refl, e)

abbrev Takes : List ℕ → List (List ℕ) → List ℕ → Type 0
Takes bytes labels rest = (bytes ≡ wire labels ++ rest) × AllByRecursion IsLabel labels

after_takes : (bytes label more : List ℕ) (read : Read) (labels : List (List ℕ)) (rest : List ℕ) → bytes ≡ length label ∷ (label ++ more) → IsLabel label → ((others : List (List ℕ)) (left : List ℕ) → read ≡ Some (others, left) → Takes more others left) → after_labels (label ∷ []) read ≡ Some (labels, rest) → Takes bytes labels rest
after_takes bytes label more None labels rest parts fits later e = absurd cc
after_takes bytes label more (Some (others, left)) labels rest parts fits later e =
    let t = later others left refl in
    let whole : Takes bytes (label ∷ others) left = (parts ∙ ap (λ (m : List ℕ). length label ∷ (label ++ m)) t.0 ∙ ap (λ (m : List ℕ). length label ∷ m) (sym (append_assoc label (wire others) left) ∙ ap (λ (m : List ℕ). m ++ left) (sym (append_assoc label (labels_wire others) (0 ∷ [])))), (fits, t.1)) in
    let same = some_pair_parts (label ∷ others) labels left rest e in
    subst (λ (p : List ℕ). Takes bytes labels p) same.1 (subst (λ (p : List (List ℕ)). Takes bytes p left) same.0 whole)

within_takes : (steps : ℕ) (bytes : List ℕ) (labels : List (List ℕ)) (rest : List ℕ) → labels_within steps bytes ≡ Some (labels, rest) → Takes bytes labels rest
unfolding labels_within
within_takes zero bytes labels rest e = absurd cc
within_takes (suc steps) [] labels rest e = absurd cc
within_takes (suc steps) (size ∷ more) labels rest e =
    elim (chosen (size == 0) _ _ _ e) [
      | inl ended ↦
          let nothing : size ≡ 0 = grind (arith, nat_tests, ended.0) in
          let same = some_pair_parts [] labels more rest ended.1 in
          subst (λ (p : List (List ℕ)). Takes (size ∷ more) p rest) same.0 (rw (nothing, same.1) refl, tt)
      | inr after ↦
          elim (chosen (ltb 63 size || ltb (length more) size) _ _ _ after.1) [
            | inl bad ↦ absurd (let h = bad.1 in cc)
            | inr good ↦
                let some : 0 < size = grind (arith, nat_tests, after.0) in
                let small : size ≤ 63 = grind (arith, nat_tests, good.0) in
                let room : size ≤ length more = grind (arith, nat_tests, good.0) in
                let long : length (take size more) ≡ size = omega (arith, length-take size more) in
                after_takes (size ∷ more) (take size more) (drop size more) (labels_within steps (drop size more)) labels rest
                (rw (long, take-append-drop size more) refl) (omega (arith, long), omega (arith, long))
                (λ others left h. within_takes steps (drop size more) others left h) good.1
          ]
    ]

up_to_255_is : (read : Read) (labels : List (List ℕ)) (rest : List ℕ) → up_to_255 read ≡ Some (labels, rest) → (read ≡ Some (labels, rest)) × (length (wire labels) ≤ 255)
up_to_255_is None labels rest e = absurd cc
up_to_255_is (Some (found, left)) labels rest e =
    elim (chosen (ltb 255 (length (wire found))) _ _ _ e) [
      | inl over ↦ absurd (let h = over.1 in cc)
      | inr fits ↦
          let same = some_pair_parts found labels left rest fits.1 in
          (fits.1, rw (← same.0) (ltb-false _ _ fits.0))
    ]

-- what is read is spelled so
pub plain_name_takes : (bytes : List ℕ) (labels : List (List ℕ)) (rest : List ℕ) → plain_name bytes ≡ Some (labels, rest) → IsName labels × (bytes ≡ wire labels ++ rest)
unfolding plain_name
plain_name_takes bytes labels rest e =
    let u = up_to_255_is (labels_within (length bytes) bytes) labels rest e in
    let t = within_takes (length bytes) bytes labels rest u.0 in
    (record { sizes = t.1; size = u.1 }, t.0)

-- what is spelled so is read
pub plain_name_again : (bytes : List ℕ) (labels : List (List ℕ)) (rest : List ℕ) → IsName labels → bytes ≡ wire labels ++ rest → plain_name bytes ≡ Some (labels, rest)
plain_name_again bytes labels rest is parts = ap plain_name parts ∙ plain_wire labels rest is.sizes is.size

all_of_is : (read : Read) (labels : List (List ℕ)) → all_of read ≡ Some labels → read ≡ Some (labels, [])
all_of_is None labels e = absurd cc
all_of_is (Some (found, [])) labels e = ap (λ (o : List (List ℕ)). Some (o, [])) (let h : found ≡ labels = cc in h)
all_of_is (Some (found, x ∷ left)) labels e = absurd cc

-- the octets of a name are its labels, and no more than 255
pub name_octets : (bytes : List ℕ) (labels : List (List ℕ)) → all_of (plain_name bytes) ≡ Some labels → IsName labels × (bytes ≡ wire labels)
name_octets bytes labels e =
    let t = plain_name_takes bytes labels [] (all_of_is (plain_name bytes) labels e) in
    (t.0, t.1 ∙ append-nil (wire labels))

pub name_short : (bytes : List ℕ) (labels : List (List ℕ)) → all_of (plain_name bytes) ≡ Some labels → length bytes ≤ 255
name_short bytes labels e = let t = name_octets bytes labels e in omega (arith, ap length t.1, t.0.size)

-- ---- a name's first label

pub record FirstLabel (bytes : List ℕ) (size : ℕ) : Type 0 where
  pub room : size + 1 < length bytes
  pub labels : name_labels bytes ≡ take size (drop 1 bytes) ∷ name_labels (drop size (drop 1 bytes))
  pub whole : all_of (plain_name (drop size (drop 1 bytes))) ≡ Some (name_labels (drop size (drop 1 bytes)))

pub name_nonempty : (bytes : List ℕ) (labels : List (List ℕ)) → all_of (plain_name bytes) ≡ Some labels → 0 < length bytes
name_nonempty bytes labels e = let t = name_octets bytes labels e in omega (arith, ap length t.1, wire_long labels)

-- the labels of a name's octets
pub labels_of_wire : (labels : List (List ℕ)) → IsName labels → (all_of (plain_name (wire labels)) ≡ Some labels) × (name_labels (wire labels) ≡ labels)
unfolding name_labels
labels_of_wire labels is =
    let read : plain_name (wire labels) ≡ Some (labels, []) = ap plain_name (sym (append-nil (wire labels))) ∙ plain_wire labels [] is.sizes is.size in
    (ap all_of read, ap (λ (o : Option (List (List ℕ))). unwrap_or o []) (ap all_of read))

first_of : (labels : List (List ℕ)) (size : ℕ) → IsName labels → get_or (wire labels) 0 0 ≡ size → 0 < size → FirstLabel (wire labels) size
first_of [] size is at_prefix some = absurd (omega arith)
first_of (label ∷ labels) size is at_prefix some =
    let rest : IsName labels = record { sizes = is.sizes.1; size = omega (arith, is.size, wire_long labels, wire_long (label ∷ labels), length-append label (labels_wire labels)) } in
    let again = labels_of_wire labels rest in
    let body : label ++ labels_wire labels ++ 0 ∷ [] ≡ label ++ wire labels = append_assoc label (labels_wire labels) (0 ∷ []) in
    let trailing : drop size (label ++ labels_wire labels ++ 0 ∷ []) ≡ wire labels = rw (body, ← at_prefix) (drop_at label (wire labels) (length label) refl) in
    let prefix : take size (label ++ labels_wire labels ++ 0 ∷ []) ≡ label = rw (body, ← at_prefix) (take_at label (wire labels) (length label) refl) in
    record {
      room = omega (arith, at_prefix, wire_long (label ∷ labels), length-append label (labels_wire labels));
      labels = rw (prefix, trailing, again.1) (labels_of_wire (label ∷ labels) is).1;
      whole = rw (trailing, again.1) again.0;
    }

pub first_label : (bytes : List ℕ) → all_of (plain_name bytes) ≡ Some (name_labels bytes) → 0 < get_or bytes 0 0 → FirstLabel bytes (get_or bytes 0 0)
first_label bytes e some =
    let t = name_octets bytes (name_labels bytes) e in
    subst (λ (b : List ℕ). 0 < get_or b 0 0 → FirstLabel b (get_or b 0 0)) (sym t.1) (first_of (name_labels bytes) _ t.0 refl) some

only_root : (labels : List (List ℕ)) → IsName labels → get_or (wire labels) 0 0 ≡ 0 → labels ≡ []
only_root [] is e = refl
only_root (label ∷ labels) is e = absurd (omega (arith, is.sizes.0.0))

pub root_first : (bytes : List ℕ) → all_of (plain_name bytes) ≡ Some (name_labels bytes) → get_or bytes 0 0 ≡ 0 → name_labels bytes ≡ []
root_first bytes e at_prefix =
    let t = name_octets bytes (name_labels bytes) e in
    only_root (name_labels bytes) t.0 (subst (λ (b : List ℕ). get_or b 0 0 ≡ 0) t.1 at_prefix)
