-- The order of keys is the order of the labels that they are made of.
use Rattle.std.proofs.Common.{ℕ, map, zero, suc, length, take, drop, get_or, List, [], ◌∷◌, ◌++◌, ◌+◌, ◌<◌, ◌≤◌, ◌≡◌, ◌-◌, Some, cond, refl, sym, ap, ap₂, ◌∙◌, inl, inr, arith, slice_set, slice_index_or, append-nil}
use Rattle.std.specs.Cmp.{nat_cmp_is}
use Rattle.std.specs.Prelude.{flat_map}
use Rattle.std.specs.Ordering.{nat_cmp, ordering_then}
use Rattle.std.specs.Cmp.Lexicographic.{slice_cmp}
use Rattle.std.specs.declared.cmp.Ordering.TheVariants.{Less, Equal, Greater}
use Rattle.std.proofs.lemmas.Bool.{cases_lt, cases_order, lt-ltb, le-ltb}
use Rattle.std.proofs.lemmas.List.{append_assoc, length-append, length-map, length-take, length-drop, drop-drop, drop_all, drop_at, take_at, get_or-drop, reverse-append}
use Rattle.std.specs.Char.{to_ascii_lowercase}
use Rattle.std.specs.Str.{str_to_ascii_lowercase}
use Rattle.std.proofs.lemmas.Str.Ascii.{lowercase_is, lowercase-lowercase}
use Rattle.dns_wire.specs.Names.{IsLabel, labels_wire, name_labels, plain_name, wire}
use Rattle.dns_wire.proofs.Backward.{reversed_wire_long}
use Rattle.std.proofs.Math.Seq.{take-append_seam, take-append-add, take-nil}
use Rattle.std.specs.List.{AllByRecursion}
use Rattle.dns_wire.specs.Reading.{all_of}
use Rattle.dns_wire.proofs.Spelled.{name_octets}
use Rattle.dns_wire.proofs.Walk.{wire_long}
use Rattle.std.specs.Prelude.{reverse}
use Rattle.dns_record.proofs.ComparedOctets.{then_assoc}
use Rattle.dns_name.specs.Order.{key}
use Rattle.dns_message.specs.OwnerKeys.{key_octet, label_key, labels_key, owner_key}

pub low : (x : ℕ) → x < 65 → key_octet x ≡ x + 1
low x few = ap (λ b. cond b (x + 1) (to_ascii_lowercase x)) (lt-ltb x 65 few)

pub high : (x : ℕ) → 65 ≤ x → key_octet x ≡ to_ascii_lowercase x
high x many = ap (λ b. cond b (x + 1) (to_ascii_lowercase x)) (le-ltb x 65 many)

-- beyond `@` the octets in lowercase are beyond `Z`
pub past_capitals : (x : ℕ) → 65 ≤ x → 90 < to_ascii_lowercase x
past_capitals x many = elim (cases_lt 90 x) [
  | inl past ↦ omega (arith, past, (lowercase_is x).2 past)
  | inr letter ↦ omega (arith, many, (lowercase_is x).0 (many, letter))
]

-- case does not count
pub octet_lowered : (x : ℕ) → key_octet (to_ascii_lowercase x) ≡ key_octet x
octet_lowered x = elim (cases_lt x 65) [
  | inl few ↦ ap key_octet ((lowercase_is x).1 few)
  | inr many ↦ high (to_ascii_lowercase x) (omega (arith, past_capitals x many)) ∙ lowercase-lowercase x ∙ sym (high x many)
]

-- no octet of a key is 0
pub some : (x : ℕ) → 0 < key_octet x
some x = elim (cases_lt x 65) [
  | inl few ↦ omega (arith, low x few)
  | inr many ↦ omega (arith, high x many, past_capitals x many)
]

less : (x y : ℕ) → x < y → nat_cmp x y ≡ Less
less x y lt = sym (nat_cmp_is x y Less lt)

greater : (x y : ℕ) → y < x → nat_cmp x y ≡ Greater
greater x y lt = sym (nat_cmp_is x y Greater lt)

one_more : (x y : ℕ) → nat_cmp (x + 1) (y + 1) ≡ nat_cmp x y
one_more x y = elim (cases_order x y) [
  | inl same ↦ ap₂ nat_cmp (ap (λ n. n + 1) same) refl ∙ sym (nat_cmp_is (y + 1) (y + 1) Equal refl) ∙ nat_cmp_is x y Equal same
  | inr (inl lt) ↦ less (x + 1) (y + 1) (omega (arith, lt)) ∙ sym (less x y lt)
  | inr (inr gt) ↦ greater (x + 1) (y + 1) (omega (arith, gt)) ∙ sym (greater x y gt)
]

-- the order of two octets is kept
octet_order : (x y : ℕ) → nat_cmp (key_octet x) (key_octet y) ≡ nat_cmp (to_ascii_lowercase x) (to_ascii_lowercase y)
octet_order x y = elim (cases_lt x 65) [
  | inl few ↦ elim (cases_lt y 65) [
    | inl fewer ↦ ap₂ nat_cmp (low x few) (low y fewer) ∙ one_more x y ∙ sym (ap₂ nat_cmp ((lowercase_is x).1 few) ((lowercase_is y).1 fewer))
    | inr many ↦ less (key_octet x) (key_octet y) (omega (arith, few, low x few, high y many, past_capitals y many))
        ∙ sym (less (to_ascii_lowercase x) (to_ascii_lowercase y) (omega (arith, few, (lowercase_is x).1 few, past_capitals y many)))
  ]
  | inr many ↦ elim (cases_lt y 65) [
    | inl few ↦ greater (key_octet x) (key_octet y) (omega (arith, few, low y few, high x many, past_capitals x many))
        ∙ sym (greater (to_ascii_lowercase x) (to_ascii_lowercase y) (omega (arith, few, (lowercase_is y).1 few, past_capitals x many)))
    | inr more ↦ ap₂ nat_cmp (high x many) (high y more)
  ]
]

-- an end of a label comes before any octet
end_first : (y : ℕ) (xs : List (List ℕ)) (l : List ℕ) → slice_cmp nat_cmp (labels_key xs) (key_octet y ∷ l) ≡ Less
end_first y [] l = refl
end_first y (x ∷ xs) l = ap (λ o. ordering_then o (slice_cmp nat_cmp (map key_octet x ++ labels_key xs) l)) (less 0 (key_octet y) (some y))

end_last : (x : ℕ) (l : List ℕ) (ys : List (List ℕ)) → slice_cmp nat_cmp (key_octet x ∷ l) (labels_key ys) ≡ Greater
end_last x l [] = refl
end_last x l (y ∷ ys) = ap (λ o. ordering_then o (slice_cmp nat_cmp l (map key_octet y ++ labels_key ys))) (greater (key_octet x) 0 (some x))

-- the first label decides, and if it is the same, the labels after it
label_first : (a b : List ℕ) (xs ys : List (List ℕ))
    → slice_cmp nat_cmp (map key_octet a ++ labels_key xs) (map key_octet b ++ labels_key ys)
    ≡ ordering_then (slice_cmp nat_cmp (str_to_ascii_lowercase a) (str_to_ascii_lowercase b)) (slice_cmp nat_cmp (labels_key xs) (labels_key ys))
label_first [] [] xs ys = refl
label_first [] (y ∷ b) xs ys = end_first y xs (map key_octet b ++ labels_key ys)
label_first (x ∷ a) [] xs ys = end_last x (map key_octet a ++ labels_key xs) ys
label_first (x ∷ a) (y ∷ b) xs ys =
    ap₂ ordering_then (octet_order x y) (label_first a b xs ys)
    ∙ sym (then_assoc (nat_cmp (to_ascii_lowercase x) (to_ascii_lowercase y)) (slice_cmp nat_cmp (str_to_ascii_lowercase a) (str_to_ascii_lowercase b)) (slice_cmp nat_cmp (labels_key xs) (labels_key ys)))

-- keys come in the order of their labels in lowercase
pub keys_ordered : (xs ys : List (List ℕ))
    → slice_cmp nat_cmp (labels_key xs) (labels_key ys) ≡ slice_cmp (slice_cmp nat_cmp) (map str_to_ascii_lowercase xs) (map str_to_ascii_lowercase ys)
keys_ordered [] [] = refl
keys_ordered [] (y ∷ ys) = refl
keys_ordered (x ∷ xs) [] = refl
keys_ordered (x ∷ xs) (y ∷ ys) =
    label_first x y xs ys
    ∙ ap (ordering_then (slice_cmp nat_cmp (str_to_ascii_lowercase x) (str_to_ascii_lowercase y))) (keys_ordered xs ys)

-- ---- keys one after another

key_size : (labels : List (List ℕ)) → length (labels_key labels) ≡ length (labels_wire labels)
key_size [] = refl
key_size (label ∷ labels) = omega (
  arith,
  key_size labels,
  length-map label key_octet,
  length-append (map key_octet label) (labels_key labels),
  length-append label (labels_wire labels),
)

-- a key is as long as its owner
pub owner_size : (labels : List (List ℕ)) → length (owner_key labels) ≡ length (wire labels)
owner_size labels = key_size ([] ∷ reverse labels) ∙ reversed_wire_long labels

-- of the keys that are left the first, by its size
key_first : {R : Type 0} (f : R → List ℕ) (records : List R) (i : ℕ) (r : R) → i < length records → r ≡ get_or records i r
    → take (length (f r)) (flat_map f (drop i records)) ≡ f r
key_first f [] i r past is = absurd (omega (arith, past))
key_first f (x ∷ records) zero r within is = ap (λ y. take (length (f y)) (f x ++ flat_map f records)) is ∙ take-append_seam (f x) (flat_map f records) ∙ ap f (sym is)
key_first f (x ∷ records) (suc i) r within is = key_first f records i r (omega (arith, within)) is

pub first_key : {R : Type 0} (f : R → List ℕ) (records : List R) (i : ℕ) (r : R) (keys : List ℕ) (size : ℕ)
    → i < length records → r ≡ get_or records i r → keys ≡ flat_map f (drop i records) → size ≡ length (f r)
    → (size ≤ length keys) × (take size keys ≡ f r)
first_key f records i r keys size within is are long =
    let first : take size keys ≡ f r = ap₂ take long are ∙ key_first f records i r within is in
    (omega (arith, long, ap length first, length-take size keys), first)

-- ---- a key that is written from its end on

-- the labels before a place of a name are in the key that is after another place; what is left is in the owner from the place on
pub record KeyedFrom (owner : List ℕ) (at end : ℕ) (key : List ℕ) : Type 0 where
  pub before : List (List ℕ)
  pub left : List (List ℕ)
  pub labels_are : name_labels owner ≡ before ++ left
  pub sizes : AllByRecursion IsLabel left
  pub left_is : drop at owner ≡ wire left
  pub end_is : end ≡ length (wire left)
  pub key_is : drop end (take (length owner) key) ≡ labels_key (reverse before)

pub keyed_none : (owner key : List ℕ) → all_of (plain_name owner) ≡ Some (name_labels owner) → KeyedFrom owner 0 (length owner) key
keyed_none owner key e =
    let t = name_octets owner (name_labels owner) e in
    record {
      before = [];
      left = name_labels owner;
      labels_are = refl;
      sizes = t.0.sizes;
      left_is = t.1;
      end_is = ap length t.1;
      key_is = drop_all (length owner) (take (length owner) key) (omega (arith, length-take (length owner) key));
    }

-- a label is at the place
pub record NextLabel (owner : List ℕ) (at end : ℕ) (left : List (List ℕ)) : Type 0 where
  pub label : List ℕ
  pub rest : List (List ℕ)
  pub left_is : left ≡ label ∷ rest
  pub size : slice_index_or owner at 0 ≡ length label
  pub is : IsLabel label
  pub sizes : AllByRecursion IsLabel rest
  pub room : at + 1 + length label < length owner
  pub body : take (length label) (drop (at + 1) owner) ≡ label
  pub after : drop (at + 1 + length label) owner ≡ wire rest
  pub end_is : end ≡ length (wire rest) + (1 + length label)

module _ (owner : List ℕ) (at end : ℕ) where
  first_octet : (x : ℕ) (l : List ℕ) → drop at owner ≡ x ∷ l → slice_index_or owner at 0 ≡ x
  first_octet x l is =
      let here : at ≡ at + 0 = omega arith in
      ap (λ n. slice_index_or owner n 0) here ∙ sym (get_or-drop at owner 0 0) ∙ ap (λ (o : List ℕ). slice_index_or o 0 0) is

  pub place_within : (left : List (List ℕ)) → drop at owner ≡ wire left → at < length owner
  place_within left is = omega (arith, ap length is, length-drop at owner, wire_long left)

  next_label_is : (left : List (List ℕ)) → drop at owner ≡ wire left → AllByRecursion IsLabel left → end ≡ length (wire left) → (slice_index_or owner at 0 ≡ 0 → ⊥) → NextLabel owner at end left
  next_label_is [] is sizes end_is not = absurd (not (first_octet 0 [] is))
  next_label_is (label ∷ rest) is sizes end_is not =
      let whole : drop at owner ≡ length label ∷ (label ++ wire rest) = is ∙ ap (λ (l : List ℕ). length label ∷ l) (append_assoc label (labels_wire rest) (0 ∷ [])) in
      let body : drop (at + 1) owner ≡ label ++ wire rest = sym (drop-drop 1 at owner) ∙ ap (drop 1) whole in
      record {
        label = label;
        rest = rest;
        left_is = refl;
        size = first_octet (length label) (label ++ wire rest) whole;
        is = sizes.0;
        sizes = sizes.1;
        room = omega (arith, ap length whole, length-drop at owner, length-append label (wire rest), wire_long rest);
        body = ap (take (length label)) body ∙ take_at label (wire rest) (length label) refl;
        after = sym (drop-drop (length label) (at + 1) owner) ∙ ap (drop (length label)) body ∙ drop_at label (wire rest) (length label) refl;
        end_is = omega (arith, end_is, wire_long rest, wire_long (label ∷ rest), length-append label (labels_wire rest));
      }

  root_is : (left : List (List ℕ)) → drop at owner ≡ wire left → AllByRecursion IsLabel left → slice_index_or owner at 0 ≡ 0 → left ≡ []
  root_is [] is sizes zero_is = refl
  root_is (label ∷ rest) is sizes zero_is = absurd (omega (arith, sym (first_octet (length label) ((label ++ labels_wire rest) ++ 0 ∷ []) is) ∙ zero_is, sizes.0.0))

pub next_of : (owner : List ℕ) (at end : ℕ) (key : List ℕ) (so : KeyedFrom owner at end key) → (slice_index_or owner at 0 ≡ 0 → ⊥) → NextLabel owner at end so.left
next_of owner at end key so not = next_label_is owner at end so.left so.left_is so.sizes so.end_is not

pub left_within : (owner : List ℕ) (at end : ℕ) (key : List ℕ) → KeyedFrom owner at end key → (at < length owner) × (0 < end) × (end ≤ length owner)
left_within owner at end key so = (
  place_within owner at end so.left so.left_is,
  omega (arith, so.end_is, wire_long so.left),
  omega (arith, so.end_is, ap length so.left_is, length-drop at owner),
)

pub drop_taken : (k m n : ℕ) (xs : List ℕ) → m ≡ k + n → drop k (take m xs) ≡ take n (drop k xs)
drop_taken zero m n xs is = ap (λ i. take i xs) (omega (arith, is))
drop_taken (suc k) zero n xs is = absurd (omega (arith, is))
drop_taken (suc k) (suc m) n [] is = sym (take-nil n)
drop_taken (suc k) (suc m) n (x ∷ xs) is = drop_taken k m n xs (omega (arith, is))

-- a label's key was put before the others
pub keyed_more : (owner : List ℕ) (at end : ℕ) (key : List ℕ) (so : KeyedFrom owner at end key) (next : NextLabel owner at end so.left) (place begin : ℕ) (new : List ℕ)
    → place ≡ at + 1 + length next.label → begin + (1 + length next.label) ≡ end → length owner ≤ length key → new ≡ take begin key ++ (label_key next.label ++ drop end key) → KeyedFrom owner place begin new
keyed_more owner at end key so next place begin new place-is begin-is room new-is =
    let label = next.label in
    let within = left_within owner at end key so in
    let after = length owner - end in
    let front : length (take begin key) ≡ begin = omega (arith, length-take begin key, begin-is, within.2, room) in
    let long : length (label_key label) ≡ 1 + length label = omega (arith, length-map label key_octet) in
    let total : length owner ≡ length (take begin key) + (length (label_key label) + after) = omega (arith, front, long, begin-is, within.2) in
    let parts : length owner ≡ end + after = omega (arith, within.2) in
    let taken : take (length owner) new ≡ take begin key ++ (label_key label ++ take after (drop end key)) =
    ap₂ take total new-is
    ∙ take-append-add (take begin key) (label_key label ++ drop end key) (length (label_key label) + after)
    ∙ ap (λ (l : List ℕ). take begin key ++ l) (take-append-add (label_key label) (drop end key) after) in
    record {
      before = so.before ++ label ∷ [];
      left = next.rest;
      labels_are = so.labels_are ∙ ap (λ (l : List (List ℕ)). so.before ++ l) next.left_is ∙ sym (append_assoc so.before (label ∷ []) next.rest);
      sizes = next.sizes;
      left_is = ap (λ n. drop n owner) place-is ∙ next.after;
      end_is = omega (arith, next.end_is, begin-is);
      key_is =
          ap (drop begin) taken
          ∙ drop_at (take begin key) (label_key label ++ take after (drop end key)) begin front
          ∙ ap (λ (l : List ℕ). label_key label ++ l) (sym (drop_taken end (length owner) after key parts) ∙ so.key_is)
          ∙ ap labels_key (sym (reverse-append so.before (label ∷ [])));
    }

-- and the root's at last
pub keyed_whole : (owner : List ℕ) (at end : ℕ) (key : List ℕ) → KeyedFrom owner at end key → slice_index_or owner at 0 ≡ 0 → length owner ≤ length key → take (length owner) (slice_set key 0 0) ≡ owner_key (name_labels owner)
keyed_whole owner at end key so zero_is room =
    let none = root_is owner at end so.left so.left_is so.sizes zero_is in
    let one : end ≡ 1 = so.end_is ∙ ap (λ (l : List (List ℕ)). length (wire l)) none in
    let labels : name_labels owner ≡ so.before = so.labels_are ∙ ap (λ (l : List (List ℕ)). so.before ++ l) none ∙ append-nil so.before in
    first owner key (left_within owner at end key so).0 room (ap (λ n. drop n (take (length owner) key)) (sym one) ∙ so.key_is) ∙ ap owner_key (sym labels)
  where
    first : (owner key : List ℕ) → at < length owner → length owner ≤ length key → drop 1 (take (length owner) key) ≡ labels_key (reverse so.before) → take (length owner) (slice_set key 0 0) ≡ 0 ∷ labels_key (reverse so.before)
    first [] key within room is = absurd (omega (arith, within))
    first (o ∷ owner) [] within room is = absurd (omega (arith, room))
    first (o ∷ owner) (x ∷ key) within room is = ap (λ (l : List ℕ). 0 ∷ l) is
