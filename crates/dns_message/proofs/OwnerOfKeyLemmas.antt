-- Owners that are read back from their keys.
use Rattle.std.proofs.Common.{ℕ, map, length, take, drop, get_or, List, [], ◌∷◌, ◌++◌, ◌+◌, ◌-◌, ◌<◌, ◌≤◌, ◌≡◌, ◌≢◌, cond, refl, sym, ap, ap₂, set, subst, ◌∙◌, inl, inr, Some, Result, Ok, Err, arith, append-nil, append_assoc}
use Rattle.std.specs.Prelude.{reverse}
use Rattle.std.specs.Char.{to_ascii_lowercase}
use Rattle.std.specs.Result.{result_ok}
use Rattle.std.specs.Str.{str_to_ascii_lowercase}
use Rattle.std.proofs.lemmas.Bool.{cases_lt, cases_order, lt-ltb, le-ltb}
use Rattle.std.proofs.lemmas.List.{drop-drop, drop-set, drop_all, drop_at, get_or-append-add, get_or-drop, get_or-map, get_or_append_left, length-append, length-drop, length-map, length-take, reverse-reverse, take_at}
use Rattle.dns_wire.specs.Names.{labels_wire, lowered, plain_name, wire}
use Rattle.dns_wire.specs.Reading.{Gives, all_of}
use Rattle.dns_wire.proofs.Backward.{map-reverse, reverse-cons}
use Rattle.dns_wire.proofs.Spelled.{labels_of_wire}
use Rattle.dns_wire.proofs.Walk.{wire_long}
use Rattle.dns_message.specs.OwnerKeys.{IsKeyOf, key_octet, labels_key, lowercase_octet}
use Rattle.dns_message.proofs.OwnerKeyLemmas.{high, low, owner_size, past_capitals, some}

-- ---- a label

-- the octet in lowercase comes back
octet_again : (x : ℕ) → to_ascii_lowercase x ≡ x → lowercase_octet (key_octet x) ≡ x
octet_again x is = elim (cases_lt x 65) [
  | inl few ↦ ap lowercase_octet (low x few) ∙ ap (λ b. cond b (x + 1) (x + 1 - 1)) (le-ltb 65 (x + 1) (omega arith)) ∙ omega arith
  | inr many ↦ ap lowercase_octet (high x many ∙ is) ∙ ap (λ b. cond b x (x - 1)) (lt-ltb 65 x (omega (arith, past_capitals x many, is)))
]

label_again : (label : List ℕ) → str_to_ascii_lowercase label ≡ label → map lowercase_octet (map key_octet label) ≡ label
label_again [] is = refl
label_again (x ∷ label) is = ap₂ (λ y (l : List ℕ). y ∷ l) (octet_again x (ap (λ l. get_or l 0 0) is)) (label_again label (ap (drop 1) is))

-- after the octets of a label there is a 0 or nothing
first_zero : (labels : List (List ℕ)) → get_or (labels_key labels) 0 0 ≡ 0
first_zero [] = refl
first_zero (label ∷ labels) = refl

module _ (key : List ℕ) (begin : ℕ) (label : List ℕ) (rest : List (List ℕ)) (parts : drop begin key ≡ map key_octet label ++ labels_key rest) where
  place_in : (k : ℕ) → get_or key (begin + k) 0 ≡ get_or (map key_octet label ++ labels_key rest) k 0
  place_in k = sym (get_or-drop begin key k 0) ∙ ap (λ (l : List ℕ). get_or l k 0) parts

  within_label : (k : ℕ) → k < length label → 0 < get_or key (begin + k) 0
  within_label k within =
      let left = get_or_append_left (map key_octet label) (labels_key rest) 0 k (omega (arith, length-map label key_octet)) in
      let here = get_or-map key_octet label k 0 0 within in
      omega (arith, place_in k, left, here, some (get_or label k 0))

  past_label : get_or key (begin + length label) 0 ≡ 0
  past_label =
      let long : length label ≡ length (map key_octet label) + 0 = omega (arith, length-map label key_octet) in
      place_in (length label)
      ∙ ap (λ k. get_or (map key_octet label ++ labels_key rest) k 0) long
      ∙ get_or-append-add (map key_octet label) (labels_key rest) 0 0
      ∙ first_zero rest

  label_within : begin ≤ length key → begin + length label ≤ length key
  label_within within = omega (arith, ap length parts, length-drop begin key, length-append (map key_octet label) (labels_key rest), length-map label key_octet)

  -- the first 0 is where the label ends
  pub label_end_is : (end : ℕ) → begin ≤ end → end ≤ length key → ((k : ℕ) → begin ≤ k → k < end → get_or key k 0 ≢ 0) → (end < length key → get_or key end 0 ≡ 0) → end ≡ begin + length label
  label_end_is end after within octets ended = elim (cases_order end (begin + length label)) [
    | inl same ↦ same
    | inr (inl less) ↦
        let here : begin + (end - begin) ≡ end = omega arith in
        let zero_is = ended (omega (arith, label_within (omega arith))) in
        absurd (omega (arith, within_label (end - begin) (omega arith), ap (λ k. get_or key k 0) here, zero_is))
    | inr (inr more) ↦ absurd (octets (begin + length label) (omega arith) more past_label)
  ]

-- ---- the labels from the root's on

-- the labels before a place of a key are in the name from another place on, which is as far from the end; what is left is in the key from the place on
pub record ReadFrom (owner : List (List ℕ)) (key : List ℕ) (at : ℕ) (name : List ℕ) : Type 0 where
  pub done : List (List ℕ)
  pub left : List (List ℕ)
  pub owner_is : owner ≡ reverse left ++ done
  pub lowercase : lowered left ≡ left
  pub left_is : drop at key ≡ labels_key left
  pub name_is : drop (length key - at) name ≡ wire done

pub read_none : (owner : List (List ℕ)) (key name : List ℕ) → IsKeyOf key owner → 0 < length key → length name ≡ length key → ReadFrom owner key 1 (set name (length key - 1) 0)
read_none owner key name is some_octet long =
    let last = length key - 1 in
    record {
      done = [];
      left = reverse owner;
      owner_is = sym (append-nil (reverse (reverse owner)) ∙ reverse-reverse owner);
      lowercase = map-reverse str_to_ascii_lowercase owner ∙ ap reverse is.lowercase;
      left_is = ap (drop 1) is.key_is;
      name_is = drop-set name last 0 (omega arith) ∙ ap (λ (l : List ℕ). 0 ∷ l) (drop_all (last + 1) name (omega arith));
    }

-- a label begins at the place
record LabelAt (key : List ℕ) (at : ℕ) (left : List (List ℕ)) : Type 0 where
  label : List ℕ
  rest : List (List ℕ)
  left_is : left ≡ label ∷ rest
  octets : drop (at + 1) key ≡ map key_octet label ++ labels_key rest

label_at : (key : List ℕ) (at : ℕ) (left : List (List ℕ)) → drop at key ≡ labels_key left → at < length key → LabelAt key at left
label_at key at [] is within = absurd (omega (arith, ap length is, length-drop at key))
label_at key at (label ∷ rest) is within = record {
  label = label;
  rest = rest;
  left_is = refl;
  octets = sym (drop-drop 1 at key) ∙ ap (drop 1) is;
}

-- a label's octets are put before the others
pub read_more : (owner : List (List ℕ)) (key : List ℕ) (at next : ℕ) (name octets written new : List ℕ)
    → ReadFrom owner key at name → length name ≡ length key → at < next → next ≤ length key
    → ((k : ℕ) → at + 1 ≤ k → k < next → get_or key k 0 ≢ 0) → (next < length key → get_or key next 0 ≡ 0)
    → octets ≡ take (next - (at + 1)) (drop (at + 1) key)
    → written ≡ length octets ∷ map lowercase_octet octets
    → new ≡ take (length key - next) name ++ (written ++ drop (length key - at) name)
    → ReadFrom owner key next new
read_more owner key at next name octets written new so long after within others ended octets_are written_is new_is =
    let t = label_at key at so.left so.left_is (omega (arith, after, within)) in
    let label = t.label in
    let end : next ≡ at + 1 + length label = label_end_is key (at + 1) label t.rest t.octets next (omega (arith, after)) within others ended in
    let size : length (map key_octet label) ≡ next - (at + 1) = omega (arith, length-map label key_octet, end) in
    let keyed : octets ≡ map key_octet label = octets_are ∙ ap (take (next - (at + 1))) t.octets ∙ take_at (map key_octet label) (labels_key t.rest) (next - (at + 1)) size in
    let low_left : lowered (label ∷ t.rest) ≡ label ∷ t.rest = sym (ap lowered t.left_is) ∙ so.lowercase ∙ t.left_is in
    let again : map lowercase_octet octets ≡ label = ap (map lowercase_octet) keyed ∙ label_again label (ap (λ (l : List (List ℕ)). get_or l 0 []) low_left) in
    let count : length octets ≡ length label = ap length keyed ∙ length-map label key_octet in
    let whole : written ≡ length label ∷ label = written_is ∙ ap₂ (λ n (l : List ℕ). n ∷ l) count again in
    let before : length (take (length key - next) name) ≡ length key - next = omega (arith, length-take (length key - next) name, long) in
    record {
      done = label ∷ so.done;
      left = t.rest;
      owner_is = so.owner_is ∙ ap (λ (l : List (List ℕ)). reverse l ++ so.done) t.left_is ∙ ap (λ (l : List (List ℕ)). l ++ so.done) (reverse-cons label t.rest) ∙ append_assoc (reverse t.rest) (label ∷ []) so.done;
      lowercase = ap (drop 1) low_left;
      left_is =
          ap (λ n. drop n key) end
          ∙ sym (drop-drop (length label) (at + 1) key)
          ∙ ap (drop (length label)) t.octets
          ∙ drop_at (map key_octet label) (labels_key t.rest) (length label) (length-map label key_octet);
      name_is =
          ap (drop (length key - next)) new_is
          ∙ drop_at (take (length key - next) name) (written ++ drop (length key - at) name) (length key - next) before
          ∙ ap₂ (λ (l r : List ℕ). l ++ r) whole so.name_is
          ∙ ap (λ (l : List ℕ). length label ∷ l) (sym (append_assoc label (labels_wire so.done) (0 ∷ [])));
    }

none_left : (labels : List (List ℕ)) → labels_key labels ≡ [] → labels ≡ []
none_left [] is = refl
none_left (label ∷ labels) is = absurd (omega (arith, ap length is))

-- all labels are read
pub read_whole : (owner : List (List ℕ)) (key : List ℕ) (at : ℕ) (name : List ℕ) → ReadFrom owner key at name → length key ≤ at → name ≡ wire owner
read_whole owner key at name so past =
    let none : so.left ≡ [] = none_left so.left (sym so.left_is ∙ drop_all at key past) in
    let done : owner ≡ so.done = so.owner_is ∙ ap (λ (l : List (List ℕ)). reverse l ++ so.done) none in
    let start : length key - at ≡ 0 = omega (arith, past) in
    ap (λ n. drop n name) (sym start) ∙ so.name_is ∙ ap wire (sym done)

-- ---- the owner

given : {E : Type 0} (result : Result (List (List ℕ)) E) (owner : List (List ℕ)) → Gives (λ v. v) result (Some owner) → result_ok result ≡ Some owner
given (Ok v) owner e = sym e
given (Err x) owner e = absurd cc

-- from the octets of a name in lowercase its labels are read
pub owner_given : {E : Type 0} (result : Result (List (List ℕ)) E) (octets : List ℕ) (owner : List (List ℕ)) (key : List ℕ)
    → IsKeyOf key owner → octets ≡ wire owner → Gives (λ v. v) result (all_of (plain_name octets)) → result_ok result ≡ Some owner
owner_given result octets owner key is octets_are gives =
    given result owner (subst (λ r. Gives (λ v. v) result r) (ap (λ l. all_of (plain_name l)) octets_are ∙ (labels_of_wire owner is.name).0) gives)

-- a key has as many octets as its owner: 1 to 255
pub key_sizes : (owner : List (List ℕ)) (key : List ℕ) → IsKeyOf key owner → (0 < length key) × (length key ≤ 255)
key_sizes owner key is = (
  omega (arith, ap length is.key_is, owner_size owner, wire_long owner),
  omega (arith, ap length is.key_is, owner_size owner, is.name.size),
)
