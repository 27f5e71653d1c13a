-- What names from the root on are, in words.
use Rattle.std.proofs.Common.{◌≡◌, ℕ, ◌≤◌, ◌<◌, inl, inr, List, [], ◌∷◌, ◌++◌, length, get_or, take, drop, Option, Some, None, refl, sym, ap, subst, ◌∙◌, arith}
use Rattle.std.specs.Prelude.{map, reverse, option_map, unwrap_or, ◌==◌}
use Rattle.std.specs.List.{AllByRecursion}
use Rattle.std.proofs.lemmas.Bool.Decides.{nat_tests}
use Rattle.std.proofs.lemmas.List.{take_at, drop_at, length-append, append-nil, map-append, reverse-append, reverse-reverse}
use Rattle.std.specs.Char.{to_ascii_lowercase}
use Rattle.std.specs.Str.{str_to_ascii_lowercase}
use Rattle.dns_wire.specs.Names.{labels_wire, wire, IsLabel, IsName, lowered}
use Rattle.dns_wire.specs.Reversed.{relative_name, relative_labels, reversed_wire, reversed_name, reversed_name_labels}
use Rattle.dns_wire.proofs.Spelled.{chosen, name_octets, labels_of_wire}
use Rattle.dns_wire.proofs.Lowered.{lower_wire}
use Rattle.dns_wire.proofs.Walk.{AllByRecursion-append, labels_wire-append, wire_long}

-- ---- labels the other way

pub reverse-cons : (label : List ℕ) (labels : List (List ℕ)) → reverse (label ∷ labels) ≡ reverse labels ++ label ∷ []
reverse-cons label labels = reverse-append (label ∷ []) labels

labels_wire-reverse : (label : List ℕ) (labels : List (List ℕ)) → labels_wire (reverse (label ∷ labels)) ≡ labels_wire (reverse labels) ++ (length label ∷ label)
labels_wire-reverse label labels =
    ap labels_wire (reverse-cons label labels) ∙ labels_wire-append (reverse labels) (label ∷ []) ∙ ap (λ (l : List ℕ). labels_wire (reverse labels) ++ (length label ∷ l)) (append-nil label)

pub reversed_long : (labels : List (List ℕ)) → length (labels_wire (reverse labels)) ≡ length (labels_wire labels)
reversed_long [] = refl
reversed_long (label ∷ labels) =
    ap length (labels_wire-reverse label labels) ∙ length-append (labels_wire (reverse labels)) (length label ∷ label) ∙ omega (arith, reversed_long labels, length-append label (labels_wire labels))

sizes_reversed : (labels : List (List ℕ)) → AllByRecursion IsLabel labels → AllByRecursion IsLabel (reverse labels)
sizes_reversed [] is = tt
sizes_reversed (label ∷ labels) is =
    subst (λ (l : List (List ℕ)). AllByRecursion IsLabel l) (sym (reverse-cons label labels)) (AllByRecursion-append (reverse labels) (label ∷ []) (sizes_reversed labels is.1) (is.0, tt))

pub name_reversed : (labels : List (List ℕ)) → IsName labels → IsName (reverse labels)
name_reversed labels is =
    record { sizes = sizes_reversed labels is.sizes; size = omega (arith, is.size, wire_long labels, wire_long (reverse labels), reversed_long labels) }

-- ---- labels with no root after them

-- what is after both is cut off
cut_root : (xs ys : List ℕ) → xs ++ 0 ∷ [] ≡ ys ++ 0 ∷ [] → xs ≡ ys
cut_root xs ys e =
    let same : length xs ≡ length ys = omega (arith, ap length e, length-append xs (0 ∷ []), length-append ys (0 ∷ [])) in
    sym (take_at xs (0 ∷ []) (length xs) refl) ∙ ap (take (length xs)) e ∙ take_at ys (0 ∷ []) (length xs) (sym same)

pub relative_is : (bytes : List ℕ) (labels : List (List ℕ)) → relative_name bytes ≡ Some labels → IsName labels × (bytes ≡ labels_wire labels)
relative_is bytes labels e =
    let t = name_octets (bytes ++ 0 ∷ []) labels e in
    (t.0, cut_root bytes (labels_wire labels) t.1)

pub relative_read : (labels : List (List ℕ)) → IsName labels → (relative_name (labels_wire labels) ≡ Some labels) × (relative_labels (labels_wire labels) ≡ labels)
relative_read labels is = labels_of_wire labels is

-- the first label of some
pub record FirstOfRelative (bytes : List ℕ) (size : ℕ) (trailing : List ℕ) : Type 0 where
  pub room : size ≤ length trailing
  pub labels : relative_labels bytes ≡ take size trailing ∷ relative_labels (drop size trailing)
  pub whole : relative_name (drop size trailing) ≡ Some (relative_labels (drop size trailing))

first_of : (labels : List (List ℕ)) (bytes : List ℕ) (size : ℕ) (trailing : List ℕ) → IsName labels → bytes ≡ labels_wire labels → bytes ≡ size ∷ trailing → FirstOfRelative bytes size trailing
first_of [] bytes size trailing is e parts = absurd (omega (arith, ap length e, ap length parts))
first_of (label ∷ labels) bytes size trailing is e parts =
    let rest : IsName labels = record { sizes = is.sizes.1; size = omega (arith, is.size, wire_long labels, wire_long (label ∷ labels), length-append label (labels_wire labels)) } in
    let again = relative_read labels rest in
    let both : size ∷ trailing ≡ length label ∷ (label ++ labels_wire labels) = sym parts ∙ e in
    let long : size ≡ length label = ap (λ (l : List ℕ). get_or l 0 0) both in
    let body : trailing ≡ label ++ labels_wire labels = ap (drop 1) both in
    let at_prefix : take size trailing ≡ label = rw body (take_at label (labels_wire labels) size (sym long)) in
    let at_back : drop size trailing ≡ labels_wire labels = rw body (drop_at label (labels_wire labels) size (sym long)) in
    let others : take size trailing ∷ relative_labels (drop size trailing) ≡ label ∷ labels = rw (at_prefix, at_back, again.1) refl in
    record {
      room = omega (arith, long, ap length body, length-append label (labels_wire labels));
      labels = ap relative_labels e ∙ (relative_read (label ∷ labels) is).1 ∙ sym others;
      whole = rw (at_back, again.1) again.0;
    }

pub first_of_relative : (bytes : List ℕ) (size : ℕ) (trailing : List ℕ) → relative_name bytes ≡ Some (relative_labels bytes) → bytes ≡ size ∷ trailing → FirstOfRelative bytes size trailing
first_of_relative bytes size trailing e parts =
    let t = relative_is bytes (relative_labels bytes) e in
    first_of (relative_labels bytes) bytes size trailing t.0 t.1 parts

pub no_labels : (labels : List (List ℕ)) → labels_wire labels ≡ [] → labels ≡ []
no_labels [] e = refl
no_labels (label ∷ labels) e = absurd cc

-- if there are no octets, there are no labels
pub empty_relative : (bytes : List ℕ) → relative_name bytes ≡ Some (relative_labels bytes) → length bytes ≡ 0 → relative_labels bytes ≡ []
empty_relative bytes e none =
    let t = relative_is bytes (relative_labels bytes) e in
    no_labels (relative_labels bytes) (sym t.1 ∙ nothing bytes none) where
      nothing : (bytes : List ℕ) → length bytes ≡ 0 → bytes ≡ []
      nothing [] e = refl
      nothing (x ∷ xs) e = absurd (omega arith)

-- ---- names from the root on

-- the name's octets from the root on are read
pub reversed_read : (labels : List (List ℕ)) → IsName labels → reversed_name (reversed_wire labels) ≡ Some labels
unfolding reversed_name
reversed_read labels is =
    ap (option_map reverse) (relative_read (reverse labels) (name_reversed labels is)).0 ∙ ap Some (reverse-reverse labels)

mapped : (read : Option (List (List ℕ))) (labels : List (List ℕ)) → option_map reverse read ≡ Some labels → read ≡ Some (reverse labels)
mapped None labels e = absurd cc
mapped (Some relative) labels e = let same : reverse relative ≡ labels = cc in ap Some (sym (reverse-reverse relative) ∙ ap reverse same)

-- what is read is spelled so
pub reversed_is : (bytes : List ℕ) (labels : List (List ℕ)) → reversed_name bytes ≡ Some labels → IsName labels × (bytes ≡ reversed_wire labels)
unfolding reversed_name
reversed_is [] labels e = absurd cc
reversed_is (size ∷ relative) labels e =
    elim (chosen (size == 0) _ _ _ e) [
      | inl zero ↦
          let root : size ≡ 0 = grind (arith, nat_tests, zero.0) in
          let t = relative_is relative (reverse labels) (mapped (relative_name relative) labels zero.1) in
          (subst (λ (l : List (List ℕ)). IsName l) (reverse-reverse labels) (name_reversed (reverse labels) t.0), rw (root, t.1) refl)
      | inr other ↦ absurd (let h = other.1 in cc)
    ]

-- the labels of octets that are read
pub reversed_labels : (labels : List (List ℕ)) → IsName labels → reversed_name_labels (reversed_wire labels) ≡ labels
reversed_labels labels is = ap (λ (read : Option (List (List ℕ))). unwrap_or read []) (reversed_read labels is)

-- after the root come the labels from the last to the first
pub relative_after_root : (bytes : List ℕ) → reversed_name bytes ≡ Some (reversed_name_labels bytes) → (relative_name (drop 1 bytes) ≡ Some (relative_labels (drop 1 bytes))) × (relative_labels (drop 1 bytes) ≡ reverse (reversed_name_labels bytes))
relative_after_root bytes e =
    let t = reversed_is bytes (reversed_name_labels bytes) e in
    let again = relative_read (reverse (reversed_name_labels bytes)) (name_reversed (reversed_name_labels bytes) t.0) in
    let relative : drop 1 bytes ≡ labels_wire (reverse (reversed_name_labels bytes)) = ap (drop 1) t.1 in
    let labels : relative_labels (drop 1 bytes) ≡ reverse (reversed_name_labels bytes) = ap relative_labels relative ∙ again.1 in
    (ap relative_name relative ∙ again.0 ∙ ap Some (sym labels), labels)

-- there are as many octets in both layouts
pub reversed_wire_long : (labels : List (List ℕ)) → length (reversed_wire labels) ≡ length (wire labels)
reversed_wire_long labels = omega (arith, reversed_long labels, wire_long labels)

pub root_is_name : IsName []
root_is_name = record { sizes = tt; size = omega arith }

-- how many octets there are
pub record ReversedSize (bytes : List ℕ) (labels : List (List ℕ)) : Type 0 where
  pub long : length bytes ≡ length (wire labels)
  pub some : 0 < length bytes
  pub short : length bytes ≤ 255
  pub name : IsName labels

pub reversed_size : (bytes : List ℕ) (labels : List (List ℕ)) → reversed_name bytes ≡ Some labels → ReversedSize bytes labels
reversed_size bytes labels e =
    let t = reversed_is bytes labels e in
    let long : length bytes ≡ length (wire labels) = ap length t.1 ∙ reversed_wire_long labels in
    record { long = long; some = omega (arith, long, wire_long labels); short = omega (arith, long, t.0.size); name = t.0 }

-- the root alone is one octet
pub root_alone : (labels : List (List ℕ)) → length (wire labels) ≡ 1 → labels ≡ []
root_alone [] e = refl
root_alone (label ∷ labels) e = absurd (omega (arith, e, wire_long (label ∷ labels)))

-- ---- lowercase letters

-- they change no order of labels
pub map-reverse : (f : List ℕ → List ℕ) (labels : List (List ℕ)) → map f (reverse labels) ≡ reverse (map f labels)
map-reverse f [] = refl
map-reverse f (label ∷ labels) =
    ap (map f) (reverse-cons label labels) ∙ map-append f (reverse labels) (label ∷ [])
    ∙ ap (λ (l : List (List ℕ)). l ++ f label ∷ []) (map-reverse f labels) ∙ sym (reverse-cons (f label) (map f labels))

pub lowered-reverse : (labels : List (List ℕ)) → lowered (reverse labels) ≡ reverse (lowered labels)
lowered-reverse = map-reverse str_to_ascii_lowercase

lower_labels_wire : (labels : List (List ℕ)) → AllByRecursion IsLabel labels → str_to_ascii_lowercase (labels_wire labels) ≡ labels_wire (lowered labels)
lower_labels_wire labels is =
    cut_root (str_to_ascii_lowercase (labels_wire labels)) (labels_wire (lowered labels)) (sym (map-append to_ascii_lowercase (labels_wire labels) (0 ∷ [])) ∙ lower_wire labels is)

-- a name's octets from the root on in lowercase are those of its labels in lowercase
pub lower_reversed : (labels : List (List ℕ)) → IsName labels → str_to_ascii_lowercase (reversed_wire labels) ≡ reversed_wire (lowered labels)
lower_reversed labels is =
    ap (λ (l : List ℕ). 0 ∷ l) (lower_labels_wire (reverse labels) (sizes_reversed labels is.sizes) ∙ ap labels_wire (lowered-reverse labels))

-- equal octets are one name's
pub reversed_one : (a b : List (List ℕ)) → IsName a → IsName b → reversed_wire a ≡ reversed_wire b → a ≡ b
reversed_one a b is js e =
    let same : Some a ≡ Some b = sym (reversed_read a is) ∙ ap reversed_name e ∙ reversed_read b js in cc
