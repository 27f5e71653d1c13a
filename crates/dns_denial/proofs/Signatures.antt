-- The names that were signed.
use Rattle.std.proofs.Common.{◌≡◌, ℕ, ◌<◌, ◌≤◌, ◌==◌, Bool, true, false, cond, List, [], ◌∷◌, ◌++◌, length, take, drop, reverse, eqb-true, refl, sym, ap, ◌∙◌, arith, append_assoc, length-append, length-drop}
use Rattle.std.specs.Prelude.{◌+◌, ◌-◌, codes, slice_index}
use Rattle.std.proofs.lemmas.List.{take_at, drop_at, drop-drop, reverse-append, reverse-reverse, length-reverse, take-append-drop}
use Rattle.dns_wire.specs.Names.{labels_wire, wire}
use Rattle.dns_denial.specs.Signed.{signed_owner}

-- ---- names

-- the first label and its length are before the others
pub next_rest : (labels : List (List ℕ)) (i : ℕ) (rest : List ℕ) → i < length labels → rest ≡ wire (drop i labels)
    → (0 < length rest) × (1 + slice_index rest 0 ≤ length rest) × (drop (1 + slice_index rest 0) rest ≡ wire (drop (i + 1) labels))
next_rest labels i rest within is = by (drop i labels) refl where
  by : (left : List (List ℕ)) → drop i labels ≡ left → (0 < length rest) × (1 + slice_index rest 0 ≤ length rest) × (drop (1 + slice_index rest 0) rest ≡ wire (drop (i + 1) labels))
  by [] none = absurd (omega (arith, ap length none, length-drop i labels))
  by (label ∷ more) some =
      let next : drop (i + 1) labels ≡ more = sym (drop-drop 1 i labels) ∙ ap (drop 1) some in
      let octets : rest ≡ length label ∷ ((label ++ labels_wire more) ++ 0 ∷ []) = is ∙ ap wire some in
      let size : slice_index rest 0 ≡ length label = ap (λ (l : List ℕ). slice_index l 0) octets in
      let long : length rest ≡ 1 + (length label + length (wire more)) =
      ap length octets ∙ omega (arith, length-append (label ++ labels_wire more) (0 ∷ []), length-append label (labels_wire more), length-append (labels_wire more) (0 ∷ [])) in
      let after : drop (1 + length label) (length label ∷ ((label ++ labels_wire more) ++ 0 ∷ [])) ≡ wire more =
      ap (λ (l : List ℕ). drop (1 + length label) (length label ∷ l)) (append_assoc label (labels_wire more) (0 ∷ []))
      ∙ drop_at (length label ∷ label) (wire more) (1 + length label) (omega arith) in
      (omega (arith, long), omega (arith, long, size), (λ j. drop (1 + size j) (octets j)) ∙ after ∙ ap wire (sym next))

-- the first labels of a name turned are its last ones
last_labels : (labels : List (List ℕ)) (count : ℕ) → count ≤ length labels → reverse (take count (reverse labels)) ≡ drop (length labels - count) labels
last_labels labels count few =
    let first = take (length labels - count) labels in
    let last = drop (length labels - count) labels in
    let turned : reverse labels ≡ reverse last ++ reverse first = ap reverse (sym (take-append-drop (length labels - count) labels)) ∙ reverse-append first last in
    let long : length (reverse last) ≡ count = omega (arith, length-reverse last, length-drop (length labels - count) labels, few) in
    ap (λ (l : List (List ℕ)). reverse (take count l)) turned ∙ ap reverse (take_at (reverse last) (reverse first) count long) ∙ reverse-reverse last

-- the owner that was signed is a wildcard
pub wildcard_owner : (owner : List (List ℕ)) (count : ℕ) → count < length owner
    → 1 ∷ 42 ∷ wire (drop (length owner - count) owner) ≡ wire (reverse (signed_owner count (reverse owner)))
wildcard_owner owner count less = by (count == length (reverse owner)) refl where
  by : (b : Bool) → (count == length (reverse owner)) ≡ b
      → 1 ∷ 42 ∷ wire (drop (length owner - count) owner) ≡ wire (reverse (cond {A = List (List ℕ)} b (reverse owner) (take count (reverse owner) ++ codes "*" ∷ [])))
  by true e = absurd (omega (arith, eqb-true count (length (reverse owner)) e, length-reverse owner, less))
  by false e =
      let few : count ≤ length owner = omega (arith, less) in
      sym (ap wire (reverse-append (take count (reverse owner)) (codes "*" ∷ []) ∙ ap (λ (l : List (List ℕ)). codes "*" ∷ l) (last_labels owner count few)))
