-- The places that are recorded after a name is written, in words.
use Rattle.std.proofs.Common.{◌≡◌, ℕ, zero, suc, ◌+◌, ◌-◌, ◌<◌, ◌≤◌, ◌⊎◌, inl, inr, Bool, true, false, List, [], ◌∷◌, ◌++◌, length, take, drop, refl, sym, ap, subst, ◌∙◌, append_assoc, arith}
use Rattle.std.specs.Prelude.{slice_index, filter, Contains}
use Rattle.std.specs.List.{AllByRecursion}
use Rattle.std.proofs.lemmas.Bool.Decides.{nat_tests}
use Rattle.std.proofs.lemmas.List.{length-append, take-append-drop, take-take, take_at}
use Rattle.std.proofs.lemmas.List.Elements.{Contains-append_left, Contains-append_right, Contains-append_cases, filter-append}
use Rattle.std.proofs.Math.Seq.{get_or-append_seam}
use Rattle.dns_wire.specs.Compression.{BeginsAt, EndsLabels, is_label_size, is_within_reach, label_places, recorded}
use Rattle.dns_wire.specs.Names.{IsLabel, labels_wire}
use Rattle.dns_wire.specs.declared.sizes.TheConstants.{LAST_PLACE, MAX_PLACES}
use Rattle.dns_wire.proofs.Noting.{label_step, filter_step}
use Rattle.dns_wire.proofs.Walk.{labels_wire_long}

-- ---- where labels begin

abbrev offsets : ℕ → List (List ℕ) → List ℕ
offsets start [] = []
offsets start (label ∷ labels) = start ∷ offsets (start + 1 + length label) labels

labels_at : (labels : List (List ℕ)) (most : ℕ) (contents tail : List ℕ) → AllByRecursion IsLabel labels → EndsLabels tail → length labels < most
    → label_places most (contents ++ (labels_wire labels ++ tail)) (length contents) ≡ offsets (length contents) labels
labels_at [] zero contents tail are ends long = absurd (omega arith)
labels_at [] (suc most) contents [] are ends long = absurd ends
labels_at [] (suc most) contents (octet ∷ rest) are ends long =
    let text : List ℕ = contents ++ octet ∷ rest in
    let here : slice_index text (length contents) ≡ octet = get_or-append_seam contents octet rest 0 in
    let none : is_label_size (slice_index text (length contents)) ≡ false = ap is_label_size here ∙ no_size octet ends in
    label_step text most (length contents) false none where
      no_size : (octet : ℕ) → (octet ≡ 0) ⊎ (64 ≤ octet) → is_label_size octet ≡ false
      no_size octet (inl is) = rw is refl
      no_size octet (inr high) = grind (arith, nat_tests)
labels_at (label ∷ labels) zero contents tail are ends long = absurd (omega arith)
labels_at (label ∷ labels) (suc most) contents tail are ends long =
    let rest : List ℕ = label ++ labels_wire labels in
    let text : List ℕ = contents ++ (length label ∷ (rest ++ tail)) in
    let here : slice_index text (length contents) ≡ length label = get_or-append_seam contents (length label) (rest ++ tail) 0 in
    let some : 0 < length label = are.0.0 in
    let few : length label < 64 = are.0.1 in
    let size : is_label_size (length label) ≡ true = grind (arith, nat_tests) in
    let longer : List ℕ = contents ++ (length label ∷ label) in
    let long_is : length longer ≡ length contents + 1 + length label = length-append contents (length label ∷ label) ∙ omega arith in
    let same : text ≡ longer ++ (labels_wire labels ++ tail) =
    ap (λ (l : List ℕ). contents ++ (length label ∷ l)) (append_assoc label (labels_wire labels) tail) ∙ sym (append_assoc contents (length label ∷ label) (labels_wire labels ++ tail)) in
    label_step text most (length contents) true (ap is_label_size here ∙ size)
    ∙ ap (λ (n : ℕ). length contents ∷ label_places most text (length contents + 1 + n)) here
    ∙ ap (λ (l : List ℕ). length contents ∷ label_places most l (length contents + 1 + length label)) same
    ∙ ap (λ (n : ℕ). length contents ∷ label_places most (longer ++ (labels_wire labels ++ tail)) n) (sym long_is)
    ∙ ap (λ (l : List ℕ). length contents ∷ l) (labels_at labels most longer tail are.1 ends (omega (arith, long)))
    ∙ ap (λ (n : ℕ). length contents ∷ offsets n labels) long_is

further_in : (start : ℕ) (label : List ℕ) (labels : List (List ℕ)) (place : ℕ) → BeginsAt (start + 1 + length label) labels place → BeginsAt start (label ∷ labels) place
further_in start label labels place b = record {
  before = label ∷ b.before;
  label = b.label;
  others = b.others;
  labels_is = ap (λ (l : List (List ℕ)). label ∷ l) b.labels_is;
  place_is = b.place_is ∙ omega (arith, length-append label (labels_wire b.before));
}

only : (x y : ℕ) → Contains (x ∷ []) y → x ≡ y
only x y (zero, lt, is) = is
only x y (suc k, lt, is) = absurd (omega arith)

itself : (x : ℕ) → Contains (x ∷ []) x
itself x = (0, omega arith, refl)

offsets_in : (labels : List (List ℕ)) (start place : ℕ) → Contains (offsets start labels) place → BeginsAt start labels place
offsets_in [] start place has = absurd (omega (arith, has.1))
offsets_in (label ∷ labels) start place has =
    elim (Contains-append_cases (start ∷ []) (offsets (start + 1 + length label) labels) place has) [
      | inl first ↦ record { before = []; label = label; others = labels; labels_is = refl; place_is = sym (only start place first) ∙ omega arith }
      | inr later ↦ further_in start label labels place (offsets_in labels (start + 1 + length label) place later)
    ]

offsets_parts : (before : List (List ℕ)) (start : ℕ) (label : List ℕ) (others : List (List ℕ)) → offsets start (before ++ label ∷ others)
    ≡ offsets start before ++ (start + length (labels_wire before)) ∷ offsets (start + length (labels_wire before) + 1 + length label) others
offsets_parts [] start label others = ap (λ (n : ℕ). n ∷ offsets (n + 1 + length label) others) (omega arith)
offsets_parts (first ∷ before) start label others =
    let there : start + 1 + length first + length (labels_wire before) ≡ start + length (labels_wire (first ∷ before)) = omega (arith, length-append first (labels_wire before)) in
    ap (λ (l : List ℕ). start ∷ l) (offsets_parts before (start + 1 + length first) label others)
    ∙ ap (λ (n : ℕ). start ∷ (offsets (start + 1 + length first) before ++ n ∷ offsets (n + 1 + length label) others)) there

offsets_few : (labels : List (List ℕ)) (start : ℕ) → length (offsets start labels) ≡ length labels
offsets_few [] start = refl
offsets_few (label ∷ labels) start = ap suc (offsets_few labels (start + 1 + length label))

-- ---- those within reach

reached : (xs : List ℕ) (place : ℕ) → Contains xs place → is_within_reach place ≡ true → Contains (filter is_within_reach xs) place
reached [] place has low = absurd (omega (arith, has.1))
reached (x ∷ xs) place has low = by (is_within_reach x) refl (λ later. reached xs place later low) (Contains-append_cases (x ∷ []) xs place has) where
  by : (b : Bool) → is_within_reach x ≡ b → (Contains xs place → Contains (filter is_within_reach xs) place) → Contains (x ∷ []) place ⊎ Contains xs place → Contains (filter is_within_reach (x ∷ xs)) place
  by true e more (inl first) = subst (λ (l : List ℕ). Contains l place) (sym (filter_step x xs true e)) (Contains-append_left (x ∷ []) (filter is_within_reach xs) place first)
  by true e more (inr later) = subst (λ (l : List ℕ). Contains l place) (sym (filter_step x xs true e)) (Contains-append_right (x ∷ []) (filter is_within_reach xs) place (more later))
  by false e more (inl first) = absurd (let h : is_within_reach place ≡ false = ap is_within_reach (sym (only x place first)) ∙ e in let g = sym low ∙ h in cc)
  by false e more (inr later) = subst (λ (l : List ℕ). Contains l place) (sym (filter_step x xs false e)) (more later)

in_reach : (xs : List ℕ) (place : ℕ) → Contains (filter is_within_reach xs) place → Contains xs place × (is_within_reach place ≡ true)
in_reach [] place has = absurd (omega (arith, has.1))
in_reach (x ∷ xs) place has = by (is_within_reach x) refl (λ later. in_reach xs place later) where
  by : (b : Bool) → is_within_reach x ≡ b → (Contains (filter is_within_reach xs) place → Contains xs place × (is_within_reach place ≡ true)) → Contains (x ∷ xs) place × (is_within_reach place ≡ true)
  by false e more =
      let m = more (subst (λ (l : List ℕ). Contains l place) (filter_step x xs false e) has) in
      (Contains-append_right (x ∷ []) xs place m.0, m.1)
  by true e more =
      elim (Contains-append_cases (x ∷ []) (filter is_within_reach xs) place (subst (λ (l : List ℕ). Contains l place) (filter_step x xs true e) has)) [
        | inl first ↦ (Contains-append_left (x ∷ []) xs place first, ap is_within_reach (sym (only x place first)) ∙ e)
        | inr later ↦ let m = more later in (Contains-append_right (x ∷ []) xs place m.0, m.1)
      ]

reached_few : (xs : List ℕ) → length (filter is_within_reach xs) ≤ length xs
reached_few [] = omega arith
reached_few (x ∷ xs) = by (is_within_reach x) refl (reached_few xs) where
  by : (b : Bool) → is_within_reach x ≡ b → length (filter is_within_reach xs) ≤ length xs → length (filter is_within_reach (x ∷ xs)) ≤ length (x ∷ xs)
  by true e few = omega (arith, ap length (filter_step x xs true e), few)
  by false e few = omega (arith, ap length (filter_step x xs false e), few)

-- ---- the places afterwards

from_take : (n : ℕ) (xs : List ℕ) (place : ℕ) → Contains (take n xs) place → Contains xs place
from_take n xs place has = subst (λ (l : List ℕ). Contains l place) (take-append-drop n xs) (Contains-append_left (take n xs) (drop n xs) place has)

written_places : (contents places tail : List ℕ) (labels : List (List ℕ)) → AllByRecursion IsLabel labels → EndsLabels tail
    → recorded places (contents ++ (labels_wire labels ++ tail)) (length contents) ≡ take MAX_PLACES (places ++ filter is_within_reach (offsets (length contents) labels))
written_places contents places [] labels are ends = absurd ends
written_places contents places (octet ∷ rest) labels are ends =
    let written : List ℕ = contents ++ (labels_wire labels ++ octet ∷ rest) in
    let long : length written ≡ length contents + (length (labels_wire labels) + suc (length rest)) =
    length-append contents (labels_wire labels ++ octet ∷ rest) ∙ ap (λ (n : ℕ). length contents + n) (length-append (labels_wire labels) (octet ∷ rest)) in
    ap (λ (l : List ℕ). take MAX_PLACES (places ++ filter is_within_reach l))
    (labels_at labels (length written - length contents) contents (octet ∷ rest) are ends (omega (arith, long, labels_wire_long labels)))

pub places_stay : (contents places : List ℕ) (start : ℕ) → length places ≤ MAX_PLACES → take (length places) (recorded places contents start) ≡ places
places_stay contents places start few =
    let more : List ℕ = filter is_within_reach (label_places (length contents - start) contents start) in
    take-take (length places) MAX_PLACES (places ++ more) few ∙ take_at places more (length places) refl

-- the first of some places after others, if there is room for one more than the others
taken_seam : (most : ℕ) (xs : List ℕ) (x : ℕ) (rest : List ℕ) → length xs < most → Contains (take most (xs ++ x ∷ rest)) x
taken_seam zero xs x rest room = absurd (omega arith)
taken_seam (suc most) [] x rest room = Contains-append_left (x ∷ []) (take most rest) x (itself x)
taken_seam (suc most) (y ∷ xs) x rest room = Contains-append_right (y ∷ []) (take most (xs ++ x ∷ rest)) x (taken_seam most xs x rest (omega (arith, room)))

pub each_recorded : (contents places tail : List ℕ) (labels : List (List ℕ)) (place : ℕ) → AllByRecursion IsLabel labels → EndsLabels tail
    → (begins : BeginsAt (length contents) labels place) → length places + length begins.before < MAX_PLACES → place ≤ LAST_PLACE
    → Contains (recorded places (contents ++ (labels_wire labels ++ tail)) (length contents)) place
each_recorded contents places tail labels place are ends begins room low =
    let before : List ℕ = offsets (length contents) begins.before in
    let rest : List ℕ = offsets (place + 1 + length begins.label) begins.others in
    let parts : offsets (length contents) labels ≡ before ++ place ∷ rest =
    ap (offsets (length contents)) begins.labels_is ∙ offsets_parts begins.before (length contents) begins.label begins.others
    ∙ ap (λ (n : ℕ). before ++ n ∷ offsets (n + 1 + length begins.label) begins.others) (sym begins.place_is) in
    let test : is_within_reach place ≡ true = grind (arith, nat_tests) in
    let found : filter is_within_reach (offsets (length contents) labels) ≡ filter is_within_reach before ++ place ∷ filter is_within_reach rest =
    ap (filter is_within_reach) parts ∙ filter-append is_within_reach before (place ∷ rest)
    ∙ ap (λ (l : List ℕ). filter is_within_reach before ++ l) (filter_step place rest true test) in
    let few : length (places ++ filter is_within_reach before) < MAX_PLACES =
    omega (arith, room, length-append places (filter is_within_reach before), reached_few before, offsets_few begins.before (length contents)) in
    subst (λ (l : List ℕ). Contains l place)
    (sym (written_places contents places tail labels are ends ∙ ap (λ (l : List ℕ). take MAX_PLACES (places ++ l)) found
    ∙ ap (take MAX_PLACES) (sym (append_assoc places (filter is_within_reach before) (place ∷ filter is_within_reach rest)))))
    (taken_seam MAX_PLACES (places ++ filter is_within_reach before) place (filter is_within_reach rest) few)

pub no_other_recorded : (contents places tail : List ℕ) (labels : List (List ℕ)) (place : ℕ) → AllByRecursion IsLabel labels → EndsLabels tail
    → Contains (recorded places (contents ++ (labels_wire labels ++ tail)) (length contents)) place → Contains places place ⊎ (BeginsAt (length contents) labels place × place ≤ LAST_PLACE)
no_other_recorded contents places tail labels place are ends has =
    let found : List ℕ = filter is_within_reach (offsets (length contents) labels) in
    let there : Contains (places ++ found) place = from_take MAX_PLACES (places ++ found) place (subst (λ (l : List ℕ). Contains l place) (written_places contents places tail labels are ends) has) in
    elim (Contains-append_cases places found place there) [
      | inl old ↦ inl old
      | inr new ↦
          let m = in_reach (offsets (length contents) labels) place new in
          let low : place ≤ LAST_PLACE = within place m.1 in
          inr (offsets_in labels (length contents) place m.0, low)
    ] where
      within : (place : ℕ) → is_within_reach place ≡ true → place ≤ LAST_PLACE
      within place e = grind (arith, nat_tests)
