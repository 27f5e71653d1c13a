-- Names that end in the labels of an apex.
use Rattle.std.proofs.Common.{◌≡◌, ◌≤◌, ◌-◌, ◌==◌, ℕ, Bool, true, false, List, [], ◌∷◌, ◌++◌, length, take, drop, reverse, refl, sym, ap, ◌∙◌, arith, take-append-drop, append-nil, append_assoc, length-take}
use Rattle.std.specs.Prelude.{◌↔◌, nat_eq}
use Rattle.std.specs.Ordering.{eq_by_cmp, on}
use Rattle.std.specs.Str.{str_to_ascii_lowercase}
use Rattle.std.specs.Cmp.Lexicographic.{pointwise, pointwise_decides, bytes_decides}
use Rattle.std.specs.Char.{to_ascii_lowercase}
use Rattle.std.proofs.lemmas.Bool.{eqb-true, eq-eqb}
use Rattle.std.proofs.lemmas.List.{append_cancel_left, length-append, length-map, reverse-append, reverse-reverse, take-map, take_at, take_all}
use Rattle.std.proofs.lemmas.List.Prefix.{end_rest}
use Rattle.dns_wire.specs.Agreement.{agreeing_prefix}
use Rattle.dns_wire.specs.Names.{IsName, labels_wire, lowered}
use Rattle.dns_wire.specs.Reversed.{reversed_wire}
use Rattle.dns_wire.proofs.Backward.{lower_reversed}
use Rattle.dns_wire.proofs.Walk.{labels_wire-append}
use Rattle.dns_name.specs.Order.{key, key_cmp}
use Rattle.dns_name.proofs.Agreed.{agrees_low, low_prefix}
use Rattle.dns_name.proofs.NameSameness.{same_by_octets}
use Rattle.dns_zone.specs.Zone.{IsAtOrBelow, is_apex, is_at_or_below, labels_eq}

-- ---- tests

pub tests_same : (a b : Bool) → (a ≡ true → b ≡ true) → (b ≡ true → a ≡ true) → a ≡ b
tests_same true b to from = sym (to refl)
tests_same false true to from = from refl
tests_same false false to from = refl

label_decides : (a b : List ℕ) → (pointwise nat_eq a b ≡ true) ↔ (a ≡ b)
label_decides a b = ((bytes_decides a b).0, (bytes_decides a b).1)

pub labels_decide : (xs ys : List (List ℕ)) → (labels_eq xs ys ≡ true) ↔ (xs ≡ ys)
labels_decide xs ys = pointwise_decides (λ a b. label_decides a b) xs ys

pub apex_tested : (apex owner : List (List ℕ)) → (is_apex apex owner ≡ true) ↔ (lowered owner ≡ lowered apex)
apex_tested apex owner = labels_decide (lowered owner) (lowered apex)

pub below_tested : (apex owner : List (List ℕ)) → (is_at_or_below apex owner ≡ true) ↔ IsAtOrBelow apex owner
below_tested apex owner = (
  λ e.
      let n = length (lowered owner) - length (lowered apex) in
      let ends : lowered apex ≡ drop n (lowered owner) = (labels_decide (lowered apex) (drop n (lowered owner))).0 e in
      (take n (lowered owner), sym (take-append-drop n (lowered owner)) ∙ ap (λ (l : List (List ℕ)). take n (lowered owner) ++ l) (sym ends)),
  λ (before, is). (labels_decide (lowered apex) (drop (length (lowered owner) - length (lowered apex)) (lowered owner))).1 (sym (end_rest (lowered owner) (lowered apex) before is)),
)

-- names are compared by the same test
pub apex_eq : (apex owner : List (List ℕ)) → is_apex apex owner ≡ eq_by_cmp (on key key_cmp) owner apex
apex_eq apex owner = same_by_octets owner apex (is_apex apex owner) (λ e. (apex_tested apex owner).0 e) (λ e. (apex_tested apex owner).1 e)

-- ---- octets from the root on

-- octets that begin with those of labels are those of labels that begin with these
labels_first : (xs ys : List (List ℕ)) (rest : List ℕ) → labels_wire xs ≡ labels_wire ys ++ rest → (more : List (List ℕ)) × (xs ≡ ys ++ more)
labels_first xs [] rest e = (xs, refl)
labels_first [] (y ∷ ys) rest e = absurd cc
labels_first (x ∷ xs) (y ∷ ys) rest e =
    let size : length x ≡ length y = cc in
    let tails : x ++ labels_wire xs ≡ (y ++ labels_wire ys) ++ rest = cc in
    let whole : x ++ labels_wire xs ≡ y ++ (labels_wire ys ++ rest) = tails ∙ append_assoc y (labels_wire ys) rest in
    let first : x ≡ y = sym (take_at x (labels_wire xs) (length x) refl) ∙ ap (take (length x)) whole ∙ take_at y (labels_wire ys ++ rest) (length x) (sym size) in
    let later : labels_wire xs ≡ labels_wire ys ++ rest = append_cancel_left y (labels_wire xs) (labels_wire ys ++ rest) (ap (λ (l : List ℕ). l ++ labels_wire xs) (sym first) ∙ whole) in
    let more = labels_first xs ys rest later in
    (more.0, λ i. first i ∷ more.1 i)

wire_first : (O A : List (List ℕ)) (rest : List ℕ) → reversed_wire O ≡ reversed_wire A ++ rest → (before : List (List ℕ)) × (O ≡ before ++ A)
wire_first O A rest e =
    let tails : labels_wire (reverse O) ≡ labels_wire (reverse A) ++ rest = cc in
    let more = labels_first (reverse O) (reverse A) rest tails in
    (reverse more.0, sym (reverse-reverse O) ∙ ap reverse more.1 ∙ reverse-append (reverse A) more.0 ∙ ap (λ (l : List (List ℕ)). reverse more.0 ++ l) (reverse-reverse A))

wire_before : (before A : List (List ℕ)) → reversed_wire (before ++ A) ≡ reversed_wire A ++ labels_wire (reverse before)
wire_before before A = ap (λ (l : List (List ℕ)). 0 ∷ labels_wire l) (reverse-append before A) ∙ ap (λ (l : List ℕ). 0 ∷ l) (labels_wire-append (reverse A) (reverse before))

low_long : (xs : List ℕ) → length (str_to_ascii_lowercase xs) ≡ length xs
low_long xs = length-map xs to_ascii_lowercase

agrees_none : (xs : List ℕ) → agreeing_prefix xs [] ≡ 0
agrees_none [] = refl
agrees_none (x ∷ xs) = refl

module _ (owner apex : List (List ℕ)) (owner_name : IsName owner) (apex_name : IsName apex) where
  -- all octets of the apex agree
  pub agrees_below : agreeing_prefix (reversed_wire owner) (reversed_wire apex) ≡ length (reversed_wire apex) → IsAtOrBelow apex owner
  agrees_below all =
      let k = length (reversed_wire apex) in
      let low : str_to_ascii_lowercase (take k (reversed_wire owner)) ≡ str_to_ascii_lowercase (reversed_wire apex) =
      low_prefix k (reversed_wire owner) (reversed_wire apex) (omega (arith, all)) ∙ ap str_to_ascii_lowercase (take_all k (reversed_wire apex) (omega arith)) in
      let cut : take k (reversed_wire (lowered owner)) ≡ reversed_wire (lowered apex) =
      ap (take k) (sym (lower_reversed owner owner_name)) ∙ take-map to_ascii_lowercase k (reversed_wire owner) ∙ low ∙ lower_reversed apex apex_name in
      wire_first (lowered owner) (lowered apex) (drop k (reversed_wire (lowered owner)))
      (sym (take-append-drop k (reversed_wire (lowered owner))) ∙ ap (λ (l : List ℕ). l ++ drop k (reversed_wire (lowered owner))) cut)

  pub below_agrees : IsAtOrBelow apex owner → agreeing_prefix (reversed_wire owner) (reversed_wire apex) ≡ length (reversed_wire apex)
  below_agrees (before, is) =
      let k = length (reversed_wire apex) in
      let w = labels_wire (reverse before) in
      let whole : str_to_ascii_lowercase (reversed_wire owner) ≡ str_to_ascii_lowercase (reversed_wire apex) ++ w =
      lower_reversed owner owner_name ∙ ap reversed_wire is ∙ wire_before before (lowered apex) ∙ ap (λ (l : List ℕ). l ++ w) (sym (lower_reversed apex apex_name)) in
      let room : k ≤ length (reversed_wire owner) =
      omega (arith, ap length whole, low_long (reversed_wire owner), low_long (reversed_wire apex), length-append (str_to_ascii_lowercase (reversed_wire apex)) w) in
      let same : str_to_ascii_lowercase (take k (reversed_wire owner)) ≡ str_to_ascii_lowercase (reversed_wire apex) =
      sym (take-map to_ascii_lowercase k (reversed_wire owner)) ∙ ap (take k) whole ∙ take_at (str_to_ascii_lowercase (reversed_wire apex)) w k (low_long (reversed_wire apex)) in
      ap (λ (l : List ℕ). agreeing_prefix l (reversed_wire apex)) (sym (take-append-drop k (reversed_wire owner)))
      ∙ ap (agreeing_prefix (take k (reversed_wire owner) ++ drop k (reversed_wire owner))) (sym (append-nil (reversed_wire apex)))
      ∙ agrees_low (take k (reversed_wire owner)) (reversed_wire apex) (drop k (reversed_wire owner)) [] same
      ∙ omega (arith, agrees_none (drop k (reversed_wire owner)), length-take k (reversed_wire owner), room)

  pub suffix_tested : (octets others : List ℕ) (n : ℕ) → octets ≡ reversed_wire owner → others ≡ reversed_wire apex → n ≡ agreeing_prefix octets others → (n == length others) ≡ is_at_or_below apex owner
  suffix_tested octets others n octets-is others-is n-is =
      let agreed : n ≡ agreeing_prefix (reversed_wire owner) (reversed_wire apex) = n-is ∙ ap (λ (l : List ℕ). agreeing_prefix l others) octets-is ∙ ap (agreeing_prefix (reversed_wire owner)) others-is in
      tests_same (n == length others) (is_at_or_below apex owner)
      (λ e. (below_tested apex owner).1 (agrees_below (sym agreed ∙ eqb-true n (length others) e ∙ ap length others-is)))
      (λ e. eq-eqb n (length others) (agreed ∙ below_agrees ((below_tested apex owner).0 e) ∙ ap length (sym others-is)))
