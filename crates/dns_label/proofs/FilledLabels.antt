-- What a label is in words, and what labels one after another are.
use Rattle.std.proofs.Common.{◌≡◌, ℕ, zero, suc, ◌<◌, ◌≤◌, inl, inr, false, ltb, List, [], ◌∷◌, ◌++◌, length, take, drop, Option, Some, None, refl, sym, ap, subst, ◌∙◌, arith}
use Rattle.std.specs.Prelude.{unwrap_or, ◌||◌, ◌↔◌}
use Rattle.std.specs.List.{AllByRecursion}
use Rattle.std.proofs.lemmas.Bool.Decides.{nat_tests}
use Rattle.std.proofs.lemmas.Bool.{le-ltb}
use Rattle.std.proofs.lemmas.List.{take_at, drop_at, take-append-drop, length-append, length-take, append-nil}
use Rattle.std.proofs.lemmas.Option.{some_pair_parts}
use Rattle.dns_wire.specs.Names.{labels_wire}
use Rattle.dns_wire.specs.Reading.{all_of}
use Rattle.dns_wire.proofs.Spelled.{chosen}
use Rattle.dns_label.specs.Labels.{FitsLabel, AreLabels, label_wire, plain_label, with_label, then_labels, labels_to_end, label_sequence, sequence_labels}

-- ---- one label

-- a label's octets are read, whatever follows
pub label_again : (contents rest : List ℕ) → FitsLabel contents → plain_label (length contents ∷ (contents ++ rest)) ≡ Some (contents, rest)
unfolding plain_label
label_again contents rest short =
    let small : ltb 63 (length contents) ≡ false = le-ltb _ _ (omega arith) in
    let there : ltb (length (contents ++ rest)) (length contents) ≡ false = le-ltb _ _ (omega (arith, length-append contents rest)) in
    rw (small, there, take_at contents rest (length contents) refl, drop_at contents rest (length contents) refl) refl

-- what is read is spelled so
pub label_takes : (bytes contents rest : List ℕ) → plain_label bytes ≡ Some (contents, rest) → FitsLabel contents × (bytes ≡ length contents ∷ (contents ++ rest))
unfolding plain_label
label_takes [] contents rest e = absurd cc
label_takes (size ∷ more) contents rest e =
    elim (chosen (ltb 63 size || ltb (length more) size) _ _ _ e) [
      | inl bad ↦ absurd (let h = bad.1 in cc)
      | inr good ↦
          let same = some_pair_parts (take size more) contents (drop size more) rest good.1 in
          let small : size ≤ 63 = grind (arith, nat_tests, good.0) in
          let room : size ≤ length more = grind (arith, nat_tests, good.0) in
          let long : length contents ≡ size = ap length (sym same.0) ∙ omega (arith, length-take size more) in
          let parts : more ≡ contents ++ rest = sym (take-append-drop size more) ∙ ap (λ (l : List ℕ). l ++ drop size more) same.0 ∙ ap (λ (l : List ℕ). contents ++ l) same.1 in
          (omega arith, rw (long, ← parts) refl)
    ]

all_of_is : (read : Option (List ℕ × List ℕ)) (contents : List ℕ) → all_of read ≡ Some contents → read ≡ Some (contents, [])
all_of_is None contents e = absurd cc
all_of_is (Some (found, [])) contents e = ap (λ (o : List ℕ). Some (o, [])) (let h : found ≡ contents = cc in h)
all_of_is (Some (found, x ∷ left)) contents e = absurd cc

-- a label's octets are its length and its contents
pub label_octets : (octets contents : List ℕ) → all_of (plain_label octets) ≡ Some contents → FitsLabel contents × (octets ≡ label_wire contents)
label_octets octets contents e =
    let t = label_takes octets contents [] (all_of_is (plain_label octets) contents e) in
    (t.0, t.1 ∙ ap (λ (l : List ℕ). length contents ∷ l) (append-nil contents))

-- and octets that are so are a label's
pub label_alone : (octets contents : List ℕ) → FitsLabel contents → octets ≡ label_wire contents → all_of (plain_label octets) ≡ Some contents
label_alone octets contents short e =
    ap (λ (o : List ℕ). all_of (plain_label o)) (e ∙ ap (λ (l : List ℕ). length contents ∷ l) (sym (append-nil contents))) ∙ ap all_of (label_again contents [] short)

-- ---- labels one after another

abbrev Takes : List ℕ → List (List ℕ) → Type 0
Takes octets labels = AllByRecursion FitsLabel labels × (octets ≡ labels_wire labels)

with_label_takes : (octets contents rest : List ℕ) (read : Option (List (List ℕ))) (labels : List (List ℕ)) → FitsLabel contents → octets ≡ length contents ∷ (contents ++ rest)
    → ((others : List (List ℕ)) → read ≡ Some others → Takes rest others) → with_label contents read ≡ Some labels → Takes octets labels
with_label_takes octets contents rest None labels short parts later e = absurd cc
with_label_takes octets contents rest (Some others) labels short parts later e =
    let t = later others refl in
    let same : contents ∷ others ≡ labels = cc in
    subst (Takes octets) same ((short, t.0), parts ∙ ap (λ (l : List ℕ). length contents ∷ (contents ++ l)) t.1)

then_labels_takes : (octets : List ℕ) (first : Option (List ℕ × List ℕ)) (more : List ℕ → Option (List (List ℕ))) (labels : List (List ℕ)) → plain_label octets ≡ first
    → ((rest : List ℕ) (others : List (List ℕ)) → more rest ≡ Some others → Takes rest others) → then_labels more first ≡ Some labels → Takes octets labels
then_labels_takes octets None more labels is later e = absurd cc
then_labels_takes octets (Some (contents, rest)) more labels is later e =
    let t = label_takes octets contents rest is in
    with_label_takes octets contents rest (more rest) labels t.0 t.1 (λ others h. later rest others h) e

labels_take : (steps : ℕ) (octets : List ℕ) (labels : List (List ℕ)) → labels_to_end steps octets ≡ Some labels → Takes octets labels
unfolding labels_to_end
labels_take zero [] labels e = let same : [] ≡ labels = cc in subst (Takes []) same (tt, refl)
labels_take zero (size ∷ rest) labels e = absurd cc
labels_take (suc steps) [] labels e = let same : [] ≡ labels = cc in subst (Takes []) same (tt, refl)
labels_take (suc steps) (size ∷ rest) labels e =
    then_labels_takes (size ∷ rest) (plain_label (size ∷ rest)) (λ more. labels_to_end steps more) labels refl (λ more others h. labels_take steps more others h) e

labels_again : (steps : ℕ) (labels : List (List ℕ)) → AllByRecursion FitsLabel labels → length (labels_wire labels) ≤ steps → labels_to_end steps (labels_wire labels) ≡ Some labels
unfolding labels_to_end
labels_again zero [] sizes enough = refl
labels_again (suc steps) [] sizes enough = refl
labels_again zero (contents ∷ others) sizes enough = absurd (omega arith)
labels_again (suc steps) (contents ∷ others) sizes enough =
    let room : length (labels_wire others) ≤ steps = omega (arith, enough, length-append contents (labels_wire others)) in
    ap (then_labels (λ more. labels_to_end steps more)) (label_again contents (labels_wire others) sizes.0) ∙ ap (with_label contents) (labels_again steps others sizes.1 room)

-- octets that labels fill are those of the labels, each after its length
pub list_takes : (octets : List ℕ) (labels : List (List ℕ)) → label_sequence octets ≡ Some labels → AllByRecursion FitsLabel labels × (octets ≡ labels_wire labels)
unfolding label_sequence
list_takes octets labels e = labels_take (length octets) octets labels e

-- and such octets are filled by the labels
pub list_again : (labels : List (List ℕ)) → AllByRecursion FitsLabel labels → label_sequence (labels_wire labels) ≡ Some labels
unfolding label_sequence
list_again labels sizes = labels_again (length (labels_wire labels)) labels sizes (omega arith)

pub labels_in_wire : (octets : List ℕ) (labels : List (List ℕ)) → AllByRecursion FitsLabel labels → octets ≡ labels_wire labels → (label_sequence octets ≡ Some labels) × (sequence_labels octets ≡ labels)
unfolding sequence_labels
labels_in_wire octets labels sizes e =
    let read : label_sequence octets ≡ Some labels = ap label_sequence e ∙ list_again labels sizes in
    (read, ap (λ (o : Option (List (List ℕ))). unwrap_or o []) read)

pub are_labels : (octets : List ℕ) (labels : List (List ℕ)) → AllByRecursion FitsLabel labels → octets ≡ labels_wire labels → AreLabels octets
are_labels octets labels sizes e = let t = labels_in_wire octets labels sizes e in t.0 ∙ ap Some (sym t.1)

-- ---- the first of them

-- none is read if none is left
pub last_label : (octets : List ℕ) → AreLabels octets → plain_label octets ≡ None → sequence_labels octets ≡ []
last_label octets is none = by (sequence_labels octets) refl where
  by : (labels : List (List ℕ)) → sequence_labels octets ≡ labels → sequence_labels octets ≡ []
  by [] e = e
  by (contents ∷ others) e =
      let t = list_takes octets (sequence_labels octets) is in
      let sizes : AllByRecursion FitsLabel (contents ∷ others) = subst (AllByRecursion FitsLabel) e t.0 in
      let parts : octets ≡ length contents ∷ (contents ++ labels_wire others) = t.1 ∙ ap labels_wire e in
      let read : plain_label octets ≡ Some (contents, labels_wire others) = ap plain_label parts ∙ label_again contents (labels_wire others) sizes.0 in
      absurd (let h = sym none ∙ read in cc)

-- the first label, and the labels after it
pub record FirstIn (octets contents rest : List ℕ) : Type 0 where
  pub left : AreLabels rest
  pub first : sequence_labels octets ≡ contents ∷ sequence_labels rest

pub first_in : (octets contents rest : List ℕ) → AreLabels octets → plain_label octets ≡ Some (contents, rest) → FirstIn octets contents rest
first_in octets contents rest is read = by (sequence_labels octets) refl where
  by : (labels : List (List ℕ)) → sequence_labels octets ≡ labels → FirstIn octets contents rest
  by [] e =
      let t = list_takes octets (sequence_labels octets) is in
      let s = label_takes octets contents rest read in
      absurd (let h : length contents ∷ (contents ++ rest) ≡ [] = sym s.1 ∙ t.1 ∙ ap labels_wire e in cc)
  by (label ∷ others) e =
      let t = list_takes octets (sequence_labels octets) is in
      let sizes : AllByRecursion FitsLabel (label ∷ others) = subst (AllByRecursion FitsLabel) e t.0 in
      let parts : octets ≡ length label ∷ (label ++ labels_wire others) = t.1 ∙ ap labels_wire e in
      let same = some_pair_parts contents label rest (labels_wire others) (sym read ∙ ap plain_label parts ∙ label_again label (labels_wire others) sizes.0) in
      let trailing = labels_in_wire rest others sizes.1 same.1 in
      record { left = are_labels rest others sizes.1 same.1; first = rw (same.0, trailing.1) e }

-- nothing is left exactly if no octets are
pub none_left : (octets : List ℕ) → AreLabels octets → sequence_labels octets ≡ [] → octets ≡ []
none_left octets is e = (list_takes octets (sequence_labels octets) is).1 ∙ ap labels_wire e

pub nothing_in : sequence_labels [] ≡ []
nothing_in = (labels_in_wire [] [] tt refl).1

-- ---- a test

-- labels follow a label exactly if labels begin with it
pub following_label : (octets contents rest : List ℕ) → plain_label octets ≡ Some (contents, rest) → (AreLabels octets ↔ AreLabels rest) × (length rest < length octets)
following_label octets contents rest read =
    let t = label_takes octets contents rest read in
    let whole : AreLabels rest → AreLabels octets = λ are.
    let s = list_takes rest (sequence_labels rest) are in
    are_labels octets (contents ∷ sequence_labels rest) (t.0, s.0) (t.1 ∙ ap (λ (l : List ℕ). length contents ∷ (contents ++ l)) s.1) in
    ((λ are. (first_in octets contents rest are read).left, whole), omega (arith, ap length t.1, length-append contents rest))

-- if there is no label, these are labels exactly if there are no octets
pub nothing_left : (octets : List ℕ) → plain_label octets ≡ None → AreLabels octets ↔ (octets ≡ [])
nothing_left octets none = (
  λ are. none_left octets are (last_label octets are none),
  λ e. are_labels octets [] tt e,
)
