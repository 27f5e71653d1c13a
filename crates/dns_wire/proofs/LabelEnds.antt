-- Labels that are equal, ignoring ASCII case, are of one class.
use Rattle.std.proofs.Common.{◌≡◌, ℕ, suc, ◌+◌, ◌-◌, ◌%◌, ◌<◌, ◌≤◌, Bool, true, false, List, [], ◌∷◌, length, get_or, set, take, drop, None, refl, sym, ap, ◌∙◌, arith, inl, inr}
use Rattle.std.specs.Prelude.{map, slice_index, slice_index_or}
use Rattle.std.specs.Char.{to_ascii_lowercase}
use Rattle.std.specs.Str.{str_to_ascii_lowercase}
use Rattle.std.proofs.lemmas.Bool.Decides.{nat_tests, eqb_tells}
use Rattle.std.proofs.lemmas.List.{get_or-map, get_or_append_left, get_or-take, get_or-drop, get_or-set_same, get_or-set_other, length-map, length-take, length-drop, drop_more}
use Rattle.dns_wire.specs.Names.{name_labels, lowered}
use Rattle.dns_wire.specs.Pointers.{Segment, at_root, at_label, at_pointer}
use Rattle.dns_wire.specs.Compression.{occurs_at}
use Rattle.dns_wire.specs.Searching.{FirstOf, class_by, label_class, AllMarked, else_later, suffix_at}
use Rattle.dns_wire.proofs.CompressionLemmas.{stood}

-- ---- classes

low_bits : (c : ℕ) → to_ascii_lowercase c % 32 ≡ c % 32
low_bits c = grind (arith, nat_tests)

alike_class : (a b size : ℕ) → to_ascii_lowercase a ≡ to_ascii_lowercase b → class_by a size ≡ class_by b size
alike_class a b size e =
    let low : a % 32 ≡ b % 32 = sym (low_bits a) ∙ ap (λ (n : ℕ). n % 32) e ∙ low_bits b in
    omega (arith, low)

alike_end : (a b : List ℕ) (i size : ℕ) → i < length a → map to_ascii_lowercase a ≡ map to_ascii_lowercase b → class_by (get_or a i 0) size ≡ class_by (get_or b i 0) size
alike_end a b i size within e =
    let long : length a ≡ length b = sym (length-map a to_ascii_lowercase) ∙ ap length e ∙ length-map b to_ascii_lowercase in
    alike_class (get_or a i 0) (get_or b i 0) size (sym (get_or-map to_ascii_lowercase a i 0 0 within) ∙ ap (λ (l : List ℕ). get_or l i 0) e ∙ get_or-map to_ascii_lowercase b i 0 0 (omega (arith, long)))

pub one_class : (back : ℕ) (a b : List ℕ) → str_to_ascii_lowercase a ≡ str_to_ascii_lowercase b → label_class back a ≡ label_class back b
one_class back a b e =
    let long : length a ≡ length b = sym (length-map a to_ascii_lowercase) ∙ ap length e ∙ length-map b to_ascii_lowercase in
    alike_end (length a ∷ a) (length b ∷ b) (length a - back) (length a) (omega arith) (rw (long, e) refl) ∙ rw long refl

-- ---- the label at a place

-- the first label of what is read there
first_lowered : (contents label : List ℕ) (labels there : List (List ℕ)) (start place end : ℕ) → slice_index contents place < 64 → Segment contents start place there end → lowered there ≡ lowered (label ∷ labels) → str_to_ascii_lowercase label ≡ str_to_ascii_lowercase (take (slice_index contents place) (drop (place + 1) contents))
first_lowered contents label labels there start place end small (at_root within is none past) e = absurd (let h : lowered [] ≡ lowered (label ∷ labels) = rw none at e in cc)
first_lowered contents label labels there start place end small (at_label {others = others} some less room labels_is later) e =
    let h : str_to_ascii_lowercase (take (slice_index contents place) (drop (place + 1) contents)) ∷ lowered others ≡ str_to_ascii_lowercase label ∷ lowered labels = rw labels_is at e in
    cc
first_lowered contents label labels there start place end small (at_pointer high room is before later past) e = absurd (omega arith)

-- the class of a label there, by one of its octets
pub class_there : (contents : List ℕ) (place size back : ℕ) → slice_index contents place ≡ size → place + size < length contents → back ≤ size → label_class back (take size (drop (place + 1) contents)) ≡ class_by (get_or contents (place + size - back) 0) size
class_there contents place size back is room least =
    let long : length (take size (drop (place + 1) contents)) ≡ size = omega (arith, length-take size (drop (place + 1) contents), length-drop (place + 1) contents) in
    let whole : size ∷ take size (drop (place + 1) contents) ≡ take (size + 1) (drop place contents) =
    let step : size + 1 ≡ suc size = omega arith in
    rw (drop_more contents place 0 (omega arith), is, step) refl in
    let octet : get_or (size ∷ take size (drop (place + 1) contents)) (size - back) 0 ≡ get_or contents (place + size - back) 0 =
    ap (λ (l : List ℕ). get_or l (size - back) 0) whole ∙ get_or-take (size + 1) (drop place contents) (size - back) 0 (omega arith) ∙ get_or-drop place contents (size - back) 0 ∙ ap (λ (n : ℕ). get_or contents n 0) (omega arith) in
    rw (long, octet) refl

-- what is not marked is at none of them
pub passed_over : (contents : List ℕ) (place size back : ℕ) (marks : List Bool) → slice_index contents place ≡ size → size < 64 → place + size < length contents → back ≤ size → slice_index_or marks (class_by (get_or contents (place + size - back) 0) size) false ≡ false → (at : ℕ) (labels : List (List ℕ)) → AllMarked back marks labels → suffix_at contents place at labels ≡ None
unfolding suffix_at
passed_over contents place size back marks is small room least unmarked at [] all = refl
passed_over contents place size back marks is small room least unmarked at (label ∷ labels) all =
    ap (λ (b : Bool). else_later at b (suffix_at contents place (at + 1 + length label) labels)) (by (occurs_at contents (label ∷ labels) place) refl)
    ∙ passed_over contents place size back marks is small room least unmarked (at + 1 + length label) labels all.1 where
      by : (b : Bool) → occurs_at contents (label ∷ labels) place ≡ b → b ≡ false
      by false e = refl
      by true e =
          let s = stood contents (label ∷ labels) place e in
          let same : str_to_ascii_lowercase label ≡ str_to_ascii_lowercase (take size (drop (place + 1) contents)) = rw is at (first_lowered contents label labels s.1.there place place s.0 (omega arith) s.1.name.reads s.1.alike) in
          let class : label_class back label ≡ class_by (get_or contents (place + size - back) 0) size = one_class back label (take size (drop (place + 1) contents)) same ∙ class_there contents place size back is room least in
          absurd (let h : true ≡ false = sym all.0 ∙ ap (λ (n : ℕ). slice_index_or marks n false) class ∙ unmarked in cc)

-- ---- marking, label by label

-- no mark is taken away
abbrev pub Keeps : List Bool → List Bool → Type 0
Keeps marks more = (k : ℕ) → slice_index_or marks k false ≡ true → slice_index_or more k false ≡ true

-- all labels are marked if those that are left are
abbrev pub Marking : ℕ → List Bool → List ℕ → List ℕ → Type 0
Marking back marks rest name = (more : List Bool) → Keeps marks more → AllMarked back more (name_labels rest) → AllMarked back more (name_labels name)

-- the octet near the label's end
pub end_octet : (back : ℕ) (name label rest : List ℕ) → FirstOf name label rest → get_or name (length label - back) 0 ≡ get_or (length label ∷ label) (length label - back) 0
end_octet back name label rest first =
    ap (λ (l : List ℕ). get_or l (length label - back) 0) first.parts ∙ get_or_append_left (length label ∷ label) rest 0 (length label - back) (omega arith)

pub marking_next : (back : ℕ) (marks : List Bool) (rest name label next : List ℕ) → length marks ≡ 32 → Marking back marks rest name → FirstOf rest label next → Marking back (set marks (label_class back label) true) next name
marking_next back marks rest name label next long m first more keeps all =
    let class : ℕ = label_class back label in
    let marked : slice_index_or more class false ≡ true = keeps class (get_or-set_same marks class true false (omega (arith, long))) in
    m more (λ k e. keeps k (kept k e)) (rw first.labels (marked, all)) where
      kept : (k : ℕ) → slice_index_or marks k false ≡ true → slice_index_or (set marks (label_class back label) true) k false ≡ true
      kept k e = elim (eqb_tells k (label_class back label)) [
        | inl same ↦ rw same.1 (get_or-set_same marks (label_class back label) true false (omega (arith, long)))
        | inr other ↦ get_or-set_other marks (label_class back label) k true false other.1 ∙ e
      ]

pub marking_done : (back : ℕ) (marks : List Bool) (rest name : List ℕ) → Marking back marks rest name → name_labels rest ≡ [] → AllMarked back marks (name_labels name)
marking_done back marks rest name m none = m marks (λ k e. e) (rw none tt)
