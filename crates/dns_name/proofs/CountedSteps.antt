-- How many label types a reading of a name has gone over.
use Rattle.std.proofs.Common.{◌≡◌, ℕ, ◌+◌, ◌*◌, ◌<◌, ◌≤◌, List, Some, subst, arith}
use Rattle.std.specs.Prelude.{slice_index, length}
use Rattle.dns_wire.specs.declared.name_cursor.LabelType.TheVariants.{Root, Pointer}
use Rattle.dns_wire.specs.Pointers.{Segment, at_root, at_label, at_pointer, NameAt, label_type_count, label_type_at}
use Rattle.dns_wire.proofs.Following.{label_type_is}

-- what is left of a reading of that many label types, after some
abbrev pub Left : List ℕ → ℕ → ℕ → ℕ → ℕ → Type 0
Left contents segment at taken total = (labels : List (List ℕ)) × (end : ℕ) × (rest : Segment contents segment at labels end) × (total ≡ taken + label_type_count rest)

left_label : (contents : List ℕ) (segment at size taken total : ℕ) → Left contents segment at taken total → (slice_index contents at ≡ size) × (0 < size) × (size < 64) × (at + 1 + size ≤ length contents) → Left contents segment (at + 1 + size) (taken + 1) total
left_label contents segment at size taken total (labels, end, at_root within is none ends, count) fits = absurd (omega (arith, is, fits))
left_label contents segment at size taken total (labels, end, at_label {others = others} some small room first later, count) fits =
    subst (λ s. Left contents segment (at + 1 + s) (taken + 1) total) fits.0 (others, end, later, omega (arith, count))
left_label contents segment at size taken total (labels, end, at_pointer high room is before later ends, count) fits = absurd (omega (arith, high, fits))

left_pointer : (contents : List ℕ) (segment at target taken total : ℕ) → Left contents segment at taken total → label_type_at contents segment at ≡ Some (Pointer target) → Left contents target target (taken + 1) total
left_pointer contents segment at target taken total (labels, end, at_root within is none ends, count) label_type = absurd (omega (arith, is, label_type_is contents segment at (Pointer target) label_type))
left_pointer contents segment at target taken total (labels, end, at_label some small room first later, count) label_type = absurd (omega (arith, small, label_type_is contents segment at (Pointer target) label_type))
left_pointer contents segment at target taken total (labels, end, at_pointer {target = place} {later = other} high room is before later ends, count) label_type =
    let same : place ≡ target = omega (arith, is, label_type_is contents segment at (Pointer target) label_type) in
    subst (λ t. Left contents t t (taken + 1) total) same (labels, other, later, omega (arith, count))

left_root : (contents : List ℕ) (segment at taken total : ℕ) → Left contents segment at taken total → label_type_at contents segment at ≡ Some Root → total ≡ taken + 1
left_root contents segment at taken total (labels, end, at_root within is none ends, count) label_type = count
left_root contents segment at taken total (labels, end, at_label some small room first later, count) label_type = absurd (omega (arith, some, label_type_is contents segment at Root label_type))
left_root contents segment at taken total (labels, end, at_pointer high room is before later ends, count) label_type = absurd (omega (arith, high, label_type_is contents segment at Root label_type))

-- That many label types have been read between two counts, with that many octets of labels. Each label is two octets or more, and
-- each pointer leads to a place before the segment that it is in.
pub record Counted (contents : List ℕ) (start segment at old new size : ℕ) : Type 0 where
  pub taken : ℕ
  pub taken_is : new ≡ old + taken
  pub labels : ℕ
  pub short : 2 * labels ≤ size
  pub bound : taken + segment ≤ start + labels
  pub left : {names : List (List ℕ)} {end : ℕ} (whole : Segment contents start start names end) → Left contents segment at taken (label_type_count whole)

pub counted_none : (contents : List ℕ) (start old : ℕ) → Counted contents start start start old old 0
counted_none contents start old =
    record { taken = 0; taken_is = omega arith; labels = 0; short = omega arith; bound = omega arith; left = λ {names} {end} whole. (names, end, whole, omega arith) }

pub counted_label : (contents : List ℕ) (start segment at old new size label : ℕ) → Counted contents start segment at old new size → (slice_index contents at ≡ label) × (0 < label) × (label < 64) × (at + 1 + label ≤ length contents) → Counted contents start segment (at + 1 + label) old (new + 1) (size + (1 + label))
counted_label contents start segment at old new size label counted fits =
    record {
      taken = counted.taken + 1;
      taken_is = omega (arith, counted.taken_is);
      labels = counted.labels + 1;
      short = omega (arith, counted.short, fits);
      bound = omega (arith, counted.bound);
      left = λ whole. left_label contents segment at label counted.taken (label_type_count whole) (counted.left whole) fits;
    }

pub counted_pointer : (contents : List ℕ) (start segment at old new size target : ℕ) → Counted contents start segment at old new size → label_type_at contents segment at ≡ Some (Pointer target) → target < segment → Counted contents start target target old (new + 1) size
counted_pointer contents start segment at old new size target counted label_type before =
    record {
      taken = counted.taken + 1;
      taken_is = omega (arith, counted.taken_is);
      labels = counted.labels;
      short = counted.short;
      bound = omega (arith, counted.bound, before);
      left = λ whole. left_pointer contents segment at target counted.taken (label_type_count whole) (counted.left whole) label_type;
    }

-- ---- where it ends

pub counted_root : (contents : List ℕ) (start segment at old new size : ℕ) → Counted contents start segment at old new size → label_type_at contents segment at ≡ Some Root → (labels : List (List ℕ)) (end : ℕ) (found : NameAt contents start labels end) → new + 1 ≡ old + label_type_count found.reads
counted_root contents start segment at old new size counted label_type labels end found =
    omega (arith, counted.taken_is, left_root contents segment at counted.taken (label_type_count found.reads) (counted.left found.reads) label_type)

pub counted_bound : (contents : List ℕ) (start segment at old new size : ℕ) → Counted contents start segment at old new size → size < 255 → new + 1 ≤ old + (129 + start)
counted_bound contents start segment at old new size counted short = omega (arith, counted.taken_is, counted.short, counted.bound, short)
