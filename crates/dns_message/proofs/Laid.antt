-- Pieces that were written in a message are read again.
use Rattle.std.proofs.Common.{◌≡◌, ℕ, ◌+◌, ◌≤◌, List, [], ◌∷◌, ◌++◌, length, take, drop, refl, sym, ap, subst, ◌∙◌, append_assoc, arith, Option, Some}
use Rattle.std.specs.List.{AllByRecursion}
use Rattle.std.proofs.lemmas.List.{drop_at, take_at, length-append, append-nil}
use Rattle.dns_wire.specs.Compression.{CompressedWrite, Run, FitsIn, Grows, ReadsAlike, compress, compressed_name_writes}
use Rattle.dns_wire.specs.Layout.{LayoutPart, part_writes, list_writes, laid, LayoutMatches}
use Rattle.dns_wire.specs.Layout.LayoutPart.{NamePart, OctetsPart}
use Rattle.dns_message.specs.LayoutRead.{IsLayoutPart, LayoutAt}
use Rattle.dns_wire.proofs.Cutting.{name_run}
use Rattle.dns_wire.proofs.Noting.{recorded_fits, recorded_grows}
use Rattle.dns_wire.proofs.RisingPlaces.{all_append, all_map}
use Rattle.dns_wire.proofs.Rereading.{compressed_read}
use Rattle.dns_wire.proofs.RunLemmas.{run_more, run_wider, fits_more}

-- ---- places

-- what grows twice has grown
grows_then : {places known after : List ℕ} {start middle : ℕ} → start ≤ middle → Grows places known start → Grows known after middle → Grows places after start
grows_then {places} {known} {after} {start} {middle} h g k =
    record {
      added = g.added ++ k.added;
      after_is = k.after_is ∙ ap (λ (l : List ℕ). l ++ k.added) g.after_is ∙ append_assoc places g.added k.added;
      trailing = all_append (λ p. start ≤ p) g.added k.added g.trailing (all_map (λ p. middle ≤ p) (λ p. start ≤ p) k.added (λ p b. omega arith) k.trailing);
    }

-- ---- one part

grows_none : (places : List ℕ) (start : ℕ) → Grows places places start
grows_none places start = record { added = []; after_is = sym (append-nil places); trailing = tt }

module _ (contents places : List ℕ) (fits : FitsIn places contents) where
  prefix_fits : (octets : List ℕ) → FitsIn places (take (length contents) (contents ++ octets))
  prefix_fits octets = subst (FitsIn places) (sym (take_at contents octets (length contents) refl)) fits

  pub part_fits : (part : LayoutPart) → IsLayoutPart part → FitsIn (part_writes part contents places).1 (contents ++ (part_writes part contents places).0)
  part_fits (NamePart labels) is = let o : List ℕ = compress contents places labels in recorded_fits places (contents ++ o) (length contents) (prefix_fits o) (name_run contents places labels is fits)
  part_fits (OctetsPart octets) is = fits_more contents octets places fits

  part_grows : (part : LayoutPart) → IsLayoutPart part → Grows places (part_writes part contents places).1 (length contents)
  part_grows (NamePart labels) is = let o : List ℕ = compress contents places labels in recorded_grows places (contents ++ o) (length contents) (prefix_fits o) (name_run contents places labels is fits)
  part_grows (OctetsPart octets) is = grows_none places (length contents)

-- ---- all parts

pub laid_fits : (layout : List LayoutPart) (contents places : List ℕ) → FitsIn places contents → AllByRecursion IsLayoutPart layout → FitsIn (laid layout contents places).1 (contents ++ (laid layout contents places).0)
unfolding list_writes
laid_fits [] contents places fits all = rw append-nil fits
laid_fits (part ∷ layout) contents places fits all =
    let first = part_writes part contents places in
    subst (FitsIn (laid layout (contents ++ first.0) first.1).1) (append_assoc contents first.0 (laid layout (contents ++ first.0) first.1).0)
    (laid_fits layout (contents ++ first.0) first.1 (part_fits contents places fits part all.0) all.1)

pub laid_grows : (layout : List LayoutPart) (contents places : List ℕ) → FitsIn places contents → AllByRecursion IsLayoutPart layout → Grows places (laid layout contents places).1 (length contents)
unfolding list_writes
laid_grows [] contents places fits all = grows_none places (length contents)
laid_grows (part ∷ layout) contents places fits all =
    let first = part_writes part contents places in
    grows_then (omega (arith, length-append contents first.0)) (part_grows contents places fits part all.0)
    (laid_grows layout (contents ++ first.0) first.1 (part_fits contents places fits part all.0) all.1)

-- ---- reading

-- the parts are read, and their pointers lead to recorded places
abbrev pub Runs : List ℕ → List ℕ → ℕ → List LayoutPart → ℕ → Type 0
Runs contents places at [] end = at ≡ end
Runs contents places at (NamePart labels ∷ layout) end = (middle : ℕ) × ReadsAlike contents labels at middle × Run contents places at at × (at ≤ middle) × Runs contents places middle layout end
Runs contents places at (OctetsPart octets ∷ layout) end = (at + length octets ≤ length contents) × (take (length octets) (drop at contents) ≡ octets) × Runs contents places (at + length octets) layout end

pub runs_read : (layout : List LayoutPart) (contents places : List ℕ) (at end : ℕ) → Runs contents places at layout end → LayoutAt contents at layout end
runs_read [] contents places at end r = r
runs_read (NamePart labels ∷ layout) contents places at end r = (r.0, r.1, runs_read layout contents places r.0 end r.4)
runs_read (OctetsPart octets ∷ layout) contents places at end r = (r.0, r.1, runs_read layout contents places (at + length octets) end r.2)

runs_moved : (layout : List LayoutPart) (places c d : List ℕ) (a b e f : ℕ) → c ≡ d → a ≡ b → e ≡ f → Runs c places a layout e → Runs d places b layout f
runs_moved layout places c d a b e f same from upto r =
    subst (λ (x : List ℕ). Runs x places b layout f) same (subst (λ (n : ℕ). Runs c places n layout f) from (subst (λ (n : ℕ). Runs c places a layout n) upto r))

-- after a first part
module _ (contents first rest more : List ℕ) where
  regrouped : contents ++ ((first ++ rest) ++ more) ≡ (contents ++ first) ++ (rest ++ more)
  regrouped = ap (λ (l : List ℕ). contents ++ l) (append_assoc first rest more) ∙ sym (append_assoc contents first (rest ++ more))

  end_same : length (contents ++ first) + length rest ≡ length contents + length (first ++ rest)
  end_same = omega (arith, length-append contents first, length-append first rest)

pub laid_runs : (layout : List LayoutPart) (contents places more : List ℕ) → FitsIn places contents → AllByRecursion IsLayoutPart layout
    → Runs (contents ++ ((laid layout contents places).0 ++ more)) (laid layout contents places).1 (length contents) layout (length contents + length (laid layout contents places).0)
unfolding list_writes
laid_runs [] contents places more fits all = omega arith
laid_runs (NamePart labels ∷ layout) contents places more fits all =
    let first = compressed_name_writes labels contents places in
    let rest = laid layout (contents ++ first.0) first.1 in
    let g = laid_grows (NamePart labels ∷ layout) contents places fits all in
    let whole = regrouped contents first.0 rest.0 more in
    let run : Run (contents ++ first.0) rest.1 (length contents) (length contents) = subst (λ (k : List ℕ). Run (contents ++ first.0) k (length contents) (length contents)) (sym g.after_is) (run_wider (contents ++ first.0) places g.added (length contents) (length contents) (omega arith) (name_run contents places labels all.0 fits)) in (
      length contents + length first.0,
      subst (λ (x : List ℕ). ReadsAlike x labels (length contents) (length contents + length first.0)) (sym whole) (compressed_read contents places (rest.0 ++ more) labels all.0 fits),
      subst (λ (x : List ℕ). Run x rest.1 (length contents) (length contents)) (sym whole) (run_more (contents ++ first.0) (rest.0 ++ more) rest.1 run),
      omega arith,
      runs_moved layout rest.1 ((contents ++ first.0) ++ (rest.0 ++ more)) (contents ++ ((first.0 ++ rest.0) ++ more)) (length (contents ++ first.0)) (length contents + length first.0) (length (contents ++ first.0) + length rest.0) (length contents + length (first.0 ++ rest.0)) (sym whole) (length-append contents first.0) (end_same contents first.0 rest.0 more)
          (laid_runs layout (contents ++ first.0) first.1 more (part_fits contents places fits (NamePart labels) all.0) all.1),
    )
laid_runs (OctetsPart octets ∷ layout) contents places more fits all =
    let rest = laid layout (contents ++ octets) places in
    let whole = regrouped contents octets rest.0 more in (
      omega (arith, length-append contents ((octets ++ rest.0) ++ more), length-append (octets ++ rest.0) more, length-append octets rest.0),
      ap (take (length octets)) (drop_at contents ((octets ++ rest.0) ++ more) (length contents) refl ∙ append_assoc octets rest.0 more) ∙ take_at octets (rest.0 ++ more) (length octets) refl,
      runs_moved layout rest.1 ((contents ++ octets) ++ (rest.0 ++ more)) (contents ++ ((octets ++ rest.0) ++ more)) (length (contents ++ octets)) (length contents + length octets) (length (contents ++ octets) + length rest.0) (length contents + length (octets ++ rest.0)) (sym whole) (length-append contents octets) (end_same contents octets rest.0 more)
          (laid_runs layout (contents ++ octets) places more (fits_more contents octets places fits) all.1),
    )

pub reads_then : (contents : List ℕ) (layout others : List LayoutPart) (at middle end : ℕ) → LayoutAt contents at layout middle → LayoutAt contents middle others end → LayoutAt contents at (layout ++ others) end
reads_then contents [] others at middle end r s = subst (λ (n : ℕ). LayoutAt contents n others end) (sym r) s
reads_then contents (NamePart labels ∷ layout) others at middle end r s = (r.0, r.1, reads_then contents layout others r.0 middle end r.2 s)
reads_then contents (OctetsPart octets ∷ layout) others at middle end r s = (r.0, r.1, reads_then contents layout others (at + length octets) middle end r.2 s)

-- whatever is written after them
pub laid_read : (layout : List LayoutPart) (contents places more : List ℕ) → FitsIn places contents → AllByRecursion IsLayoutPart layout
    → LayoutAt ((contents ++ (laid layout contents places).0) ++ more) (length contents) layout (length contents + length (laid layout contents places).0)
laid_read layout contents places more fits all =
    let o = laid layout contents places in
    subst (λ (c : List ℕ). LayoutAt c (length contents) layout (length contents + length o.0)) (sym (append_assoc contents o.0 more))
    (runs_read layout (contents ++ (o.0 ++ more)) o.1 (length contents) (length contents + length o.0) (laid_runs layout contents places more fits all))

-- and so of a value that has a layout
pub layout_read : (layout_matches : Option (List LayoutPart)) (writes : CompressedWrite) (layout : List LayoutPart) (contents places more : List ℕ) → LayoutMatches layout_matches writes → layout_matches ≡ Some layout → FitsIn places contents → AllByRecursion IsLayoutPart layout
    → LayoutAt ((contents ++ (writes contents places).0) ++ more) (length contents) layout (length contents + length (writes contents places).0)
layout_read layout_matches writes layout contents places more matches is fits all =
    let same = (subst (λ (t : Option (List LayoutPart)). LayoutMatches t writes) is matches) contents places in
    subst (λ (r : List ℕ × List ℕ). LayoutAt ((contents ++ r.0) ++ more) (length contents) layout (length contents + length r.0)) (sym same)
    (laid_read layout contents places more fits all)
