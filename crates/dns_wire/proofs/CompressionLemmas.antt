-- The suffix that the function finds is the longest one that is the name at a recorded place, in words.
use Rattle.std.proofs.Common.{◌≡◌, ℕ, zero, suc, ◌+◌, ◌<◌, ◌≤◌, ◌⊎◌, inl, inr, Bool, true, false, cond, List, [], ◌∷◌, ◌++◌, length, Option, Some, None, refl, sym, ap, subst, ◌∙◌, arith}
use Rattle.std.specs.Prelude.{find, Contains, IfSome, IfNone}
use Rattle.std.specs.List.Sorted.{IsStrictlyIncreasing}
use Rattle.std.proofs.lemmas.List.{length-append}
use Rattle.std.proofs.lemmas.List.Elements.{Contains-append_right, Contains-append_cases, All-contains, All-from_recursion}
use Rattle.std.proofs.lemmas.Option.{some_pair_parts}
use Rattle.dns_wire.specs.Compression.{reads_as, occurs_at, or_shorter, longest_recorded, ReadsAlike, RecordedSuffix, LongestRecorded}
use Rattle.dns_wire.specs.Names.{labels_wire}
use Rattle.dns_wire.specs.Pointers.{name_at}
use Rattle.dns_wire.proofs.AlikeLabels.{Found, alike_lowered, lowered_alike}
use Rattle.dns_wire.proofs.Following.{name_at_is, name_at_finds}
use Rattle.dns_wire.proofs.RisingPlaces.{Rises, rises_all, strict_rises}

-- ---- a name at a place

pub stood : (contents : List ℕ) (labels : List (List ℕ)) (place : ℕ) → occurs_at contents labels place ≡ true → (end : ℕ) × ReadsAlike contents labels place end
unfolding occurs_at
stood contents labels place e = by (name_at contents place) refl e where
  by : (read : Found) → name_at contents place ≡ read → reads_as labels read ≡ true → (end : ℕ) × ReadsAlike contents labels place end
  by None is e = absurd cc
  by (Some (there, end)) is e = (end, record { there = there; name = name_at_is contents place there end is; alike = alike_lowered labels there e })

pub occurs : (contents : List ℕ) (labels : List (List ℕ)) (place end : ℕ) → ReadsAlike contents labels place end → occurs_at contents labels place ≡ true
unfolding occurs_at
occurs contents labels place end reads = ap (reads_as labels) (name_at_finds contents place reads.there end reads.name) ∙ lowered_alike labels reads.there reads.alike

-- ---- the first place that passes a test

first_or_later : (x : ℕ) (xs : List ℕ) (place : ℕ) → Contains (x ∷ xs) place → (x ≡ place) ⊎ Contains xs place
first_or_later x xs place recorded = elim (Contains-append_cases (x ∷ []) xs place recorded) [
  | inl here ↦ inl (one here)
  | inr later ↦ inr later
] where
  one : Contains (x ∷ []) place → x ≡ place
  one (zero, within, is) = is
  one (suc k, within, is) = absurd (omega arith)

found_at : (p : ℕ → Bool) (places : List ℕ) (place : ℕ) → find p places ≡ Some place → Contains places place × (p place ≡ true)
found_at p [] place e = absurd cc
found_at p (x ∷ places) place e = by (p x) refl e (λ later. found_at p places place later) where
  by : (b : Bool) → p x ≡ b → cond b (Some x) (find p places) ≡ Some place → (find p places ≡ Some place → Contains places place × (p place ≡ true)) → Contains (x ∷ places) place × (p place ≡ true)
  by true is e more = let same : x ≡ place = cc in ((zero, omega arith, same), rw same at is)
  by false is e more = let f = more e in (Contains-append_right (x ∷ []) places place f.0, f.1)

least_of : (p : ℕ → Bool) (low : ℕ) (places : List ℕ) (place other : ℕ) → Rises low places → find p places ≡ Some place → Contains places other → p other ≡ true → place ≤ other
least_of p low [] place other r e recorded passes = absurd cc
least_of p low (x ∷ places) place other r e recorded passes = by (p x) refl e (λ later there. least_of p (x + 1) places place other r.1 later there passes) where
  by : (b : Bool) → p x ≡ b → cond b (Some x) (find p places) ≡ Some place → (find p places ≡ Some place → Contains places other → place ≤ other) → place ≤ other
  by true is e more =
      let same : x ≡ place = cc in
      elim (first_or_later x places other recorded) [
        | inl here ↦ omega arith
        | inr later ↦ let h : x + 1 ≤ other = All-contains (λ q. x + 1 ≤ q) places other (All-from_recursion (λ q. x + 1 ≤ q) places (rises_all (x + 1) places r.1)) later in omega arith
      ]
  by false is e more = elim (first_or_later x places other recorded) [
    | inl here ↦ absurd (let h : p x ≡ true = ap p here ∙ passes in cc)
    | inr later ↦ more e later
  ]

none_passes : (p : ℕ → Bool) (places : List ℕ) (place : ℕ) → find p places ≡ None → Contains places place → p place ≡ true → ⊥
none_passes p [] place e recorded passes = absurd (omega (arith, recorded.1))
none_passes p (x ∷ places) place e recorded passes = by (p x) refl e (λ later there. none_passes p places place later there passes) where
  by : (b : Bool) → p x ≡ b → cond b (Some x) (find p places) ≡ None → (find p places ≡ None → Contains places place → ⊥) → ⊥
  by true is e more = absurd cc
  by false is e more = elim (first_or_later x places place recorded) [
    | inl here ↦ absurd (let h : p x ≡ true = ap p here ∙ passes in cc)
    | inr later ↦ more e later
  ]

-- ---- suffixes, one label after another

module _ (contents places : List ℕ) where
  abbrev Recorded : List (List ℕ) → ℕ → ℕ → Type 0
  Recorded labels prefix place = RecordedSuffix contents places labels prefix place

  -- all labels are a suffix
  whole_suffix : (label : List ℕ) (labels : List (List ℕ)) (place : ℕ) → Contains places place → occurs_at contents (label ∷ labels) place ≡ true → Recorded (label ∷ labels) 0 place
  whole_suffix label labels place recorded is =
      let s = stood contents (label ∷ labels) place is in
      record { before = []; suffix = label ∷ labels; labels_is = refl; some = omega arith; prefix_is = refl; recorded = recorded; end = s.0; reads = s.1 }

  later_suffix : (label : List ℕ) (labels : List (List ℕ)) (prefix place : ℕ) → Recorded labels prefix place → Recorded (label ∷ labels) (1 + length label + prefix) place
  later_suffix label labels prefix place k =
      record {
        before = label ∷ k.before;
        suffix = k.suffix;
        labels_is = ap (λ (l : List (List ℕ)). label ∷ l) k.labels_is;
        some = k.some;
        prefix_is = omega (arith, k.prefix_is, length-append label (labels_wire k.before));
        recorded = k.recorded;
        end = k.end;
        reads = k.reads;
      }

  -- a suffix is all labels, or a suffix of those after the first
  record Whole (label : List ℕ) (labels : List (List ℕ)) (prefix place : ℕ) : Type 0 where
    at_prefix : prefix ≡ 0
    there : Contains places place
    passes : occurs_at contents (label ∷ labels) place ≡ true

  record Later (label : List ℕ) (labels : List (List ℕ)) (prefix place : ℕ) : Type 0 where
    trailing : ℕ
    prefix_is : prefix ≡ 1 + length label + trailing
    later : Recorded labels trailing place

  parted : (label : List ℕ) (labels : List (List ℕ)) (prefix place : ℕ) → Recorded (label ∷ labels) prefix place → Whole label labels prefix place ⊎ Later label labels prefix place
  parted label labels prefix place k = by k.before k.labels_is k.prefix_is where
    by : (before : List (List ℕ)) → label ∷ labels ≡ before ++ k.suffix → prefix ≡ length (labels_wire before) → Whole label labels prefix place ⊎ Later label labels prefix place
    by [] labels_is prefix_is = inl (record { at_prefix = prefix_is; there = k.recorded; passes = ap (λ (l : List (List ℕ)). occurs_at contents l place) labels_is ∙ occurs contents k.suffix place k.end k.reads })
    by (first ∷ before) labels_is prefix_is =
        let same : label ≡ first = cc in
        let others : labels ≡ before ++ k.suffix = cc in
        inr (record {
          trailing = length (labels_wire before);
          prefix_is = omega (arith, prefix_is, length-append first (labels_wire before), ap length same);
          later = record { before = before; suffix = k.suffix; labels_is = others; some = k.some; prefix_is = refl; recorded = k.recorded; end = k.end; reads = k.reads };
        })

  no_suffix : (prefix place : ℕ) → Recorded [] prefix place → ⊥
  no_suffix prefix place k = by k.before k.suffix k.labels_is k.some where
    by : (before suffix : List (List ℕ)) → [] ≡ before ++ suffix → 0 < length suffix → ⊥
    by [] [] e some = absurd (omega arith)
    by [] (label ∷ suffix) e some = absurd cc
    by (label ∷ before) suffix e some = absurd cc

  -- ---- what is found, and what is not

  record Longest (at : ℕ) (labels : List (List ℕ)) (found place : ℕ) : Type 0 where
    prefix : ℕ
    found_is : found ≡ at + prefix
    best : LongestRecorded contents places labels prefix place

  nothing_recorded : (at : ℕ) (labels : List (List ℕ)) → longest_recorded contents places at labels ≡ None → (prefix place : ℕ) → Recorded labels prefix place → ⊥
  unfolding longest_recorded
  nothing_recorded at [] e prefix place k = no_suffix prefix place k
  nothing_recorded at (label ∷ labels) e prefix place k =
      by (find (occurs_at contents (label ∷ labels)) places) refl e (λ later trailing l. nothing_recorded (at + 1 + length label) labels later trailing place l) where
        by : (found : Option ℕ) → find (occurs_at contents (label ∷ labels)) places ≡ found → or_shorter at found (longest_recorded contents places (at + 1 + length label) labels) ≡ None → (longest_recorded contents places (at + 1 + length label) labels ≡ None → (trailing : ℕ) → Recorded labels trailing place → ⊥) → ⊥
        by None is e more = elim (parted label labels prefix place k) [
          | inl w ↦ none_passes (occurs_at contents (label ∷ labels)) places place is w.there w.passes
          | inr l ↦ more e l.trailing l.later
        ]
        by (Some first) is e more = absurd cc

  record Known (at : ℕ) (labels : List (List ℕ)) (found place : ℕ) : Type 0 where
    prefix : ℕ
    found_is : found ≡ at + prefix
    known : Recorded labels prefix place

  known_by : (at : ℕ) (labels : List (List ℕ)) (found place : ℕ) → longest_recorded contents places at labels ≡ Some (found, place) → Known at labels found place
  unfolding longest_recorded
  known_by at [] found place e = absurd cc
  known_by at (label ∷ labels) found place e =
      by (find (occurs_at contents (label ∷ labels)) places) refl e (λ later. known_by (at + 1 + length label) labels found place later) where
        by : (recorded : Option ℕ) → find (occurs_at contents (label ∷ labels)) places ≡ recorded → or_shorter at recorded (longest_recorded contents places (at + 1 + length label) labels) ≡ Some (found, place) → (longest_recorded contents places (at + 1 + length label) labels ≡ Some (found, place) → Known (at + 1 + length label) labels found place) → Known at (label ∷ labels) found place
        by None is e more = let l = more e in record { prefix = 1 + length label + l.prefix; found_is = omega (arith, l.found_is); known = later_suffix label labels l.prefix place l.known }
        by (Some first) is e more =
            let p = some_pair_parts at found first place e in
            let f = found_at (occurs_at contents (label ∷ labels)) places first is in
            record { prefix = 0; found_is = omega (arith, p.0); known = subst (Recorded (label ∷ labels) 0) p.1 (whole_suffix label labels first f.0 f.1) }

  longest_by : (rises : Rises 0 places) (at : ℕ) (labels : List (List ℕ)) (found place : ℕ) → longest_recorded contents places at labels ≡ Some (found, place) → Longest at labels found place
  unfolding longest_recorded
  longest_by rises at [] found place e = absurd cc
  longest_by rises at (label ∷ labels) found place e =
      by (find (occurs_at contents (label ∷ labels)) places) refl e (λ later. longest_by rises (at + 1 + length label) labels found place later) where
        by : (recorded : Option ℕ) → find (occurs_at contents (label ∷ labels)) places ≡ recorded → or_shorter at recorded (longest_recorded contents places (at + 1 + length label) labels) ≡ Some (found, place) → (longest_recorded contents places (at + 1 + length label) labels ≡ Some (found, place) → Longest (at + 1 + length label) labels found place) → Longest at (label ∷ labels) found place
        by None is e more =
            let l = more e in
            record {
              prefix = 1 + length label + l.prefix;
              found_is = omega (arith, l.found_is);
              best = record {
                known = later_suffix label labels l.prefix place l.best.known;
                longest = λ other at k. elim (parted label labels other at k) [
                  | inl w ↦ absurd (none_passes (occurs_at contents (label ∷ labels)) places at is w.there w.passes)
                  | inr o ↦ omega (arith, o.prefix_is, l.best.longest o.trailing at o.later)
                ];
                smallest = λ at k. elim (parted label labels (1 + length label + l.prefix) at k) [
                  | inl w ↦ absurd (none_passes (occurs_at contents (label ∷ labels)) places at is w.there w.passes)
                  | inr o ↦ l.best.smallest at (subst (λ (n : ℕ). Recorded labels n at) (let same : o.trailing ≡ l.prefix = omega (arith, o.prefix_is) in same) o.later)
                ];
              };
            }
        by (Some first) is e more =
            let p = some_pair_parts at found first place e in
            let f = found_at (occurs_at contents (label ∷ labels)) places first is in
            record {
              prefix = 0;
              found_is = omega (arith, p.0);
              best = record {
                known = subst (Recorded (label ∷ labels) 0) p.1 (whole_suffix label labels first f.0 f.1);
                longest = λ other at k. omega arith;
                smallest = λ at k. elim (parted label labels 0 at k) [
                  | inl w ↦ omega (arith, least_of (occurs_at contents (label ∷ labels)) 0 places first at rises is w.there w.passes, p.1)
                  | inr o ↦ absurd (omega (arith, o.prefix_is))
                ];
              };
            }

  -- ---- the laws

  pub none_is : (labels : List (List ℕ)) → longest_recorded contents places 0 labels ≡ None → (prefix place : ℕ) → ¬ RecordedSuffix contents places labels prefix place
  none_is labels e = nothing_recorded 0 labels e

  pub known_is : (labels : List (List ℕ)) (prefix place : ℕ) → longest_recorded contents places 0 labels ≡ Some (prefix, place) → RecordedSuffix contents places labels prefix place
  known_is labels prefix place e =
      let l = known_by 0 labels prefix place e in
      subst (λ (n : ℕ). RecordedSuffix contents places labels n place) (let same : l.prefix ≡ prefix = omega (arith, l.found_is) in same) l.known

  pub longest_is : (labels : List (List ℕ)) (prefix place : ℕ) → IsStrictlyIncreasing places → longest_recorded contents places 0 labels ≡ Some (prefix, place) → LongestRecorded contents places labels prefix place
  longest_is labels prefix place rising e =
      let l = longest_by (strict_rises places rising) 0 labels prefix place e in
      subst (λ (n : ℕ). LongestRecorded contents places labels n place) (let same : l.prefix ≡ prefix = omega (arith, l.found_is) in same) l.best

  pub longest_finds : (labels : List (List ℕ)) (prefix place : ℕ) → IsStrictlyIncreasing places → LongestRecorded contents places labels prefix place → longest_recorded contents places 0 labels ≡ Some (prefix, place)
  longest_finds labels prefix place rising best = by (longest_recorded contents places 0 labels) refl where
    by : (found : Option (ℕ × ℕ)) → longest_recorded contents places 0 labels ≡ found → longest_recorded contents places 0 labels ≡ Some (prefix, place)
    by None e = absurd (none_is labels e prefix place best.known)
    by (Some (other, at)) e =
        let l = longest_is labels other at rising e in
        let starts : other ≡ prefix = omega (arith, l.longest prefix place best.known, best.longest other at l.known) in
        let first : place ≤ at = best.smallest at (subst (λ (n : ℕ). RecordedSuffix contents places labels n at) starts l.known) in
        let second : at ≤ place = l.smallest place (subst (λ (n : ℕ). RecordedSuffix contents places labels n place) (sym starts) best.known) in
        let same : at ≡ place = omega arith in
        e ∙ ap (λ (n : ℕ). Some (n, at)) starts ∙ ap (λ (n : ℕ). Some (prefix, n)) same

  pub none_found : (labels : List (List ℕ)) → ((prefix place : ℕ) → ¬ RecordedSuffix contents places labels prefix place) → longest_recorded contents places 0 labels ≡ None
  none_found labels none = by (longest_recorded contents places 0 labels) refl where
    by : (found : Option (ℕ × ℕ)) → longest_recorded contents places 0 labels ≡ found → longest_recorded contents places 0 labels ≡ None
    by None e = e
    by (Some (prefix, place)) e = absurd (none prefix place (known_is labels prefix place e))

  -- what is answered
  pub answer_longest : (labels : List (List ℕ)) (answer : Option (ℕ × ℕ)) → IsStrictlyIncreasing places → answer ≡ longest_recorded contents places 0 labels → IfSome answer (λ k. LongestRecorded contents places labels k.0 k.1)
  answer_longest labels None rising e = tt
  answer_longest labels (Some (prefix, place)) rising e = longest_is labels prefix place rising (sym e)

  pub answer_none : (labels : List (List ℕ)) (answer : Option (ℕ × ℕ)) → answer ≡ longest_recorded contents places 0 labels → IfNone answer ((prefix place : ℕ) → ¬ RecordedSuffix contents places labels prefix place)
  answer_none labels None e = none_is labels (sym e)
  answer_none labels (Some found) e = tt
