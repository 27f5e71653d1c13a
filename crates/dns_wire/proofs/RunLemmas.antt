-- Places that lead to names, as the contents and the list of places grow.
use Rattle.std.proofs.Common.{◌≡◌, ℕ, ◌+◌, ◌<◌, ◌≤◌, inl, inr, List, [], ◌∷◌, ◌++◌, length, take, drop, sym, subst, ◌∙◌, arith}
use Rattle.std.specs.Prelude.{slice_index}
use Rattle.std.specs.List.{AllByRecursion}
use Rattle.std.proofs.lemmas.List.{length-append, take-append-drop}
use Rattle.std.proofs.lemmas.List.Elements.{Contains-append_left, Contains-append_cases, All-contains, All-from_recursion}
use Rattle.dns_wire.specs.Compression.{Run, RunAt, FitsIn}
use Rattle.dns_wire.specs.Compression.Run.{run_root, run_label, run_pointer}
use Rattle.dns_wire.proofs.Following.{octet_unchanged}
use Rattle.dns_wire.proofs.RisingPlaces.{all_prefix, all_map, strict_rises, rises_apart, places_prefix}

-- ---- along a run

pub run_within : (contents places : List ℕ) {first at : ℕ} → Run contents places first at → at < length contents
run_within contents places (run_root within is) = within
run_within contents places (run_label some small room later) = omega arith
run_within contents places (run_pointer target high room is recorded before) = omega arith

-- what follows a label of a run
pub record Next (contents places : List ℕ) (first at : ℕ) : Type 0 where
  pub room : at + 1 + slice_index contents at ≤ length contents
  pub run : Run contents places first (at + 1 + slice_index contents at)

pub run_next : (contents places : List ℕ) {first at : ℕ} → Run contents places first at → 0 < slice_index contents at → slice_index contents at < 64 → Next contents places first at
run_next contents places (run_root within is) some small = absurd (omega arith)
run_next contents places (run_label _ _ room later) some small = record { room = room; run = later }
run_next contents places (run_pointer target high room is recorded before) some small = absurd (omega arith)

-- ---- octets after the contents change nothing

pub run_more : (contents more places : List ℕ) {first at : ℕ} → Run contents places first at → Run (contents ++ more) places first at
run_more contents more places {at = at} (run_root within is) = run_root (omega (arith, length-append contents more)) (octet_unchanged contents more at within ∙ is)
run_more contents more places {at = at} (run_label some small room later) =
    let same : slice_index (contents ++ more) at ≡ slice_index contents at = octet_unchanged contents more at (omega arith) in
    run_label (rw same some) (rw same small) (rw same (omega (arith, length-append contents more))) (rw same (run_more contents more places later))
run_more contents more places {at = at} (run_pointer target high room is recorded before) =
    let same : slice_index (contents ++ more) at ≡ slice_index contents at = octet_unchanged contents more at (omega arith) in
    let next : slice_index (contents ++ more) (at + 1) ≡ slice_index contents (at + 1) = octet_unchanged contents more (at + 1) (omega arith) in
    run_pointer target (rw same high) (omega (arith, length-append contents more)) (rw (same, next) is) recorded before

runs_more : (contents more all places : List ℕ) → AllByRecursion (RunAt contents all) places → AllByRecursion (RunAt (contents ++ more) all) places
runs_more contents more all [] runs = tt
runs_more contents more all (at ∷ places) runs =
    let same : slice_index (contents ++ more) at ≡ slice_index contents at = octet_unchanged contents more at (run_within contents all runs.0.run) in
    (record { labelled = rw same runs.0.labelled; run = run_more contents more all runs.0.run }, runs_more contents more all places runs.1)

pub fits_more : (contents more places : List ℕ) → FitsIn places contents → FitsIn places (contents ++ more)
fits_more contents more places fits = record { places_are = fits.places_are; runs = runs_more contents more places places fits.runs }

-- ---- more places

-- a later place may point further, and more places may be pointed to
pub run_wider : (contents places more : List ℕ) (low high : ℕ) {at : ℕ} → low ≤ high → Run contents places low at → Run contents (places ++ more) high at
run_wider contents places more low high h (run_root within is) = run_root within is
run_wider contents places more low high h (run_label some small room later) = run_label some small room (run_wider contents places more low high h later)
run_wider contents places more low high h (run_pointer target top room is recorded before) = run_pointer target top room is (Contains-append_left places more target recorded) (omega arith)

pub runs_wider : (contents places all more : List ℕ) → AllByRecursion (RunAt contents all) places → AllByRecursion (RunAt contents (all ++ more)) places
runs_wider contents [] all more runs = tt
runs_wider contents (at ∷ places) all more runs = (record { labelled = runs.0.labelled; run = run_wider contents all more at at (omega arith) runs.0.run }, runs_wider contents places all more runs.1)

-- a recorded place is a place of the contents
pub runs_before : (contents places all : List ℕ) → AllByRecursion (RunAt contents all) places → AllByRecursion (λ place. place < length contents) places
runs_before contents [] all runs = tt
runs_before contents (at ∷ places) all runs = (run_within contents all runs.0.run, runs_before contents places all runs.1)

-- ---- fewer places

run_prefix : (contents prefix back : List ℕ) {first at : ℕ} → AllByRecursion (λ y. first ≤ y) back → Run contents (prefix ++ back) first at → Run contents prefix first at
run_prefix contents prefix back above (run_root within is) = run_root within is
run_prefix contents prefix back above (run_label some small room later) = run_label some small room (run_prefix contents prefix back above later)
run_prefix contents prefix back {first = first} above (run_pointer target high room is recorded before) =
    run_pointer target high room is (elim (Contains-append_cases prefix back target recorded) [
      | inl here ↦ here
      | inr there ↦ absurd (let h : first ≤ target = All-contains (λ y. first ≤ y) back target (All-from_recursion (λ y. first ≤ y) back above) there in omega arith)
    ]) before

runs_prefix : (contents prefix back some : List ℕ) → AllByRecursion (λ x. AllByRecursion (λ y. x < y) back) some → AllByRecursion (RunAt contents (prefix ++ back)) some → AllByRecursion (RunAt contents prefix) some
runs_prefix contents prefix back [] above runs = tt
runs_prefix contents prefix back (at ∷ some) above runs =
    (record { labelled = runs.0.labelled; run = run_prefix contents prefix back (all_map (λ y. at < y) (λ y. at ≤ y) back (λ y h. omega arith) above.0) runs.0.run }, runs_prefix contents prefix back some above.1 runs.1)

fits_prefix : (contents prefix back : List ℕ) → FitsIn (prefix ++ back) contents → FitsIn prefix contents
fits_prefix contents prefix back fits =
    record {
      places_are = places_prefix prefix back fits.places_are;
      runs = runs_prefix contents prefix back prefix (rises_apart 0 prefix back (strict_rises (prefix ++ back) fits.places_are.rising)) (all_prefix (RunAt contents (prefix ++ back)) prefix back fits.runs);
    }

-- pointers of the places that stay lead to places that stay
pub fits_take : (contents places : List ℕ) (n : ℕ) → FitsIn places contents → FitsIn (take n places) contents
fits_take contents places n fits = fits_prefix contents (take n places) (drop n places) (subst (λ (k : List ℕ). FitsIn k contents) (sym (take-append-drop n places)) fits)
