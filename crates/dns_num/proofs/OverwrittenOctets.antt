-- Octets that are written over after what is after them was written.
use Rattle.std.proofs.Common.{◌≡◌, ℕ, ◌+◌, ◌-◌, ◌≤◌, List, [], ◌∷◌, ◌++◌, length, get_or, drop, refl, sym, ap, ◌∙◌, append_assoc, arith}
use Rattle.std.specs.Prelude.{slice_index}
use Rattle.std.specs.List.{AllByRecursion}
use Rattle.std.proofs.lemmas.List.{get_or-drop, drop_at, length-append}
use Rattle.dns_wire.specs.Compression.{Run, RunAt, FitsIn}
use Rattle.dns_wire.specs.Compression.Run.{run_root, run_label, run_pointer}
use Rattle.dns_wire.proofs.RisingPlaces.{all_append}
use Rattle.dns_wire.proofs.RunLemmas.{fits_more, runs_wider}

-- ---- contents that agree from a place on

same_octet : (c d : List ℕ) (low at : ℕ) → low ≤ at → drop low c ≡ drop low d → slice_index c at ≡ slice_index d at
same_octet c d low at h same =
    let place : low + (at - low) ≡ at = omega arith in
    sym (ap (λ (n : ℕ). get_or c n 0) place) ∙ sym (get_or-drop low c (at - low) 0) ∙ ap (λ (l : List ℕ). get_or l (at - low) 0) same ∙ get_or-drop low d (at - low) 0 ∙ ap (λ (n : ℕ). get_or d n 0) place

module _ (c d places : List ℕ) (low : ℕ) (long : length c ≡ length d) (same : drop low c ≡ drop low d) where
  -- a run depends on the octets from its place on alone
  run_from : {first at : ℕ} → low ≤ at → Run c places first at → Run d places first at
  run_from {first} {at} h (run_root within is) = run_root (omega arith) (sym (same_octet c d low at h same) ∙ is)
  run_from {first} {at} h (run_label some small room later) =
      let e : slice_index d at ≡ slice_index c at = sym (same_octet c d low at h same) in
      run_label (rw e some) (rw e small) (rw e (omega arith)) (rw e (run_from (omega arith) later))
  run_from {first} {at} h (run_pointer target high room is unchanged before) =
      let e : slice_index d at ≡ slice_index c at = sym (same_octet c d low at h same) in
      let f : slice_index d (at + 1) ≡ slice_index c (at + 1) = sym (same_octet c d low (at + 1) (omega arith) same) in
      run_pointer target (rw e high) (omega arith) (rw (e, f) is) unchanged before

  runs_from : (added : List ℕ) → AllByRecursion (λ place. low ≤ place) added → AllByRecursion (RunAt c places) added → AllByRecursion (RunAt d places) added
  runs_from [] trailing runs = tt
  runs_from (at ∷ added) trailing runs =
      let e : slice_index d at ≡ slice_index c at = sym (same_octet c d low at trailing.0 same) in
      (record { labelled = rw e runs.0.labelled; run = run_from trailing.0 runs.0.run }, runs_from added trailing.1 runs.1)

all_after : (P : ℕ → Type 0) (xs ys : List ℕ) → AllByRecursion P (xs ++ ys) → AllByRecursion P ys
all_after P [] ys all = all
all_after P (x ∷ xs) ys all = all_after P xs ys all.1

past_slot : (prefix slot inner : List ℕ) (n : ℕ) → n ≡ length prefix + length slot → drop n (prefix ++ (slot ++ inner)) ≡ inner
past_slot prefix slot inner n e = ap (drop n) (sym (append_assoc prefix slot inner)) ∙ drop_at (prefix ++ slot) inner n (omega (arith, length-append prefix slot))

-- Old places lead to names before the slot, and new ones to names after it: so writing over it touches none.
pub slot_fits : (prefix slot filled inner places added : List ℕ) → length slot ≡ length filled → FitsIn places prefix → AllByRecursion (λ place. length prefix + length slot ≤ place) added → FitsIn (places ++ added) (prefix ++ (slot ++ inner)) → FitsIn (places ++ added) (prefix ++ (filled ++ inner))
slot_fits prefix slot filled inner places added same before trailing fits =
    let c : List ℕ = prefix ++ (slot ++ inner) in
    let d : List ℕ = prefix ++ (filled ++ inner) in
    let low : ℕ = length prefix + length slot in
    let long : length c ≡ length d = omega (arith, length-append prefix (slot ++ inner), length-append prefix (filled ++ inner), length-append slot inner, length-append filled inner) in
    let agree : drop low c ≡ drop low d = past_slot prefix slot inner low refl ∙ sym (past_slot prefix filled inner low (omega arith)) in
    record {
      places_are = fits.places_are;
      runs = all_append (RunAt d (places ++ added)) places added (runs_wider d places places added (fits_more prefix (filled ++ inner) places before).runs)
          (runs_from c d (places ++ added) low long agree added trailing (all_after (RunAt c (places ++ added)) places added fits.runs));
    }
