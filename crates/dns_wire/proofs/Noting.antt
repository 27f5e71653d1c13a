-- The places of labels that were written.
use Rattle.std.proofs.Common.{◌≡◌, ℕ, zero, suc, ◌+◌, ◌-◌, ◌<◌, ◌≤◌, ◌⊎◌, inl, inr, Bool, true, false, cond, List, [], ◌∷◌, ◌++◌, length, take, drop, refl, sym, ap, subst, ◌∙◌, append_assoc, arith}
use Rattle.std.specs.Prelude.{slice_index, filter}
use Rattle.std.specs.List.{AllByRecursion}
use Rattle.std.proofs.lemmas.Bool.Decides.{nat_tests}
use Rattle.std.proofs.lemmas.List.{length-append, length-take, take-append-le, take_all, take-append-drop, append-nil}
use Rattle.std.proofs.Math.Seq.{take-append-add}
use Rattle.dns_wire.specs.Compression.{Run, RunAt, FitsIn, Grows, is_label_size, label_places, is_within_reach, with_more, recorded}
use Rattle.dns_wire.specs.declared.sizes.TheConstants.{LAST_PLACE}
use Rattle.dns_wire.proofs.RisingPlaces.{Rises, all_take, all_append, all_map, rises_take, places_more}
use Rattle.dns_wire.proofs.RunLemmas.{run_within, run_next, run_wider, runs_wider, runs_before, fits_more}

-- ---- the labels of a run

-- a place from which there are labels up to the end of a run
record LabelPlace (contents places : List ℕ) (first at : ℕ) : Type 0 where
  trailing : first ≤ at
  low : at ≤ LAST_PLACE
  labelled : (0 < slice_index contents at) × (slice_index contents at < 64)
  run : Run contents places first at

pub filter_step : (at : ℕ) (others : List ℕ) (b : Bool) → is_within_reach at ≡ b → filter is_within_reach (at ∷ others) ≡ cond b (at ∷ filter is_within_reach others) (filter is_within_reach others)
filter_step at others true e = rw e refl
filter_step at others false e = rw e refl

pub label_step : (contents : List ℕ) (most at : ℕ) (b : Bool) → is_label_size (slice_index contents at) ≡ b → label_places (suc most) contents at ≡ cond b (at ∷ label_places most contents (at + 1 + slice_index contents at)) []
unfolding label_places
label_step contents most at true e = rw e refl
label_step contents most at false e = rw e refl

label_size : (size : ℕ) → is_label_size size ≡ true → (0 < size) × (size < 64)
label_size size e = (grind (arith, nat_tests), grind (arith, nat_tests))

record LabelPlaces (contents places : List ℕ) (first low : ℕ) (found : List ℕ) : Type 0 where
  rising : Rises low found
  each : AllByRecursion (LabelPlace contents places first) found

labels_of_run : (contents places : List ℕ) (first most at low : ℕ) → first ≤ at → low ≤ at → Run contents places first at → LabelPlaces contents places first low (filter is_within_reach (label_places most contents at))
unfolding label_places
labels_of_run contents places first zero at low h l run = record { rising = tt; each = tt }
labels_of_run contents places first (suc most) at low h l run =
    subst (LabelPlaces contents places first low) (sym (ap (filter is_within_reach) (label_step contents most at (is_label_size (slice_index contents at)) refl)))
    (by (is_label_size (slice_index contents at)) refl (λ next_low k next. labels_of_run contents places first most (at + 1 + slice_index contents at) next_low (omega arith) k next)) where
      recorded : (b : Bool) → is_within_reach at ≡ b → (0 < slice_index contents at) × (slice_index contents at < 64) → (others : List ℕ) → ((next_low : ℕ) → next_low ≤ at + 1 → LabelPlaces contents places first next_low others) → LabelPlaces contents places first low (cond b (at ∷ others) others)
      recorded true e size others more = let m = more (at + 1) (omega arith) in record { rising = (l, m.rising); each = (record { trailing = h; low = grind (arith, nat_tests); labelled = size; run = run }, m.each) }
      recorded false e size others more = more low (omega arith)

      by : (b : Bool) → is_label_size (slice_index contents at) ≡ b → ((next_low : ℕ) → next_low ≤ at + 1 + slice_index contents at → Run contents places first (at + 1 + slice_index contents at) → LabelPlaces contents places first next_low (filter is_within_reach (label_places most contents (at + 1 + slice_index contents at)))) → LabelPlaces contents places first low (filter is_within_reach (cond b (at ∷ label_places most contents (at + 1 + slice_index contents at)) []))
      by true e more =
          let size = label_size (slice_index contents at) e in
          let next = run_next contents places run size.0 size.1 in
          subst (LabelPlaces contents places first low) (sym (filter_step at (label_places most contents (at + 1 + slice_index contents at)) (is_within_reach at) refl))
          (recorded (is_within_reach at) refl size (filter is_within_reach (label_places most contents (at + 1 + slice_index contents at))) (λ next_low k. more next_low (omega arith) next.run))
      by false e more = record { rising = tt; each = tt }

-- ---- room for 128

take_prefix : {A : Type 0} (n : ℕ) (xs ys : List A) → take n (take n xs ++ ys) ≡ take n (xs ++ ys)
take_prefix zero xs ys = refl
take_prefix (suc n) [] ys = refl
take_prefix {A} (suc n) (x ∷ xs) ys = ap (λ (l : List A). x ∷ l) (take_prefix n xs ys)

taken : (xs ys : List ℕ) → length xs ≤ 128 → take 128 (xs ++ ys) ≡ xs ++ take (128 - length xs) ys
taken xs ys few = ap (λ (n : ℕ). take n (xs ++ ys)) (let e : 128 ≡ length xs + (128 - length xs) = omega arith in e) ∙ take-append-add xs ys (128 - length xs)

more_none : (now : List ℕ) → length now ≤ 128 → with_more now [] ≡ now
more_none now few = taken now [] few ∙ ap (λ (l : List ℕ). now ++ l) (nothing (128 - length now)) ∙ append-nil now where
  nothing : (n : ℕ) → take {A = ℕ} n [] ≡ []
  nothing zero = refl
  nothing (suc n) = refl

pub more_low : (now : List ℕ) (place : ℕ) → length now < 128 → place ≤ LAST_PLACE → now ++ place ∷ [] ≡ with_more now (place ∷ [])
more_low now place few low =
    let test : is_within_reach place ≡ true = grind (arith, nat_tests) in
    sym (ap (λ (l : List ℕ). take 128 (now ++ l)) (filter_step place [] true test) ∙ take_all 128 (now ++ place ∷ []) (omega (arith, length-append now (place ∷ []))))

pub more_high : (now : List ℕ) (place : ℕ) → length now ≤ 128 → LAST_PLACE < place → now ≡ with_more now (place ∷ [])
more_high now place few high =
    let test : is_within_reach place ≡ false = grind (arith, nat_tests) in
    sym (ap (λ (l : List ℕ). take 128 (now ++ l)) (filter_step place [] false test) ∙ more_none now few)

pub more_full : (now others : List ℕ) → length now ≡ 128 → now ≡ with_more now others
more_full now others full = sym (take-append-le 128 now (filter is_within_reach others) (omega arith) ∙ take_all 128 now (omega arith))

filter_both : (at : ℕ) (others : List ℕ) → filter is_within_reach (at ∷ others) ≡ filter is_within_reach (at ∷ []) ++ filter is_within_reach others
filter_both at others = filter_step at others (is_within_reach at) refl ∙ by (is_within_reach at) ∙ ap (λ (l : List ℕ). l ++ filter is_within_reach others) (sym (filter_step at [] (is_within_reach at) refl)) where
  by : (b : Bool) → cond b (at ∷ filter is_within_reach others) (filter is_within_reach others) ≡ cond b (at ∷ []) [] ++ filter is_within_reach others
  by true = refl
  by false = refl

more_step : (now : List ℕ) (at : ℕ) (others : List ℕ) → with_more (with_more now (at ∷ [])) others ≡ with_more now (at ∷ others)
more_step now at others =
    take_prefix 128 (now ++ filter is_within_reach (at ∷ [])) (filter is_within_reach others)
    ∙ ap (take 128) (append_assoc now (filter is_within_reach (at ∷ [])) (filter is_within_reach others) ∙ ap (λ (l : List ℕ). now ++ l) (sym (filter_both at others)))

more_below : (now : List ℕ) (at next : ℕ) → at < next → AllByRecursion (λ recorded. recorded < at) now → AllByRecursion (λ recorded. recorded < next) (with_more now (at ∷ []))
more_below now at next h below =
    subst (λ (l : List ℕ). AllByRecursion (λ recorded. recorded < next) (take 128 (now ++ l))) (sym (filter_step at [] (is_within_reach at) refl))
    (all_take (λ recorded. recorded < next) 128 (now ++ cond (is_within_reach at) (at ∷ []) []) (all_append (λ recorded. recorded < next) now (cond (is_within_reach at) (at ∷ []) []) (all_map (λ recorded. recorded < at) (λ recorded. recorded < next) now (λ k l. omega arith) below) (one (is_within_reach at)))) where
      one : (b : Bool) → AllByRecursion (λ recorded. recorded < next) (cond b (at ∷ []) [])
      one true = (h, tt)
      one false = tt

-- ---- the loop

pub record Noting (places written : List ℕ) (start : ℕ) (now : List ℕ) (at : ℕ) : Type 0 where
  pub run : Run written places start at
  pub most : ℕ
  pub enough : length written ≤ at + most
  pub few : length now ≤ 128
  pub below : AllByRecursion (λ recorded. recorded < at) now
  pub same : with_more now (label_places most written at) ≡ recorded places written start

pub noting_none : (places written prefix : List ℕ) (start : ℕ) → FitsIn places prefix → length prefix ≤ start → Run written places start start → Noting places written start places start
noting_none places written prefix start fits within run =
    record {
      run = run;
      most = length written - start;
      enough = omega arith;
      few = fits.places_are.few;
      below = all_map (λ place. place < length prefix) (λ place. place < start) places (λ p h. omega arith) (runs_before prefix places places fits.runs);
      same = refl;
    }

module _ (places written : List ℕ) (start : ℕ) (now : List ℕ) (at : ℕ) (n : Noting places written start now at) where
  places_here : (b : Bool) → is_label_size (slice_index written at) ≡ b → (k : ℕ) → n.most ≡ suc k → label_places n.most written at ≡ cond b (at ∷ label_places k written (at + 1 + slice_index written at)) []
  places_here b is k e = ap (λ (s : ℕ). label_places s written at) e ∙ label_step written k at b is

  some_more : (k : ℕ) → n.most ≡ k → (j : ℕ) × (k ≡ suc j)
  some_more zero e = absurd (omega (arith, n.enough, run_within written places n.run))
  some_more (suc j) e = (j, refl)

  pub noting_next : 0 < slice_index written at → slice_index written at < 64 → Noting places written start (with_more now (at ∷ [])) (at + (1 + slice_index written at))
  noting_next some small =
      let t = some_more n.most refl in
      let is : is_label_size (slice_index written at) ≡ true = grind (arith, nat_tests) in
      let place_is : at + 1 + slice_index written at ≡ at + (1 + slice_index written at) = omega arith in
      record {
        run = rw (← place_is) (run_next written places n.run some small).run;
        most = t.0;
        enough = omega (arith, n.enough, t.1);
        few = omega (arith, length-take 128 (now ++ filter is_within_reach (at ∷ [])));
        below = more_below now at (at + (1 + slice_index written at)) (omega arith) n.below;
        same = rw (← place_is) (more_step now at (label_places t.0 written (at + 1 + slice_index written at)) ∙ ap (with_more now) (sym (places_here true is t.0 t.1)) ∙ n.same);
      }

  pub noting_done : (slice_index written at ≡ 0) ⊎ (63 < slice_index written at) → now ≡ recorded places written start
  noting_done ended =
      let t = some_more n.most refl in
      let is : is_label_size (slice_index written at) ≡ false = elim ended [ inl e ↦ grind (arith, nat_tests, e) | inr e ↦ grind (arith, nat_tests, e) ] in
      sym (more_none now n.few) ∙ ap (with_more now) (sym (places_here false is t.0 t.1)) ∙ n.same

  pub noting_past : length written ≤ at → ⊥
  noting_past past = omega (arith, run_within written places n.run)

-- ---- and the places lead to names

module _ (places written : List ℕ) (start : ℕ) (fits : FitsIn places (take start written)) (run : Run written places start start) where
  abbrev found : List ℕ
  found = filter is_within_reach (label_places (length written - start) written start)

  abbrev added : List ℕ
  added = take (128 - length places) found

  these : LabelPlaces written places start start found
  these = labels_of_run written places start (length written - start) start start (omega arith) (omega arith) run

  each : AllByRecursion (LabelPlace written places start) added
  each = all_take (LabelPlace written places start) (128 - length places) found these.each

  whole : FitsIn places written
  whole = subst (FitsIn places) (take-append-drop start written) (fits_more (take start written) (drop start written) places fits)

  below : AllByRecursion (λ place. place < start) places
  below = all_map (λ place. place < length (take start written)) (λ place. place < start) places (λ p h. omega (arith, length-take start written)) (runs_before (take start written) places places fits.runs)

  recorded_is : recorded places written start ≡ places ++ added
  recorded_is = taken places found fits.places_are.few

  pub recorded_fits : FitsIn (recorded places written start) written
  recorded_fits =
      subst (λ (all : List ℕ). FitsIn all written) (sym recorded_is) (record {
        places_are = places_more places added start fits.places_are below (rises_take start (128 - length places) found these.rising) (all_map (LabelPlace written places start) (λ place. place ≤ LAST_PLACE) added (λ p h. h.low) each) (omega (arith, length-append places added, length-take (128 - length places) found, fits.places_are.few));
        runs = all_append (RunAt written (places ++ added)) places added (runs_wider written places places added whole.runs) (all_map (LabelPlace written places start) (RunAt written (places ++ added)) added (λ p h. record { labelled = h.labelled; run = run_wider written places added start p h.trailing h.run }) each);
      })

  pub recorded_grows : Grows places (recorded places written start) start
  recorded_grows = record { added = added; after_is = recorded_is; trailing = all_map (LabelPlace written places start) (λ place. start ≤ place) added (λ p h. h.trailing) each }
