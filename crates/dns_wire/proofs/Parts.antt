-- Values that are written in a message whole, and one after another.
use Rattle.std.proofs.Common.{◌≡◌, ℕ, ◌≤◌, List, [], ◌++◌, length, take, refl, sym, ap, subst, ◌∙◌, append_assoc, arith, Result, Ok, Err}
use Rattle.std.proofs.lemmas.List.{length-append, append-nil, take_at}
use Rattle.dns_wire.specs.Building.{Occurs, Builds}
use Rattle.dns_wire.specs.Compression.{CompressedWrite, FitsIn, Grows}
use Rattle.dns_wire.specs.InMessage.{BuildsIn, then_fits}
use Rattle.dns_wire.specs.Layout.{octets_writes, then_writes}
use Rattle.dns_wire.proofs.RisingPlaces.{all_append, all_map}
use Rattle.dns_wire.proofs.RunLemmas.{fits_more}
use Rattle.dns_wire.proofs.BuildingLemmas.{occurs_prefix, occurs_long, occurs_then, prefix_unchanged}

-- octets as they are
pub builds_whole : {E F : Type 0} {octets old new places : List ℕ} {start : ℕ} {result : Result ℕ E} → FitsIn places (take start old) → Builds F octets old start new result → BuildsIn F (octets_writes octets (take start old) places) old start places new places result
builds_whole {octets = octets} {old} {new} {places} {start} {result = Ok end} fits b =
    record {
      accepted = b.ok.0;
      occurs = b.ok.1;
      after_is = refl;
      grows = record { added = []; after_is = sym (append-nil places); trailing = tt };
      leads = rw (occurs_prefix b.ok.1) (fits_more (take start old) octets places fits);
      refused = tt;
      prefix = tt;
      size = tt;
      unchanged = tt;
    }
builds_whole {result = Err e} fits b =
    record { accepted = tt; occurs = tt; after_is = tt; grows = tt; leads = tt; refused = b.err.2; prefix = b.err.0; size = b.err.1; unchanged = refl }

-- ---- one value after another

grows_then : {places known after : List ℕ} {start middle : ℕ} → start ≤ middle → Grows places known start → Grows known after middle → Grows places after start
grows_then {places} {known} {after} {start} {middle} h g k =
    record {
      added = g.added ++ k.added;
      after_is = k.after_is ∙ ap (λ (l : List ℕ). l ++ k.added) g.after_is ∙ append_assoc places g.added k.added;
      trailing = all_append (λ p. start ≤ p) g.added k.added g.trailing (all_map (λ p. middle ≤ p) (λ p. start ≤ p) k.added (λ p b. omega arith) k.trailing);
    }

module _ (first second : CompressedWrite) (first_fits second_fits : List ℕ → List ℕ → Type 0) (old middle_old places known : List ℕ) (start middle : ℕ) (f : first_fits (take start old) places) (s : Occurs (first (take start old) places).0 old start middle_old middle) (known_is : known ≡ (first (take start old) places).1) (g : Grows places known start) where
  -- what the second one sees
  seen : {E : Type 0} {new after : List ℕ} {result : Result ℕ E} → BuildsIn (second_fits (take middle middle_old) known) (second (take middle middle_old) known) middle_old middle known new after result → BuildsIn (second_fits (take start old ++ (first (take start old) places).0) (first (take start old) places).1) (second (take start old ++ (first (take start old) places).0) (first (take start old) places).1) middle_old middle known new after result
  seen {E} {new} {after} {result} t =
      subst (λ (k : List ℕ). BuildsIn (second_fits (take start old ++ (first (take start old) places).0) k) (second (take start old ++ (first (take start old) places).0) k) middle_old middle known new after result) known_is
      (subst (λ (c : List ℕ). BuildsIn (second_fits c known) (second c known) middle_old middle known new after result) (occurs_prefix s) t)

  pub both_built : {E : Type 0} (new after : List ℕ) (end : ℕ) → BuildsIn {E = E} (second_fits (take middle middle_old) known) (second (take middle middle_old) known) middle_old middle known new after (Ok end) → BuildsIn {E = E} (then_fits first_fits first second_fits (take start old) places) (then_writes first second (take start old) places) old start places new after (Ok end)
  both_built new after end t =
      let u = seen t in
      record {
        accepted = (f, u.accepted);
        occurs = occurs_then s u.occurs;
        after_is = u.after_is;
        grows = grows_then (omega (arith, s.end_is)) g u.grows;
        leads = u.leads;
        refused = tt;
        prefix = tt;
        size = tt;
        unchanged = tt;
      }

  -- the places of the first one are taken back if the second one is refused
  pub both_refused : {E F : Type 0} (new after back : List ℕ) (e : E) (d : F) → back ≡ take (length places) after → BuildsIn (second_fits (take middle middle_old) known) (second (take middle middle_old) known) middle_old middle known new after (Err e) → BuildsIn (then_fits first_fits first second_fits (take start old) places) (then_writes first second (take start old) places) old start places new back (Err d)
  both_refused new after back e d back_is t =
      let u = seen t in
      record {
        accepted = tt;
        occurs = tt;
        after_is = tt;
        grows = tt;
        leads = tt;
        refused = λ h. omega (arith, u.refused h.1, s.end_is, occurs_long s, length-append (first (take start old) places).0 (second (take start old ++ (first (take start old) places).0) (first (take start old) places).1).0);
        prefix = prefix_unchanged old middle_old new _ start middle s u.prefix;
        size = u.size ∙ occurs_long s;
        unchanged = back_is ∙ ap (take (length places)) (u.unchanged ∙ g.after_is) ∙ take_at places g.added (length places) refl;
      }
