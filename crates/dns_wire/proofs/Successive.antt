-- Lists of values that are written in a message, value by value.
use Rattle.std.proofs.Common.{◌≡◌, ℕ, ◌≤◌, List, [], ◌∷◌, ◌++◌, length, take, refl, sym, ap, subst, ◌∙◌, append_assoc, arith, Result, Ok, Err}
use Rattle.std.specs.Prelude.{⊤}
use Rattle.std.proofs.lemmas.List.{length-append, append-nil, take-append-drop}
use Rattle.dns_wire.specs.Building.{Builds}
use Rattle.dns_wire.specs.Compression.{CompressedWrite, FitsIn}
use Rattle.dns_wire.specs.InMessage.{BuildsIn, then_fits, list_fits, EachFits}
use Rattle.dns_wire.specs.Layout.{octets_writes, then_writes, list_writes}
use Rattle.dns_wire.specs.LayoutLemmas.{list_writes-one, list_writes-append}
use Rattle.dns_wire.proofs.Parts.{builds_whole, both_built, both_refused}
use Rattle.dns_wire.proofs.Several.{builds_alike}

-- ---- a list that is cut in two

module _ {A : Type 0} (fits : A → List ℕ → List ℕ → Type 0) (writes : A → CompressedWrite) where
  -- it fits if its parts fit, one after the other
  pub list_fits-append : (values others : List A) (contents places : List ℕ) → then_fits (list_fits fits writes values) (list_writes writes values) (list_fits fits writes others) contents places → list_fits fits writes (values ++ others) contents places
  unfolding list_fits list_writes
  list_fits-append [] others contents places h = subst (λ (c : List ℕ). list_fits fits writes others c places) (append-nil contents) h.1
  list_fits-append (value ∷ values) others contents places h =
      let first = writes value contents places in
      let second = list_writes writes values (contents ++ first.0) first.1 in
      (h.0.0, list_fits-append values others (contents ++ first.0) first.1 (h.0.1, subst (λ (c : List ℕ). list_fits fits writes others c second.1) (sym (append_assoc contents first.0 second.0)) h.1))

  -- and its parts fit if it does
  pub list_fits-parts : (values others : List A) (contents places : List ℕ) → list_fits fits writes (values ++ others) contents places → then_fits (list_fits fits writes values) (list_writes writes values) (list_fits fits writes others) contents places
  unfolding list_fits list_writes
  list_fits-parts [] others contents places h = (tt, subst (λ (c : List ℕ). list_fits fits writes others c places) (sym (append-nil contents)) h)
  list_fits-parts (value ∷ values) others contents places h =
      let first = writes value contents places in
      let second = list_writes writes values (contents ++ first.0) first.1 in
      let more = list_fits-parts values others (contents ++ first.0) first.1 h.1 in
      ((h.0, more.0), subst (λ (c : List ℕ). list_fits fits writes others c second.1) (append_assoc contents first.0 second.0) more.1)

  -- each value fits after those before it
  pub each_fits : (values : List A) (contents places : List ℕ) → list_fits fits writes values contents places → EachFits fits writes values contents places
  unfolding list_fits
  each_fits values contents places h prefix back value parts = (list_fits-parts prefix (value ∷ back) contents places (subst (λ (l : List A). list_fits fits writes l contents places) parts h)).1.0

  -- and if each does, the list fits
  pub fits_each : (values : List A) (contents places : List ℕ) → EachFits fits writes values contents places → list_fits fits writes values contents places
  unfolding list_fits list_writes
  fits_each [] contents places each = tt
  fits_each (value ∷ values) contents places each =
      let first = writes value contents places in (
        subst (λ (c : List ℕ). fits value c places) (append-nil contents) (each [] values value refl),
        fits_each values (contents ++ first.0) first.1 (λ prefix back other parts.
            let second = list_writes writes prefix (contents ++ first.0) first.1 in
            subst (λ (c : List ℕ). fits other c second.1) (sym (append_assoc contents first.0 second.0)) (each (value ∷ prefix) back other (ap (λ (l : List A). value ∷ l) parts))),
      )

  -- ---- one more value

  next_writes : (prefix : List A) (value : A) (contents places : List ℕ) → then_writes (list_writes writes prefix) (writes value) contents places ≡ list_writes writes (prefix ++ value ∷ []) contents places
  next_writes prefix value contents places =
      let first = list_writes writes prefix contents places in
      sym (list_writes-append writes prefix (value ∷ []) contents places ∙ ap (λ (r : List ℕ × List ℕ). (first.0 ++ r.0, r.1)) (list_writes-one writes value (contents ++ first.0) first.1))

  next_fits : (prefix : List A) (value : A) (contents places : List ℕ) → then_fits (list_fits fits writes prefix) (list_writes writes prefix) (fits value) contents places → list_fits fits writes (prefix ++ value ∷ []) contents places
  unfolding list_fits
  next_fits prefix value contents places h = list_fits-append prefix (value ∷ []) contents places (h.0, (h.1, tt))

  fits_next : (prefix : List A) (value : A) (contents places : List ℕ) → list_fits fits writes (prefix ++ value ∷ []) contents places → then_fits (list_fits fits writes prefix) (list_writes writes prefix) (fits value) contents places
  unfolding list_fits
  fits_next prefix value contents places h = let parts = list_fits-parts prefix (value ∷ []) contents places h in (parts.0, parts.1.0)

  -- more values take no fewer octets
  no_shorter : (values others : List A) (contents places : List ℕ) → length (list_writes writes values contents places).0 ≤ length (list_writes writes (values ++ others) contents places).0
  no_shorter values others contents places =
      let first = list_writes writes values contents places in
      let second = list_writes writes others (contents ++ first.0) first.1 in
      omega (arith, ap (λ (r : List ℕ × List ℕ). length r.0) (list_writes-append writes values others contents places), length-append first.0 second.0)

  -- no values are written yet
  pub none_built : {E : Type 0} (old places : List ℕ) (start : ℕ) → start ≤ length old → FitsIn places (take start old) → BuildsIn {E = E} (list_fits fits writes [] (take start old) places) (list_writes writes [] (take start old) places) old start places old places (Ok start)
  unfolding list_fits list_writes
  none_built old places start within known = builds_whole known (record { ok = (tt, record { end_is = omega arith; within = within; new_is = sym (take-append-drop start old) }); err = tt })

  module _ {E : Type 0} (prefix : List A) (value : A) {old mid places known : List ℕ} {start middle : ℕ} (built : BuildsIn {E = E} (list_fits fits writes prefix (take start old) places) (list_writes writes prefix (take start old) places) old start places mid known (Ok middle)) where
    -- the next one is written after them
    pub next_built : {F : Type 0} (new after : List ℕ) (end : ℕ) → BuildsIn {E = F} (fits value (take middle mid) known) (writes value (take middle mid) known) mid middle known new after (Ok end) → BuildsIn {E = E} (list_fits fits writes (prefix ++ value ∷ []) (take start old) places) (list_writes writes (prefix ++ value ∷ []) (take start old) places) old start places new after (Ok end)
    next_built {F} new after end t =
        let u = both_built (list_writes writes prefix) (writes value) (list_fits fits writes prefix) (fits value) old mid places known start middle built.accepted built.occurs built.after_is built.grows {E = F} new after end t in
        let v = subst (λ (r : List ℕ × List ℕ). BuildsIn {E = F} (then_fits (list_fits fits writes prefix) (list_writes writes prefix) (fits value) (take start old) places) r old start places new after (Ok end)) (next_writes prefix value (take start old) places) u in
        record {
          accepted = next_fits prefix value (take start old) places u.accepted;
          occurs = v.occurs;
          after_is = v.after_is;
          grows = v.grows;
          leads = v.leads;
          refused = tt;
          prefix = tt;
          size = tt;
          unchanged = tt;
        }

    -- the next one is refused, and the places of all of them are taken back
    pub next_refused : {F G : Type 0} (others values : List A) (new after back : List ℕ) (e : F) (d : G) → (prefix ++ value ∷ []) ++ others ≡ values → back ≡ take (length places) after → BuildsIn (fits value (take middle mid) known) (writes value (take middle mid) known) mid middle known new after (Err e) → BuildsIn (list_fits fits writes values (take start old) places) (list_writes writes values (take start old) places) old start places new back (Err d)
    next_refused {F} {G} others values new after back e d parts back_is t =
        let u = both_refused (list_writes writes prefix) (writes value) (list_fits fits writes prefix) (fits value) old mid places known start middle built.accepted built.occurs built.after_is built.grows new after back e d back_is t in
        let c : List ℕ = take start old in
        let same = ap (λ (r : List ℕ × List ℕ). length r.0) (next_writes prefix value c places) in
        let longer = subst (λ (l : List A). length (list_writes writes (prefix ++ value ∷ []) c places).0 ≤ length (list_writes writes l c places).0) parts (no_shorter (prefix ++ value ∷ []) others c places) in
        record {
          accepted = tt;
          occurs = tt;
          after_is = tt;
          grows = tt;
          leads = tt;
          refused = λ h. omega (arith, same, longer, u.refused (fits_next prefix value c places (list_fits-parts (prefix ++ value ∷ []) others c places (subst (λ (l : List A). list_fits fits writes l c places) (sym parts) h)).0));
          prefix = u.prefix;
          size = u.size;
          unchanged = u.unchanged;
        }

-- ---- octets, one after another

-- they are written unchanged
pub octets_listed : (octets contents places : List ℕ) → list_writes (λ b. octets_writes (b ∷ [])) octets contents places ≡ octets_writes octets contents places
unfolding list_writes
octets_listed [] contents places = refl
octets_listed (b ∷ octets) contents places = ap (λ (r : List ℕ × List ℕ). (b ∷ r.0, r.1)) (octets_listed octets (contents ++ b ∷ []) places)

octets_fit : (octets contents places : List ℕ) → list_fits (λ _ _ _. ⊤) (λ b. octets_writes (b ∷ [])) octets contents places
unfolding list_fits
octets_fit [] contents places = tt
octets_fit (b ∷ octets) contents places = (tt, octets_fit octets (contents ++ b ∷ []) places)

-- by one copy too
pub octets_built : {E : Type 0} {octets old new places : List ℕ} {start : ℕ} {result : Result ℕ E} → FitsIn places (take start old) → Builds ⊤ octets old start new result → BuildsIn (list_fits (λ _ _ _. ⊤) (λ b. octets_writes (b ∷ [])) octets (take start old) places) (list_writes (λ b. octets_writes (b ∷ [])) octets (take start old) places) old start places new places result
octets_built {octets = octets} {old} {new} {places} {start} {result} known b =
    let fit = octets_fit octets (take start old) places in
    subst (λ (r : List ℕ × List ℕ). BuildsIn (list_fits (λ _ _ _. ⊤) (λ o. octets_writes (o ∷ [])) octets (take start old) places) r old start places new places result) (sym (octets_listed octets (take start old) places))
    (builds_whole known (builds_alike (λ _. fit) (λ _. tt) refl b))
