-- Data in a message after the number of their octets.
use Rattle.std.proofs.Common.{◌≡◌, ℕ, ◌+◌, ◌-◌, ◌<◌, ◌≤◌, ◌^◌, List, ◌++◌, length, take, drop, refl, sym, ap, subst, ◌∙◌, append_assoc, arith, Ok, Err}
use Rattle.std.specs.Int.{Width, byte_len, to_be_bytes}
use Rattle.std.specs.List.{AllByRecursion}
use Rattle.std.proofs.lemmas.List.{take_at, drop_at, length-append, length-take}
use Rattle.dns_wire.specs.Building.{Occurs}
use Rattle.dns_wire.specs.Compression.{FitsIn}
use Rattle.dns_wire.specs.InMessage.{BuildsIn}
use Rattle.dns_wire.proofs.RisingPlaces.{all_map}
use Rattle.dns_wire.proofs.RunLemmas.{fits_more}
use Rattle.dns_wire.proofs.BuildingLemmas.{occurs_prefix, occurs_long, occurs_then, prefix_unchanged}
use Rattle.dns_num.specs.InMessage.{zeros}
use Rattle.dns_num.specs.Prefixed.{sized}
use Rattle.dns_num.proofs.SizePrefixes.{number_long, length-sized}
use Rattle.dns_num.proofs.OverwrittenOctets.{slot_fits}

-- the compressor still leads to names if zeros are written after them
pub known_after : (w : Width) {old mid places : List ℕ} {start body : ℕ} → FitsIn places (take start old) → Occurs (zeros w) old start mid body → FitsIn places (take body mid)
known_after w {old} {places = places} {start} known s = rw (occurs_prefix s) (fits_more (take start old) (zeros w) places known)

module _ {F E : Type 0} (w : Width) (old mid new places after : List ℕ) (start body end : ℕ) (compressed : List ℕ × List ℕ) (known : FitsIn places (take start old)) (s : Occurs (zeros w) old start mid body) (b : BuildsIn {E = E} F compressed mid body places new after (Ok end)) where
  prefix_long : length (take start old) ≡ start
  prefix_long = omega (arith, length-take start old, s.end_is, s.within)

  both : Occurs (zeros w ++ compressed.0) old start new end
  both = occurs_then s b.occurs

  size_is : end - body ≡ length compressed.0
  size_is = omega (arith, b.occurs.end_is)

  prefix_is : take start new ≡ take start old
  prefix_is = ap (take start) both.new_is ∙ take_at (take start old) ((zeros w ++ compressed.0) ++ drop end old) start prefix_long

  back_is : drop (start + byte_len w) new ≡ compressed.0 ++ drop end old
  back_is =
      let long : length (take start old ++ zeros w) ≡ start + byte_len w = omega (arith, length-append (take start old) (zeros w), prefix_long, number_long w 0) in
      ap (drop (start + byte_len w)) (both.new_is ∙ ap (λ (l : List ℕ). take start old ++ l) (append_assoc (zeros w) compressed.0 (drop end old)) ∙ sym (append_assoc (take start old) (zeros w) (compressed.0 ++ drop end old))) ∙ drop_at (take start old ++ zeros w) (compressed.0 ++ drop end old) (start + byte_len w) long

  filled_occurs : (filled : List ℕ) → filled ≡ take start new ++ (to_be_bytes w (end - body) ++ drop (start + byte_len w) new) → Occurs (sized w compressed.0) old start filled end
  filled_occurs filled is = record {
    end_is = omega (arith, s.end_is, b.occurs.end_is, number_long w 0, length-sized w compressed.0);
    within = both.within;
    new_is =
        is
        ∙ ap (λ (l : List ℕ). l ++ (to_be_bytes w (end - body) ++ drop (start + byte_len w) new)) prefix_is
        ∙ ap (λ (l : List ℕ). take start old ++ (to_be_bytes w (end - body) ++ l)) back_is
        ∙ ap (λ (n : ℕ). take start old ++ (to_be_bytes w n ++ (compressed.0 ++ drop end old))) size_is
        ∙ ap (λ (l : List ℕ). take start old ++ l) (sym (append_assoc (to_be_bytes w (length compressed.0)) compressed.0 (drop end old)));
  }

  -- the number is written over the zeros
  pub size_filled : (filled : List ℕ) → filled ≡ take start new ++ (to_be_bytes w (end - body) ++ drop (start + byte_len w) new) → end - body < 256 ^ byte_len w → BuildsIn {E = E} ((length compressed.0 < 256 ^ byte_len w) × F) (sized w compressed.0, compressed.1) old start places filled after (Ok end)
  size_filled filled is small =
      let whole = filled_occurs filled is in
      let size : List ℕ = to_be_bytes w (length compressed.0) in
      let g = b.grows in
      let trailing : AllByRecursion (λ place. length (take start old) + length (zeros w) ≤ place) g.added = all_map (λ place. body ≤ place) (λ place. length (take start old) + length (zeros w) ≤ place) g.added (λ p h. omega (arith, s.end_is, prefix_long)) g.trailing in
      let zeroed : FitsIn (places ++ g.added) (take start old ++ (zeros w ++ compressed.0)) = subst (λ (p : List ℕ). FitsIn p (take start old ++ (zeros w ++ compressed.0))) g.after_is (rw (occurs_prefix both) at b.leads) in
      record {
        accepted = (subst (λ (n : ℕ). n < 256 ^ byte_len w) size_is small, b.accepted);
        occurs = whole;
        after_is = b.after_is;
        grows = record { added = g.added; after_is = g.after_is; trailing = all_map (λ place. body ≤ place) (λ place. start ≤ place) g.added (λ p h. omega (arith, s.end_is)) g.trailing };
        leads = rw (occurs_prefix whole, g.after_is) (slot_fits (take start old) (zeros w) size compressed.0 places g.added (number_long w 0 ∙ sym (number_long w (length compressed.0))) known trailing zeroed);
        refused = tt;
        prefix = tt;
        size = tt;
        unchanged = tt;
      }

-- ---- refusals

module _ {E : Type 0} (w : Width) (F : Type 0) (old mid new places after : List ℕ) (start body : ℕ) (compressed : List ℕ × List ℕ) (e : E) where
  -- no room for the data, or they do not fit
  pub data_refused : {G : Type 0} (g : G) → Occurs (zeros w) old start mid body → BuildsIn F compressed mid body places new after (Err g) → BuildsIn ((length compressed.0 < 256 ^ byte_len w) × F) (sized w compressed.0, compressed.1) old start places new after (Err e)
  data_refused g s b = record {
    accepted = tt;
    occurs = tt;
    after_is = tt;
    grows = tt;
    leads = tt;
    refused = λ h. omega (arith, b.refused h.1, s.end_is, occurs_long s, number_long w 0, length-sized w compressed.0);
    prefix = prefix_unchanged old mid new (zeros w) start body s b.prefix;
    size = b.size ∙ occurs_long s;
    unchanged = b.unchanged;
  }

  -- the data are more than the number can say: the places are taken back
  pub too_many : {G : Type 0} (end : ℕ) (back : List ℕ) → Occurs (zeros w) old start mid body → BuildsIn {E = G} F compressed mid body places new after (Ok end) → ¬ (end - body < 256 ^ byte_len w) → back ≡ take (length places) after → BuildsIn ((length compressed.0 < 256 ^ byte_len w) × F) (sized w compressed.0, compressed.1) old start places new back (Err e)
  too_many end back s b large back_is =
      let g = b.grows in
      let size_is : end - body ≡ length compressed.0 = omega (arith, b.occurs.end_is) in
      let before : take body new ≡ take body mid = ap (take body) b.occurs.new_is ∙ take_at (take body mid) (compressed.0 ++ drop end mid) body (omega (arith, length-take body mid, b.occurs.end_is, b.occurs.within)) in
      record {
        accepted = tt;
        occurs = tt;
        after_is = tt;
        grows = tt;
        leads = tt;
        refused = λ h. absurd (large (subst (λ (n : ℕ). n < 256 ^ byte_len w) (sym size_is) h.0));
        prefix = prefix_unchanged old mid new (zeros w) start body s before;
        size = occurs_long b.occurs ∙ occurs_long s;
        unchanged = back_is ∙ ap (take (length places)) g.after_is ∙ take_at places g.added (length places) refl;
      }
