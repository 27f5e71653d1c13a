-- Bitmaps of types, as a test and in words.
use Rattle.std.proofs.Common.{◌≡◌, ℕ, zero, suc, ◌-◌, ◌<◌, ◌≤◌, Bool, true, false, not, cond, ltb, List, [], ◌∷◌, ◌++◌, length, Option, Some, None, refl, ap, subst, ◌∙◌, arith}
use Rattle.std.specs.Prelude.{◌&&◌, slice_index}
use Rattle.std.proofs.lemmas.Bool.{le-ltb, lt-ltb, ltb-true, ltb-false}
use Rattle.std.proofs.lemmas.List.{length-append}
use Rattle.std.proofs.lemmas.Option.{some_pair_parts}
use Rattle.dns_wire.specs.Steps.{◌>>=◌}
use Rattle.dns_record.specs.InPlace.{AreBits, AreWindows, WindowsFrom}
use Rattle.dns_record.specs.CharacterStrings.{character_string}
use Rattle.dns_record.specs.TypeBitMaps.{Window, are_bits, window_if, window, windows_within, windows_of, is_some, is_bitmap, windows_octets}
use Rattle.dns_record.proofs.Places.{text_spelled, text_read}

-- ---- bits

so_below : (a b : ℕ) → ltb a b ≡ true → a < b
so_below a b h = ltb-true a b h

both : (a b : Bool) → (a && b) ≡ true → (a ≡ true) × (b ≡ true)
both true b h = (refl, h)
both false b h = absurd cc

pub bits_are : (bits : List ℕ) → are_bits bits ≡ true → AreBits bits
bits_are bits e =
    let p = both (ltb 0 (length bits) && ltb (length bits) 33) (ltb 0 (slice_index bits (length bits - 1))) e in
    let q = both (ltb 0 (length bits)) (ltb (length bits) 33) p.0 in
    record {
      some = so_below 0 (length bits) q.0;
      few = omega (arith, so_below (length bits) 33 q.1);
      last = so_below 0 (slice_index bits (length bits - 1)) p.1;
    }

pub are_these_bits : (bits : List ℕ) → AreBits bits → are_bits bits ≡ true
are_these_bits bits b =
    let some : ltb 0 (length bits) ≡ true = lt-ltb _ _ (omega (arith, b.some)) in
    let few : ltb (length bits) 33 ≡ true = lt-ltb _ _ (omega (arith, b.few)) in
    let last : ltb 0 (slice_index bits (length bits - 1)) ≡ true = lt-ltb _ _ b.last in
    rw (some, few, last) refl

-- ---- a window

pub record IsWindow (least : ℕ) (bytes : List ℕ) (w : Window) (rest : List ℕ) : Type 0 where
  pub spelled : bytes ≡ w.number ∷ (length w.bits ∷ (w.bits ++ rest))
  pub risen : least ≤ w.number
  pub bits : AreBits w.bits

abbrev these : ℕ → List ℕ → Window
these number bits = record { number = number; bits = bits }

pub window_is : (least : ℕ) (bytes : List ℕ) (w : Window) (rest : List ℕ) → window least bytes ≡ Some (w, rest) → IsWindow least bytes w rest
window_is least [] w rest e = absurd cc
window_is least (number ∷ more) w rest e = by (character_string more) refl e where
  good : (bits after : List ℕ) → character_string more ≡ Some (bits, after) → (b : Bool) → (not (ltb number least) && are_bits bits) ≡ b → cond {A = Option (Window × List ℕ)} b (Some (these number bits, after)) None ≡ Some (w, rest) → IsWindow least (number ∷ more) w rest
  good bits after read false test h = absurd cc
  good bits after read true test h =
      let same = some_pair_parts (these number bits) w after rest h in
      let here : IsWindow least (number ∷ more) (these number bits) after = record {
        spelled = ap (λ (l : List ℕ). number ∷ l) (text_spelled more bits after read);
        risen = few (ltb number least) refl (both (not (ltb number least)) (are_bits bits) test).0;
        bits = bits_are bits (both (not (ltb number least)) (are_bits bits) test).1;
      } in
      subst (λ (v : Window). IsWindow least (number ∷ more) v rest) same.0 (subst (λ (l : List ℕ). IsWindow least (number ∷ more) (these number bits) l) same.1 here) where
        few : (b : Bool) → ltb number least ≡ b → not b ≡ true → least ≤ number
        few true is h = absurd cc
        few false is h = ltb-false number least is

  by : (read : Option (List ℕ × List ℕ)) → character_string more ≡ read → window_if least number read ≡ Some (w, rest) → IsWindow least (number ∷ more) w rest
  by None is h = absurd cc
  by (Some (bits, after)) is h = good bits after is (not (ltb number least) && are_bits bits) refl h

pub window_read : (least : ℕ) (w : Window) (rest : List ℕ) → least ≤ w.number → AreBits w.bits → window least (w.number ∷ (length w.bits ∷ (w.bits ++ rest))) ≡ Some (w, rest)
window_read least w rest risen bits =
    let read = text_read w.bits rest in
    let more : ltb w.number least ≡ false = le-ltb _ _ risen in
    let good : are_bits w.bits ≡ true = are_these_bits w.bits bits in
    ap (window_if least w.number) read ∙ rw (more, good) refl

-- ---- windows one after another

pub windows_are : (steps least : ℕ) (bytes : List ℕ) (found : List Window) → windows_within steps least bytes ≡ Some found → WindowsFrom least found × (bytes ≡ windows_octets found)
unfolding windows_within
windows_are zero least bytes found e = absurd cc
windows_are (suc steps) least [] found e = by found cc where
  by : (found : List Window) → found ≡ [] → WindowsFrom least found × ([] ≡ windows_octets found)
  by [] h = (_, refl)
  by (w ∷ ws) h = absurd cc
windows_are (suc steps) least (number ∷ rest) found e = by (window least (number ∷ rest)) refl e (λ least bytes found h. windows_are steps least bytes found h) where
  Again : Type 0
  Again = (least : ℕ) (bytes : List ℕ) (found : List Window) → windows_within steps least bytes ≡ Some found → WindowsFrom least found × (bytes ≡ windows_octets found)

  later : (w : Window) (after : List ℕ) → IsWindow least (number ∷ rest) w after → (read : Option (List Window)) → windows_within steps (suc w.number) after ≡ read → ◌>>=◌ {A = List Window} {B = List Window} read (λ others. Some (w ∷ others)) ≡ Some found → Again → WindowsFrom least found × (number ∷ rest ≡ windows_octets found)
  later w after is None e h again = absurd cc
  later w after is (Some others) e h again =
      let m = again (suc w.number) after others e in
      let same : w ∷ others ≡ found = cc in
      subst (λ (l : List Window). WindowsFrom least l × (number ∷ rest ≡ windows_octets l)) same
      ((is.risen, is.bits, m.0), is.spelled ∙ ap (λ (l : List ℕ). w.number ∷ (length w.bits ∷ (w.bits ++ l))) m.1)

  by : (read : Option (Window × List ℕ)) → window least (number ∷ rest) ≡ read → ◌>>=◌ {A = Window × List ℕ} {B = List Window} read (λ first. ◌>>=◌ {A = List Window} {B = List Window} (windows_within steps (suc first.0.number) first.1) (λ others. Some (first.0 ∷ others))) ≡ Some found → Again → WindowsFrom least found × (number ∷ rest ≡ windows_octets found)
  by None is h again = absurd cc
  by (Some (w, after)) is h again = later w after (window_is least (number ∷ rest) w after is) (windows_within steps (suc w.number) after) refl h again

pub windows_read : (found : List Window) (steps least : ℕ) → WindowsFrom least found → length (windows_octets found) < steps → windows_within steps least (windows_octets found) ≡ Some found
unfolding windows_within
windows_read found zero least rise enough = absurd (omega arith)
windows_read [] (suc steps) least rise enough = refl
windows_read (w ∷ others) (suc steps) least rise enough =
    let first = window_read least w (windows_octets others) rise.0 rise.1 in
    let more : windows_within steps (suc w.number) (windows_octets others) ≡ Some others = windows_read others steps (suc w.number) rise.2 (omega (arith, enough, length-append w.bits (windows_octets others))) in
    rw (first, more) refl

-- ---- a bitmap

pub bitmap_is : (bytes : List ℕ) → is_bitmap bytes ≡ true → AreWindows bytes
unfolding is_bitmap windows_of
bitmap_is bytes e = by (windows_within (suc (length bytes)) 0 bytes) refl e where
  by : (read : Option (List Window)) → windows_within (suc (length bytes)) 0 bytes ≡ read → is_some read ≡ true → AreWindows bytes
  by None is h = absurd cc
  by (Some found) is h = let w = windows_are (suc (length bytes)) 0 bytes found is in record { windows = found; rise = w.0; is = w.1 }

pub windows_found : (bytes : List ℕ) (w : AreWindows bytes) → windows_of bytes ≡ Some w.windows
unfolding windows_of
windows_found bytes w = ap (λ (l : List ℕ). windows_within (suc (length l)) 0 l) w.is ∙ windows_read w.windows (suc (length (windows_octets w.windows))) 0 w.rise (omega arith)

pub is_this_bitmap : (bytes : List ℕ) → AreWindows bytes → is_bitmap bytes ≡ true
unfolding is_bitmap
is_this_bitmap bytes w = ap is_some (windows_found bytes w)
