-- Windows that are read one by one.
use Rattle.std.proofs.Common.{◌≡◌, ℕ, suc, ◌≤◌, true, List, [], ◌∷◌, Option, Some, None, refl, sym, ap, subst, ◌∙◌, arith}
use Rattle.dns_record.specs.InPlace.{AreWindows, WindowsFrom}
use Rattle.dns_record.specs.TypeBitMaps.{Window, window, windows_within, windows_of, is_bitmap, windows_octets}
use Rattle.dns_record.proofs.Bitmaps.{bitmap_is, is_this_bitmap, windows_found, window_read}
use Rattle.dns_nsec.specs.Bitmaps.{windows_or_none, windows_in}

pub windows_these : (bytes : List ℕ) (w : AreWindows bytes) → windows_in bytes ≡ w.windows
unfolding windows_in
windows_these bytes w = ap windows_or_none (windows_found bytes w)

pub windows_rise : (bytes : List ℕ) → is_bitmap bytes ≡ true → WindowsFrom 0 (windows_in bytes)
windows_rise bytes e = let w = bitmap_is bytes e in subst (λ (l : List Window). WindowsFrom 0 l) (sym (windows_these bytes w)) w.rise

pub from_less : (a b : ℕ) (windows : List Window) → a ≤ b → WindowsFrom b windows → WindowsFrom a windows
from_less a b [] le rise = _
from_less a b (w ∷ others) le rise = (omega (arith, le, rise.0), rise.1, rise.2)

-- what the first window of a bitmap says of it
abbrev pub FirstOf : List ℕ → Option (Window × List ℕ) → Type 0
FirstOf bytes None = windows_in bytes ≡ []
FirstOf bytes (Some (w, rest)) = (windows_in bytes ≡ w ∷ windows_in rest) × (is_bitmap rest ≡ true)

pub first_window : (bytes : List ℕ) → is_bitmap bytes ≡ true → FirstOf bytes (window 0 bytes)
first_window bytes e = let w = bitmap_is bytes e in by w.windows w.rise w.is (windows_these bytes w) where
  by : (windows : List Window) → WindowsFrom 0 windows → bytes ≡ windows_octets windows → windows_in bytes ≡ windows → FirstOf bytes (window 0 bytes)
  by [] rise is these = subst (λ (l : List ℕ). FirstOf bytes (window 0 l)) (sym is) these
  by (w ∷ others) rise is these =
      let trailing : AreWindows (windows_octets others) = record { windows = others; rise = from_less 0 (suc w.number) others (omega arith) rise.2; is = refl } in
      let read : window 0 bytes ≡ Some (w, windows_octets others) = ap (window 0) is ∙ window_read 0 w (windows_octets others) rise.0 rise.1 in
      subst (λ (r : Option (Window × List ℕ)). FirstOf bytes r) (sym read)
      (these ∙ ap (λ (l : List Window). w ∷ l) (sym (windows_these (windows_octets others) trailing)), is_this_bitmap (windows_octets others) trailing)

pub no_windows : (is_bitmap [] ≡ true) × (windows_in [] ≡ [])
unfolding is_bitmap windows_of windows_within windows_in
no_windows = (refl, refl)
