-- Octets are read as text exactly if they are UTF-8.
use Rattle.std.proofs.Common.{◌≡◌, ℕ, List, [], Bool, true, false, Some, None, refl}
use Rattle.std.specs.Prelude.{if◌then◌else◌}
use Rattle.std.specs.Str.{IsUtf8, is_utf8}
use Rattle.std.proofs.lemmas.Str.{is_utf8-from_IsUtf8, IsUtf8-from_is_utf8}
use Rattle.dns_wire.specs.Reading.{all_of}
use Rattle.dns_wire.specs.Texts.{text}

pub is_text : (bytes : List ℕ) → IsUtf8 bytes → all_of (text bytes) ≡ Some bytes
is_text bytes utf8 = rw (is_utf8-from_IsUtf8 bytes utf8) refl

by_test : (test : Bool) (bytes : List ℕ) → ¬ (test ≡ true) → all_of {Y = List ℕ} (if test then Some (bytes, []) else None) ≡ None
by_test true bytes never = absurd (never refl)
by_test false bytes never = refl

pub is_no_text : (bytes : List ℕ) → ¬ IsUtf8 bytes → all_of (text bytes) ≡ None
is_no_text bytes never = by_test (is_utf8 bytes) bytes (λ e. never (IsUtf8-from_is_utf8 bytes e))
