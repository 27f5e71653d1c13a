-- Extended errors (RFC 8914 section 2).
use Rattle.std.specs.Prelude.{ℕ, ◌-◌, length, take, slice_index, Option, Some, ◌==◌, if◌then◌else◌}
use Rattle.std.specs.Int.{w16}
use Rattle.dns_wire.specs.Octets.{Octets}
use Rattle.dns_wire.specs.Reading.{number}
use Rattle.dns_wire.specs.Steps.{◌>>=◌}
use Rattle.dns_wire.specs.Texts.{text}
use Rattle.dns_edns.specs.declared.ext_error.ExtError.{ExtError}

-- a code, and a text of all the octets after it
abbrev pub ext_error : Octets → Option ((ℕ × Octets) × Octets)
ext_error bytes = do
  (code, after_code) ← number w16 bytes
  (words, rest) ← text after_code
  Some ((code, words), rest)

-- the octets of the text
abbrev pub text_of : ExtError → Octets
text_of v = v.text.now

-- a text without one NUL at its end
abbrev pub without_last_nul : Octets → Octets
without_last_nul text = if slice_index text (length text - 1) == 0 then take (length text - 1) text else text
