-- Words that are numbers, and the code of a process whose words are not known.
use Rattle.std.specs.Prelude.{ℕ, Option, Some, None, ◌&&◌, decimal, nat_le, bytes_eq, if◌then◌else◌}
use Rattle.std.specs.Str.Parse.{digits_value}
use Rattle.dns_wire.specs.Octets.{Octets}
use Rattle.dns_text.specs.declared.process.WordsError.{WordsError}
use Rattle.dns_text.specs.declared.process.WordsError.TheVariants.{Unreadable, Memory}

-- the number that a word is: at most that many, and in its own decimal digits, so that no sign and no zero is before
abbrev pub number_within : ℕ → Octets → Option ℕ
number_within limit word =
    if nat_le (digits_value 10 word) limit && bytes_eq word (decimal (digits_value 10 word)) then Some (digits_value 10 word) else None

-- the code of a process whose words are not known
abbrev pub words_code : WordsError → ℕ
words_code Unreadable = 14
words_code Memory = 8
