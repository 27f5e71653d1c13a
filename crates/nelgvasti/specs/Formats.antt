-- The formats of RDATA that a number names.
use Rattle.std.specs.Prelude.{ℕ, ◌==◌, Option, Some, None, if◌then◌else◌}
use Rattle.dns_record.specs.declared.formats.Formats.{Formats}
use Rattle.dns_record.specs.declared.formats.Formats.TheVariants.{Usual, Listed}
use Rattle.nelgvasti.specs.declared.answers.TheConstants.{USAGE}
use Rattle.nelgvasti.specs.declared.formats.TheConstants.{LISTED, USUAL}

abbrev pub formats_of : ℕ → Option Formats
formats_of number = if number == USUAL then Some Usual else if number == LISTED then Some Listed else None

-- the number names formats, and by these it holds
abbrev pub By : Option Formats → (Formats → Type 0) → Type 0
By None holds = ⊥
By (Some formats) holds = holds formats

-- the answer by the formats that the number names, or that it names none
abbrev pub answer_by : Option Formats → (Formats → ℕ) → ℕ
answer_by None answer = USAGE
answer_by (Some formats) answer = answer formats
