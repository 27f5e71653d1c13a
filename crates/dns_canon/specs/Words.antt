-- The words of the command line.
use Rattle.dns_wire.specs.Octets.{Octets}
use Rattle.dns_canon.specs.declared.words.TheConstants.{MOST_RECORDS}
use Rattle.std.specs.Prelude.{ℕ, ◌≤◌, List, [], ◌∷◌, Option, Some, None, codes, bytes_eq, if◌then◌else◌}
use Rattle.std.specs.Option.{option_map}
use Rattle.dns_text.specs.Words.{number_within}
use Rattle.dns_canon.specs.declared.words.Command.{Command}
use Rattle.dns_canon.specs.declared.words.Command.TheVariants.{Canon, Same, Make}

-- the command of one word
abbrev pub command_named : Octets → Option Command
command_named word = if bytes_eq word (codes "canon") then Some Canon else if bytes_eq word (codes "same") then Some Same else None

-- the number that a word is: at most 1,000
abbrev pub number_named : Octets → Option ℕ
number_named word = number_within MOST_RECORDS word

-- the command of a word and the word after it
abbrev pub numbered_command : Octets → Octets → Option Command
numbered_command word number = if bytes_eq word (codes "make") then option_map Make (number_named number) else None

-- the command that the words are; `words_of_commands` says it in other words
abbrev pub command_of : List Octets → Option Command
command_of [] = None
command_of (word ∷ []) = command_named word
command_of (word ∷ number ∷ []) = numbered_command word number
command_of (word ∷ other ∷ another ∷ more) = None

-- a message is made of no more records than 1,000
abbrev pub IsSmall : Command → Type 0
IsSmall Canon = Unit {0}
IsSmall Same = Unit {0}
IsSmall (Make count) = count ≤ MOST_RECORDS
