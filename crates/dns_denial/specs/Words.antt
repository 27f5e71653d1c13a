-- The words of the commands.
use Rattle.std.specs.Prelude.{◌≡◌, ◌≤◌, List, [], ◌∷◌, ◌&&◌, bytes_eq, codes, length, nat_le, Option, Some, None, if◌then◌else◌}
use Rattle.std.specs.Option.{option_map}
use Rattle.std.specs.Result.{result_ok}
use Rattle.dns_wire.specs.Octets.{Octets}
use Rattle.dns_text.specs.Hexadecimal.{spelled}
use Rattle.dns_wire.specs.Steps.{◌>>=◌}
use Rattle.dns_text.specs.Words.{number_within}
use Rattle.dns_name.specs.Text.{parsed_name}
use Rattle.dns_denial.specs.declared.words.DenialCommand.{DenialCommand}
use Rattle.dns_denial.specs.declared.words.DenialCommand.TheVariants.{Hash, Covers, Signed, KeyTags}

-- the salt that a word is: its octets in hexadecimal digits, at most 255, or `-` if it has none
abbrev pub salt_named : Octets → Option Octets
salt_named word =
    if bytes_eq word (codes "-") then Some []
    else if nat_le 2 (length word) && nat_le (length word) 510 then spelled word
    else None

-- the command `hash` with these words after it: a name, a salt and the number of iterations, at most 65,535
abbrev pub hash_named : Octets → Octets → Octets → Option DenialCommand
hash_named name salt iterations = do
  labels ← result_ok (parsed_name name)
  octets ← salt_named salt
  count ← number_within 65535 iterations
  Some (Hash labels octets count)

-- the command of a word alone
abbrev pub command_named : Octets → Option DenialCommand
command_named word = if bytes_eq word (codes "keytags") then Some KeyTags else None

-- the command of a word and the word after it: `covers` and the text of a name, or `signed` and a number, at most 65,535
abbrev pub pair_named : Octets → Octets → Option DenialCommand
pair_named word next =
    if bytes_eq word (codes "covers") then option_map Covers (result_ok (parsed_name next))
    else if bytes_eq word (codes "signed") then option_map Signed (number_within 65535 next)
    else None

-- the command that the words are; `words_of_denial` says it in other words
abbrev pub command_of : List Octets → Option DenialCommand
command_of (word ∷ []) = command_named word
command_of (word ∷ next ∷ []) = pair_named word next
command_of (word ∷ name ∷ salt ∷ iterations ∷ []) = if bytes_eq word (codes "hash") then hash_named name salt iterations else None
command_of words = None

-- a word is a salt of these octets: the digits that spell them, or `-` if there are none
abbrev pub IsSalt : Octets → Octets → Type 0
IsSalt word [] = word ≡ codes "-"
IsSalt word (octet ∷ salt) = (spelled word ≡ Some (octet ∷ salt)) × (length (octet ∷ salt) ≤ 255)
