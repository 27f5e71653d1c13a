-- The words of the commands.
use Rattle.std.specs.Prelude.{List, [], ◌∷◌, bytes_eq, codes, Option, Some, None, if◌then◌else◌}
use Rattle.std.specs.Option.{option_map}
use Rattle.std.specs.Result.{result_ok}
use Rattle.dns_wire.specs.Octets.{Octets, Labels}
use Rattle.dns_name.specs.Text.{parsed_name}
use Rattle.dns_lines.specs.declared.command.LineCommand.{LineCommand}
use Rattle.dns_lines.specs.declared.command.LineCommand.TheVariants.{Normal, Digest, Signed, Records}

-- the command that one word is
abbrev pub command_named : Octets → Option LineCommand
command_named word =
    if bytes_eq word (codes "normal") then Some Normal
    else if bytes_eq word (codes "digest") then Some Digest
    else if bytes_eq word (codes "signed") then Some Signed
    else if bytes_eq word (codes "records") then Some (Records None)
    else None

-- the command for the records of a zone
abbrev pub records_of : Labels → LineCommand
records_of apex = Records (Some apex)

-- the command that a word and the text of an apex are
abbrev pub zone_command : Octets → Octets → Option LineCommand
zone_command word text = if bytes_eq word (codes "records") then option_map records_of (result_ok (parsed_name text)) else None

-- the command that the words are; `words_of_lines` says it in other words
abbrev pub command_of : List Octets → Option LineCommand
command_of [] = None
command_of (word ∷ []) = command_named word
command_of (word ∷ text ∷ []) = zone_command word text
command_of (word ∷ text ∷ other ∷ more) = None
