-- Character strings from text in which no escapes are read.
use Rattle.std.specs.Prelude.{length, Result, Ok, Err, nat_lt, ◌==◌, if◌then◌else◌}
use Rattle.std.specs.List.{list_any}
use Rattle.dns_wire.specs.Octets.{Octets}
use Rattle.dns_wire.specs.Texts.{backslash_octet}
use Rattle.dns_record.specs.declared.charstr_error.CharStrParseError.{CharStrParseError}
use Rattle.dns_record.specs.declared.charstr_error.CharStrParseError.TheVariants.{Overlong, InvalidChar}

-- the text's octets, unless a backslash is among them, or else they are more than 255
abbrev pub charstr_of : Octets → Result Octets CharStrParseError
charstr_of text =
    if list_any (λ b. b == backslash_octet) text then Err InvalidChar
    else if nat_lt 255 (length text) then Err Overlong
    else Ok text
