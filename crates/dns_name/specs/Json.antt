-- Names and labels as JSON strings.
use Rattle.std.specs.Prelude.{Option, Some, None, Result, Ok, Err}
use Rattle.dns_wire.specs.Octets.{Octets, Labels}
use Rattle.dns_label.specs.Text.{parsed_label}
use Rattle.dns_label.specs.declared.text_error.LabelParseError.{LabelParseError}
use Rattle.dns_name.specs.Text.{parsed_name}
use Rattle.dns_name.specs.declared.text_error.NameParseError.{NameParseError}
use Rattle.dns_name.specs.declared.json.JsonNameError.{JsonNameError}
use Rattle.dns_name.specs.declared.json.JsonNameError.TheVariants as name_errors
use Rattle.dns_name.specs.declared.json.JsonLabelError.{JsonLabelError}
use Rattle.dns_name.specs.declared.json.JsonLabelError.TheVariants as label_errors

-- what is read of a string
abbrev pub named : Result Labels NameParseError → Result Labels JsonNameError
named (Ok labels) = Ok labels
named (Err error) = Err (name_errors.Name error)

-- the name that a string spells, if there is one
abbrev pub name_of_string : Option Octets → Result Labels JsonNameError
name_of_string (Some text) = named (parsed_name text)
name_of_string None = Err name_errors.NotText

-- what is read of a string
abbrev pub labelled : Result Octets LabelParseError → Result Octets JsonLabelError
labelled (Ok contents) = Ok contents
labelled (Err error) = Err (label_errors.Label error)

-- the label that a string spells, if there is one
abbrev pub label_of_string : Option Octets → Result Octets JsonLabelError
label_of_string (Some text) = labelled (parsed_label text)
label_of_string None = Err label_errors.NotText
