-- Record data that are kept as their octets under a type.
use Rattle.std.specs.Prelude.{◌≡◌, ℕ, ◌≤◌, ◌<◌, List, length, map, Some, None, unwrap_or, [], is_some, Bool}
use Rattle.dns_wire.specs.Octets.{Octets, Labels}
use Rattle.dns_wire.specs.Names.{plain_name, name_labels}
use Rattle.dns_name.specs.declared.name.Name.{Name}
use Rattle.dns_record.specs.Data.{data_as}
use Rattle.dns_record.specs.Fields.{Field, named_by}
use Rattle.dns_record.specs.Formats.{has_rdata_format}
use Rattle.dns_rdata.specs.Alike.{Content}
use Rattle.dns_rdata.specs.Data.{data_fields, IsDataOf}
use Rattle.dns_boxed.specs.declared.box_error.BoxError.{BoxError}
use Rattle.dns_boxed.specs.declared.box_error.BoxError.TheVariants.{TooLong, Unreadable, Memory}
use Rattle.dns_rdata.specs.declared.record_data.RecordData.{RecordData}

-- the RDATA format of the type reads all the octets
abbrev pub is_readable : ℕ → Octets → Bool
is_readable rtype octets = is_some (data_as plain_name rtype octets)

-- the fields that the octets spell, if the RDATA format reads them
abbrev pub spelled_fields : ℕ → Octets → List Field
spelled_fields rtype octets = unwrap_or (data_as plain_name rtype octets) []

-- their content, names as their labels
abbrev pub spelled_content : ℕ → Octets → Content Labels
spelled_content rtype octets = record { rtype = rtype; known = has_rdata_format rtype; fields = spelled_fields rtype octets }

-- under the type the octets spell these data, and the data are of the type
abbrev pub AreReadAs : ℕ → Octets → RecordData Name → Type 0
AreReadAs rtype octets v = (data_as plain_name rtype octets ≡ Some (map (named_by (λ name. name_labels name.slice.now)) (data_fields v))) × IsDataOf v rtype

-- Why octets are not kept under a type: they are more than a size can say; or they are not, and the RDATA format of the type doesn't
-- read them; or memory, which is taken for none that are too long, ran out.
abbrev pub IsWhy : BoxError → ℕ → Octets → Type 0
IsWhy TooLong rtype octets = 65535 < length octets
IsWhy Unreadable rtype octets = (length octets ≤ 65535) × (data_as plain_name rtype octets ≡ None)
IsWhy Memory rtype octets = length octets ≤ 65535
