-- A format as it is listed in code.
use Rattle.std.specs.Prelude.{◌≡◌, List, option_map, Option, Some, None}
use Rattle.dns_record.specs.Kinds.{Kind}
use Rattle.dns_record.specs.FieldKinds.{row_of}
use Rattle.dns_record.specs.declared.field_kind.FieldKind.{FieldKind}
use denote.Ref.{Bor}

abbrev pub IsFormat : Option (List Kind) → Option (Bor (List FieldKind)) → Type 0
IsFormat format None = option_map row_of format ≡ None
IsFormat format (Some listed) = option_map row_of format ≡ Some listed.now
