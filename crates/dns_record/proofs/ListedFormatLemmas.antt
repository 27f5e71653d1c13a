-- Formats as code lists them.
use Rattle.std.proofs.Common.{◌≡◌, ℕ, true, List, Option, Some, None, refl}
use Rattle.std.specs.Prelude.{option_map, is_some, unwrap_or}
use Rattle.dns_record.specs.FieldKinds.{row_of}
use Rattle.dns_record.specs.Formats.{rdata_format, format_unknown}
use Rattle.dns_record.specs.FurtherFormats.{kinds_or, lowercased_or}
use Rattle.dns_record.specs.Kinds.{Kind}
use Rattle.dns_record.specs.ListedFormats.{IsFormat}
use Rattle.dns_record.specs.Types.{is_lowercased}
use Rattle.dns_record.specs.declared.field_kind.FieldKind.{FieldKind}
use denote.Ref.{Bor}

-- ---- formats of types that may have one of their own

pub format_has : (format : Option (List Kind)) (listed : Option (Bor (List FieldKind))) → IsFormat format listed → is_some listed ≡ is_some format
format_has None None is = refl
format_has None (Some row) is = absurd cc
format_has (Some kinds) None is = absurd cc
format_has (Some kinds) (Some row) is = refl

pub format_own : (format : Option (List Kind)) (row : List FieldKind) → option_map row_of format ≡ Some row → row ≡ row_of (unwrap_or format format_unknown)
format_own None row is = absurd cc
format_own (Some kinds) row is = cc

pub format_none : (format : Option (List Kind)) → option_map row_of format ≡ None → row_of format_unknown ≡ row_of (unwrap_or format format_unknown)
format_none None is = refl
format_none (Some kinds) is = absurd cc

-- ---- further types

pub format_listed : (further : Option (List Kind)) (rtype : ℕ) (row : List FieldKind) → option_map row_of further ≡ Some row → (row ≡ row_of (kinds_or further rtype)) × (true ≡ lowercased_or further rtype)
format_listed None rtype row is = absurd cc
format_listed (Some kinds) rtype row is = (cc, refl)

pub format_not_listed : (further : Option (List Kind)) (rtype : ℕ) → option_map row_of further ≡ None → (kinds_or further rtype ≡ rdata_format rtype) × (lowercased_or further rtype ≡ is_lowercased rtype)
format_not_listed None rtype is = (refl, refl)
format_not_listed (Some kinds) rtype is = absurd cc
