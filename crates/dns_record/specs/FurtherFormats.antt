-- Further types whose data have names in lowercase in canonical form (RFC 4034 section 6.2), for those who ask for them.
use Rattle.std.specs.Prelude.{ℕ, Bool, true, List, [], ◌∷◌, length, map, nat_lt, option_map, Option, Some, None, if◌then◌else◌}
use Rattle.std.specs.Int.{w16, w32}
use Rattle.dns_wire.specs.Pointers.{name_at}
use Rattle.dns_wire.specs.Reading.{all_at}
use Rattle.dns_record.specs.Data.{data_in}
use Rattle.dns_wire.specs.Octets.{Octets}
use Rattle.dns_record.specs.Fields.{Field, fields_octets, lowercased_field}
use Rattle.dns_record.specs.Formats.{format_name, format_mx, format_rp, format_under, rdata_format}
use Rattle.dns_record.specs.Kinds.{Kind, fields_in}
use Rattle.dns_record.specs.Kinds.Kind.{Byte, Number, CompressibleName, UncompressedName, CharacterString, Rest}
use Rattle.dns_record.specs.Types.{is_lowercased}
use Rattle.dns_record.specs.declared.formats.Formats.{Formats}
use Rattle.dns_record.specs.declared.unparsed.TheConstants.{MAX_DATA_SIZE}
use Rattle.dns_record.specs.declared.formats.Formats.TheVariants.{Usual, Listed}

-- PX (RFC 2163 section 4): preference, and two names
abbrev pub format_px : List Kind
format_px = Number w16 ∷ CompressibleName ∷ CompressibleName ∷ []

-- SIG (RFC 2535 section 4.1): type covered, algorithm, labels, original TTL, expiration, inception, key tag, the signer, and the
-- signature
abbrev pub format_sig : List Kind
format_sig = Number w16 ∷ Byte ∷ Byte ∷ Number w32 ∷ Number w32 ∷ Number w32 ∷ Number w16 ∷ CompressibleName ∷ Rest ∷ []

-- NXT (RFC 2535 section 5.2): the next name, and a bitmap that is not read
abbrev pub format_nxt : List Kind
format_nxt = CompressibleName ∷ Rest ∷ []

-- NAPTR (RFC 3403 section 4.1): order, preference, flags, services, a regular expression, and a name
abbrev pub format_naptr : List Kind
format_naptr = Number w16 ∷ Number w16 ∷ CharacterString ∷ CharacterString ∷ CharacterString ∷ CompressibleName ∷ []

-- KX (RFC 2230 section 3.1): preference, and a name
abbrev pub format_kx : List Kind
format_kx = Number w16 ∷ UncompressedName ∷ []

-- MD, MF, MB, MG, MR, MINFO, AFSDB, RT, SIG, PX, NXT, NAPTR and KX, by their numbers. Pointers are followed in the names of all but KX, as
-- RFC 3597 section 4 has receivers do.
abbrev pub further_formats : List (ℕ × List Kind)
further_formats =
    (3, format_name)
    ∷ (4, format_name)
    ∷ (7, format_name)
    ∷ (8, format_name)
    ∷ (9, format_name)
    ∷ (14, format_rp)
    ∷ (18, format_mx)
    ∷ (21, format_mx)
    ∷ (24, format_sig)
    ∷ (26, format_px)
    ∷ (30, format_nxt)
    ∷ (35, format_naptr)
    ∷ (36, format_kx)
    ∷ []

-- the format of a further type, if it is asked for
abbrev pub further_by : Formats → ℕ → Option (List Kind)
further_by Usual rtype = None
further_by Listed rtype = format_under further_formats rtype

-- what its data have, or those of the type
abbrev pub kinds_or : Option (List Kind) → ℕ → List Kind
kinds_or None rtype = rdata_format rtype
kinds_or (Some kinds) rtype = kinds

-- whether names in them are in lowercase
abbrev pub lowercased_or : Option (List Kind) → ℕ → Bool
lowercased_or None rtype = is_lowercased rtype
lowercased_or (Some kinds) rtype = true

-- a reading of the data of each type, at a place of contents that end with them
abbrev pub DataReading : Type 0
DataReading = ℕ → Octets → ℕ → Option (List Field)

-- fields whose octets are no more than the number before data can say (RFC 1035 section 3.2.1)
abbrev pub if_short : Option (List Field) → Option (List Field)
if_short None = None
if_short (Some fields) = if nat_lt MAX_DATA_SIZE (length (fields_octets fields)) then None else Some fields

-- their fields in a message; those of a further type as they are in canonical form, with names in full, and none if that is too long
abbrev pub data_or : Option (List Kind) → DataReading
data_or None rtype contents at = data_in name_at rtype contents at
data_or (Some kinds) rtype contents at = if_short (option_map (map lowercased_field) (all_at contents (fields_in name_at kinds contents at)))

abbrev pub kinds_by : Formats → ℕ → List Kind
kinds_by formats rtype = kinds_or (further_by formats rtype) rtype

abbrev pub lowercased_by : Formats → ℕ → Bool
lowercased_by formats rtype = lowercased_or (further_by formats rtype) rtype

abbrev pub data_by : Formats → DataReading
data_by formats rtype contents at = data_or (further_by formats rtype) rtype contents at
