-- Fields whose octets are put after others, names in lowercase (RFC 4034 section 6.2).
use Rattle.std.specs.Prelude.{◌≡◌, ◌-◌, ◌≤◌, ℕ, Bool, true, false, List, ◌++◌, drop, length, map, take, Option, Some, None}
use Rattle.dns_wire.specs.Octets.{Octets}
use Rattle.dns_record.specs.Fields.{Field, field_octets, fields_octets, lowercased_field}

-- octets from a place up to another
abbrev pub between : ℕ → ℕ → Octets → Octets
between from to octets = take (to - from) (drop from octets)

-- a field whose octets stay as they are, up to its end
abbrev pub KeepsField : Option (Field × ℕ) → Octets → ℕ → Option ℕ → Type 0
KeepsField read contents start None = read ≡ None
KeepsField read contents start (Some end) =
    (field : Field) × (read ≡ Some (field, end)) × (start ≤ end) × (end ≤ length contents) × (between start end contents ≡ field_octets (lowercased_field field))

-- a field, up to its end
abbrev pub PutsField : Option (Field × ℕ) → Octets → Option ℕ → Octets → Type 0
PutsField read old None new = read ≡ None
PutsField read old (Some end) new = (field : Field) × (read ≡ Some (field, end)) × (new ≡ old ++ field_octets (lowercased_field field))

-- fields, or not
abbrev pub PutsFields : Option (List Field) → Octets → Bool → Octets → Type 0
PutsFields read old false new = read ≡ None
PutsFields read old true new = (fields : List Field) × (read ≡ Some fields) × (new ≡ old ++ fields_octets (map lowercased_field fields))
