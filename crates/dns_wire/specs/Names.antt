-- Names: lists of labels without the root, and their form on the wire (RFC 1035 sections 2.3.4 and 3.1).
use Rattle.std.specs.Prelude.{ℕ, zero, suc, ◌<◌, ◌≤◌, [], ◌∷◌, ◌++◌, length, take, drop, map, Option, Some, None, unwrap_or, nat_lt, ◌==◌, ◌||◌, if◌then◌else◌}
use Rattle.std.specs.List.{AllByRecursion}
use Rattle.std.specs.Str.{str_to_ascii_lowercase}
use Rattle.dns_wire.specs.Octets.{Octets, Labels}
use Rattle.dns_wire.specs.Reading.{all_of}

-- ---- names, and their octets

-- a label has 1 to 63 octets
abbrev pub IsLabel : Octets → Type 0
IsLabel label = (0 < length label) × (length label < 64)

-- labels, each after its length
abbrev pub labels_wire : Labels → Octets
labels_wire [] = []
labels_wire (label ∷ labels) = length label ∷ (label ++ labels_wire labels)

-- a name's octets: its labels, each after its length, and the root's length, which is 0
abbrev pub wire : Labels → Octets
wire labels = labels_wire labels ++ 0 ∷ []

-- labels are a name if their octets are at most 255
pub record IsName (labels : Labels) : Type 0 where
  pub sizes : AllByRecursion IsLabel labels
  pub size : length (wire labels) ≤ 255

-- the name in lowercase: `A` to `Z` become `a` to `z`, and all other octets stay (RFC 4343 section 3)
abbrev pub lowered : Labels → Labels
lowered labels = map str_to_ascii_lowercase labels

-- ---- reading a name without pointers

-- these labels, and then what is read after them
abbrev pub after_labels : Labels → Option (Labels × Octets) → Option (Labels × Octets)
after_labels labels None = None
after_labels labels (Some (others, rest)) = Some (labels ++ others, rest)

-- the labels up to the root, and what follows it, if no more than steps lengths are read
unfoldable pub labels_within : ℕ → Octets → Option (Labels × Octets)
labels_within zero bytes = None
labels_within (suc steps) [] = None
labels_within (suc steps) (size ∷ rest) =
    if size == 0 then Some ([], rest)
    else if nat_lt 63 size || nat_lt (length rest) size then None
    else after_labels (take size rest ∷ []) (labels_within steps (drop size rest))

-- a reading of labels whose octets are at most 255
abbrev pub up_to_255 : Option (Labels × Octets) → Option (Labels × Octets)
up_to_255 None = None
up_to_255 (Some (labels, rest)) = if nat_lt 255 (length (wire labels)) then None else Some (labels, rest)

-- The name at the start, and what follows it. `plain_names` says it in other words: labels are read exactly if they
-- are a name whose octets are at the start.
unfoldable pub plain_name : Octets → Option (Labels × Octets)
plain_name bytes = up_to_255 (labels_within (length bytes) bytes)

-- the labels of a name's octets
unfoldable pub name_labels : Octets → Labels
name_labels bytes = unwrap_or (all_of (plain_name bytes)) []
