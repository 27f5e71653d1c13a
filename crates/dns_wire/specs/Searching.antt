-- The steps by which the longest known suffix of a name is found.
use Rattle.std.specs.Prelude.{◌≡◌, ℕ, ◌+◌, ◌-◌, ◌*◌, ◌%◌, ◌<◌, List, [], ◌∷◌, ◌++◌, length, take, drop, slice_index, slice_index_or, Bool, true, false, Option, Some, None, nat_le, nat_lt, if◌then◌else◌}
use Rattle.std.specs.List.{AllByRecursion}
use Rattle.dns_wire.specs.Octets.{Octets, Labels}
use Rattle.dns_wire.specs.Compression.{occurs_at}
use Rattle.dns_wire.specs.Names.{IsLabel, plain_name, name_labels}
use Rattle.dns_wire.specs.Pointers.{segment_within}
use Rattle.dns_wire.specs.Reading.{all_of}

-- a name's first label, and the octets of the name after it
pub record FirstOf (name label rest : Octets) : Type 0 where
  pub labels : name_labels name ≡ label ∷ name_labels rest
  pub whole : all_of (plain_name rest) ≡ Some (name_labels rest)
  pub parts : name ≡ length label ∷ (label ++ rest)
  pub is_label : IsLabel label

-- how many labels are read, with those seen before, if they are at most that many
abbrev pub count_more : ℕ → ℕ → Option (Labels × ℕ) → Option ℕ
count_more seen most None = None
count_more seen most (Some (found, end)) = if nat_le (seen + length found) most then Some (seen + length found) else None

-- how many labels are read at the place, if they are at most that many
unfoldable pub count_at : Octets → ℕ → ℕ → Option ℕ
count_at contents place most = count_more 0 most (segment_within (256 + place) contents place place)

abbrev pub else_later : ℕ → Bool → Option ℕ → Option ℕ
else_later prefix true later = Some prefix
else_later prefix false later = later

-- after how many octets of the name a suffix of it begins that is at the place
unfoldable pub suffix_at : Octets → ℕ → ℕ → Labels → Option ℕ
suffix_at contents place prefix [] = None
suffix_at contents place prefix (label ∷ labels) = else_later prefix (occurs_at contents (label ∷ labels) place) (suffix_at contents place (prefix + 1 + length label) labels)

-- a suffix, if it begins before that many octets
abbrev pub before_limit : ℕ → Option ℕ → Option ℕ
before_limit limit None = None
before_limit limit (Some prefix) = if nat_lt prefix limit then Some prefix else None

-- ---- the ends of labels

-- The class of a label of that size by an octet near its end. Letters that differ in case alone have the same five low bits.
abbrev pub class_by : ℕ → ℕ → ℕ
class_by octet size = (octet + 8 * size) % 32

-- the class of a label by the octet that is that far back from its last, if its length is before its first
abbrev pub label_class : ℕ → Octets → ℕ
label_class back label = class_by (slice_index (length label ∷ label) (length label - back)) (length label)

-- the class of each of the labels is marked
abbrev pub AllMarked : ℕ → List Bool → Labels → Type 0
AllMarked back marks labels = AllByRecursion (λ label. slice_index_or marks (label_class back label) false ≡ true) labels

-- a label is at the place, and its class is not marked
abbrev pub UnmarkedAt : ℕ → List Bool → Octets → ℕ → Type 0
UnmarkedAt back marks contents place =
    (0 < slice_index contents place)
    × (slice_index contents place < 64)
    × (place + slice_index contents place < length contents)
    × (slice_index_or marks (label_class back (take (slice_index contents place) (drop (place + 1) contents))) false ≡ false)
