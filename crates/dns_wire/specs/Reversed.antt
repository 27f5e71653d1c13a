-- Labels without a root after them, and names from the root on.
use Rattle.std.specs.Prelude.{[], ◌∷◌, ◌++◌, reverse, Option, None, option_map, unwrap_or, ◌==◌, if◌then◌else◌}
use Rattle.dns_wire.specs.Octets.{Octets, Labels}
use Rattle.dns_wire.specs.Names.{labels_wire, plain_name, name_labels}
use Rattle.dns_wire.specs.Reading.{all_of}

-- ---- labels one after another, each after its length

-- the labels that the octets are; `None` if they are not such. With a root after them they are a name
abbrev pub relative_name : Octets → Option Labels
relative_name bytes = all_of (plain_name (bytes ++ 0 ∷ []))

-- the labels of such octets
abbrev pub relative_labels : Octets → Labels
relative_labels bytes = name_labels (bytes ++ 0 ∷ [])

-- ---- names from the root on

-- the octets of a name from the root on: the root's length, which is 0, and its labels from the last to the first, each
-- after its length
abbrev pub reversed_wire : Labels → Octets
reversed_wire labels = 0 ∷ labels_wire (reverse labels)

-- The labels that such octets are, from the first to the last; `None` if they are not a name's. `reversed_names` says it
-- in other words: labels are read exactly if they are a name whose octets from the root on are these.
unfoldable pub reversed_name : Octets → Option Labels
reversed_name [] = None
reversed_name (size ∷ relative) = if size == 0 then option_map reverse (relative_name relative) else None

-- the labels of such octets
abbrev pub reversed_name_labels : Octets → Labels
reversed_name_labels bytes = unwrap_or (reversed_name bytes) []
