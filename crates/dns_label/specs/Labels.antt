-- Labels, and their form on the wire (RFC 1035 section 3.1): a length of at most 63, and that many octets. The root's
-- label is the empty one.
use Rattle.std.specs.Prelude.{◌≡◌, ℕ, zero, suc, ◌<◌, [], ◌∷◌, length, take, drop, Option, Some, None, unwrap_or, nat_lt, ◌||◌, if◌then◌else◌}
use Rattle.dns_wire.specs.Octets.{Octets, Labels}

-- a label's octets: its length, and its contents
abbrev pub label_wire : Octets → Octets
label_wire contents = length contents ∷ contents

-- the contents of a label's octets
abbrev pub contents_of : Octets → Octets
contents_of octets = drop 1 octets

-- contents that a label may have
abbrev pub FitsLabel : Octets → Type 0
FitsLabel contents = length contents < 64

-- ---- reading

-- the label at the start, and what follows it
unfoldable pub plain_label : Octets → Option (Octets × Octets)
plain_label [] = None
plain_label (size ∷ rest) =
    if nat_lt 63 size || nat_lt (length rest) size then None else Some (take size rest, drop size rest)

-- a label, and then what is read after it
abbrev pub with_label : Octets → Option Labels → Option Labels
with_label contents None = None
with_label contents (Some others) = Some (contents ∷ others)

abbrev pub then_labels : (Octets → Option Labels) → Option (Octets × Octets) → Option Labels
then_labels more None = None
then_labels more (Some (contents, rest)) = with_label contents (more rest)

-- the labels that come one after another up to the end, if no more than steps are read
unfoldable pub labels_to_end : ℕ → Octets → Option Labels
labels_to_end steps [] = Some []
labels_to_end zero (size ∷ rest) = None
labels_to_end (suc steps) (size ∷ rest) = then_labels (λ more. labels_to_end steps more) (plain_label (size ∷ rest))

-- the labels that fill the octets, one after another
unfoldable pub label_sequence : Octets → Option Labels
label_sequence octets = labels_to_end (length octets) octets

-- the labels of octets that they fill
unfoldable pub sequence_labels : Octets → Labels
sequence_labels octets = unwrap_or (label_sequence octets) []

-- Octets are labels one after another. `labels_fill` says it in other words.
abbrev pub AreLabels : Octets → Type 0
AreLabels octets = label_sequence octets ≡ Some (sequence_labels octets)
