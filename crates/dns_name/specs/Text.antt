-- Names as text: what is printed of a name, and what a text spells (RFC 1035 section 5.1). Only names that end with the root
-- are read, so each label is followed by a dot.
use Rattle.std.specs.Prelude.{◌≡◌, ◌≤◌, ◌≢◌, ⊤, ℕ, zero, suc, ◌+◌, ◌==◌, nat_le, Bool, [], ◌∷◌, ◌++◌, length, Result, Ok, Err, if◌then◌else◌}
use Rattle.std.specs.List.{AllByRecursion, flat_map}
use Rattle.std.specs.Result.{result_map_both}
use Rattle.dns_wire.specs.Octets.{Octets, Labels}
use Rattle.dns_wire.specs.Names.{IsLabel, labels_wire}
use Rattle.dns_label.specs.Labels.{label_wire}
use Rattle.dns_label.specs.Text.{shown_label, prefix_label, EndsLabel, IsForeign, IsUnescapedText, SpellsLabel}
use Rattle.dns_label.specs.declared.text_error.LabelParseError.{LabelParseError}
use Rattle.dns_label.specs.declared.text_error.LabelParseError.TheVariants as label_errors
use Rattle.dns_label.specs.declared.text_error.LabelSplitError.{LabelSplitError}
use Rattle.dns_label.specs.declared.text_error.LabelSplitError.TheVariants as label_split_errors
use Rattle.dns_name.specs.declared.text_error.NameParseError.{NameParseError}
use Rattle.dns_name.specs.declared.text_error.NameParseError.TheVariants as errors
use Rattle.dns_name.specs.declared.text_error.NameSplitError.{NameSplitError}
use Rattle.dns_name.specs.declared.text_error.NameSplitError.TheVariants as split_errors

-- the octet of a dot, which ends a label
abbrev pub dot_octet : ℕ
dot_octet = 46

-- ---- printing

-- what is printed of a name: each label's text and a dot; nothing for the root
abbrev pub shown_name : Labels → Octets
shown_name labels = flat_map (λ label. shown_label label ++ dot_octet ∷ []) labels

-- ---- errors

-- a label's error as a name's: the variant keeps its name, but a label that is too long is distinguished from such a name
abbrev pub of_label : LabelParseError → NameParseError
of_label label_errors.Overlong = errors.OverlongLabel
of_label label_errors.InvalidChar = errors.InvalidChar
of_label label_errors.PartialEscape = errors.PartialEscape
of_label label_errors.InvalidEscape = errors.InvalidEscape

abbrev pub of_label_split : LabelSplitError → NameSplitError
of_label_split label_split_errors.Overlong = split_errors.OverlongLabel
of_label_split label_split_errors.InvalidChar = split_errors.InvalidChar
of_label_split label_split_errors.InvalidEscape = split_errors.InvalidEscape
of_label_split label_split_errors.ShortInput = split_errors.ShortInput

-- a whole text's error if more text might follow: what its end cuts is too short
abbrev pub of_prefix : NameParseError → NameSplitError
of_prefix errors.Overlong = split_errors.Overlong
of_prefix errors.Relative = split_errors.Relative
of_prefix errors.EmptyLabel = split_errors.EmptyLabel
of_prefix errors.OverlongLabel = split_errors.OverlongLabel
of_prefix errors.InvalidChar = split_errors.InvalidChar
of_prefix errors.PartialEscape = split_errors.ShortInput
of_prefix errors.InvalidEscape = split_errors.InvalidEscape

-- ---- reading

-- whether labels and one more after them have at most 255 octets, each label with its length octet; the empty label after
-- them is the root
abbrev pub fits : Labels → Octets → Bool
fits labels label = nat_le (length (labels_wire labels) + length (label_wire label)) 255

-- what is read of a text: the labels that a dot follows, the label after them, and the text after that
abbrev pub Parts : Type 0
Parts = Labels × (Octets × Octets)

-- a label that a dot follows: it must fit, and is not empty
abbrev pub after_dot : (Labels → Result Parts NameParseError) → Labels → Octets → Result Parts NameParseError
after_dot more labels label =
    if fits labels label then (if length label == 0 then Err errors.EmptyLabel else more (labels ++ label ∷ []))
    else Err errors.Overlong

-- the label at the start of a text, which the end of the text ends too, and the text after it
abbrev pub label_prefix : Octets → Result (Octets × Octets) NameParseError
label_prefix text = result_map_both (λ prefix. prefix) of_label (prefix_label text)

-- a label after others, and what more reads of the text after a dot
abbrev pub after_label : (Labels → Octets → Result Parts NameParseError) → Labels → Result (Octets × Octets) NameParseError → Result Parts NameParseError
after_label more labels (Err error) = Err error
after_label more labels (Ok (label, [])) = Ok (labels, (label, []))
after_label more labels (Ok (label, octet ∷ rest)) =
    if octet == dot_octet then after_dot (λ longer. more longer rest) labels label else Ok (labels, (label, octet ∷ rest))

-- the labels after others, if no more than steps labels are read
unfoldable pub parts_within : ℕ → Labels → Octets → Result Parts NameParseError
parts_within zero labels text = Ok (labels, ([], text))
parts_within (suc steps) labels text = after_label (λ longer rest. parts_within steps longer rest) labels (label_prefix text)

-- The scan of a name from the left: its labels, the last label and the text after it, which is at its end or begins with
-- an octet that is no dot and that no text of a label has; or the first fault.
unfoldable pub name_scan : Octets → Result Parts NameParseError
name_scan text = parts_within (suc (length text)) [] text

-- ---- a whole text

-- after the last label, which fits: the text ends there, and the label is the root
abbrev pub at_end : Labels → Octets → Octets → Result Labels NameParseError
at_end labels label (octet ∷ rest) = Err errors.InvalidChar
at_end labels [] [] = Ok labels
at_end labels (octet ∷ others) [] = Err errors.Relative

abbrev pub whole_name_text : Result Parts NameParseError → Result Labels NameParseError
whole_name_text (Ok (labels, (label, rest))) = if fits labels label then at_end labels label rest else Err errors.Overlong
whole_name_text (Err error) = Err error

-- the name that a text spells, or the first fault from the left
abbrev pub parsed_name : Octets → Result Labels NameParseError
parsed_name text = whole_name_text (name_scan text)

-- ---- the start of a text

-- before an octet that is no dot: the last label is the root
abbrev pub at_octet : Labels → Octets → Octets → Result (Labels × Octets) NameSplitError
at_octet labels [] rest = Ok (labels, rest)
at_octet labels (octet ∷ others) rest = Err split_errors.Relative

abbrev pub name_at_start : Result Parts NameParseError → Result (Labels × Octets) NameSplitError
name_at_start (Ok (labels, (label, []))) = Err split_errors.ShortInput
name_at_start (Ok (labels, (label, octet ∷ rest))) =
    if fits labels label then at_octet labels label (octet ∷ rest) else Err split_errors.Overlong
name_at_start (Err error) = Err (of_prefix error)

-- the name that the start of a text spells and the text after it, or the first fault from the left
abbrev pub split_name : Octets → Result (Labels × Octets) NameSplitError
split_name text = name_at_start (name_scan text)

-- ---- in other words

-- no dot comes before the text
abbrev pub NoDot : Octets → Type 0
NoDot [] = ⊤
NoDot (octet ∷ rest) = octet ≢ dot_octet

-- the text at hand is at its end, or at an octet that no text of a name has
abbrev pub EndsName : Octets → Type 0
EndsName [] = ⊤
EndsName (octet ∷ rest) = IsForeign octet × (octet ≢ dot_octet)

-- the text spells these labels, one after another, with a dot after each
pub data SpellsLabels : Octets → Labels → Type 0 where
  ended : SpellsLabels [] []
  dotted : (text octets rest : Octets) (labels : Labels) → SpellsLabel text octets → SpellsLabels rest labels → SpellsLabels (text ++ dot_octet ∷ rest) (octets ∷ labels)

-- a text in its plain spelling: that of each label is, and a dot comes after each
pub data AreUnescapedTexts : Octets → Type 0 where
  ended : AreUnescapedTexts []
  dotted : (text rest : Octets) → IsUnescapedText text → AreUnescapedTexts rest → AreUnescapedTexts (text ++ dot_octet ∷ rest)

-- ---- why a text is refused, in words

-- after labels that are spelled with a dot after each, and that have at most 255 octets with their length octets, the text
-- goes on like this
pub record AfterLabels (P : Labels → Octets → Type 0) (text : Octets) : Type 0 where
  pub prefix : Octets
  pub rest : Octets
  pub labels : Labels
  pub text_is : text ≡ prefix ++ rest
  pub spells : SpellsLabels prefix labels
  pub sizes : AllByRecursion IsLabel labels
  pub fits : length (labels_wire labels) ≤ 255
  pub next : P labels rest

-- a label of at most 63 octets is spelled, the empty one by nothing, and after it the text goes on like this
pub record NextLabel (P : Octets → Octets → Type 0) (text : Octets) : Type 0 where
  pub spelled : Octets
  pub label : Octets
  pub rest : Octets
  pub text_is : text ≡ spelled ++ rest
  pub spells : SpellsLabel spelled label
  pub short : length label ≤ 63
  pub next : P label rest

-- a dot is where a label should begin, and an empty label would have room
abbrev pub EmptyNext : Labels → Octets → Type 0
EmptyNext labels text = (rest : Octets) × (text ≡ dot_octet ∷ rest) × (length (labels_wire labels) + 1 ≤ 255)

-- the labels and the next one have at most 255 octets, each with its length octet
abbrev pub NameHasRoom : Labels → Octets → Type 0
NameHasRoom labels label = length (labels_wire labels) + length (label_wire label) ≤ 255

-- a label ends here, at which the name has too many octets
abbrev pub LongNext : (Octets → Type 0) → Labels → Octets → Type 0
LongNext P labels text = NextLabel (λ label rest. P rest × EndsLabel rest × ¬ NameHasRoom labels label) text

-- a label that is not the root ends here, and no dot follows it
abbrev pub RelativeNext : (Octets → Type 0) → Labels → Octets → Type 0
RelativeNext P labels text = NextLabel (λ label rest. P rest × EndsName rest × (label ≢ []) × NameHasRoom labels label) text

-- a label ends before an octet that no text of a name has
abbrev pub InvalidNext : Labels → Octets → Type 0
InvalidNext labels text = NextLabel (λ label rest. (rest ≢ []) × EndsName rest × NameHasRoom labels label) text
