-- Names as they are, whatever their pointers lead to (RFC 1035 section 4.1.4).
use Rattle.std.specs.Prelude.{◌≡◌, ℕ, zero, suc, ◌+◌, ◌-◌, ◌<◌, ◌≤◌, [], ◌∷◌, ◌++◌, length, take, drop, Bool, true, Option, Some, None, option_map, unwrap_or, IfSome, nat_lt, nat_le, ◌==◌, ◌||◌, ◌&&◌, if◌then◌else◌}
use Rattle.std.specs.List.{AllByRecursion}
use Rattle.dns_wire.specs.Octets.{Octets, Labels}
use Rattle.dns_wire.specs.declared.sizes.TheConstants.{HEADER_SIZE, POINTER_TAG}
use Rattle.dns_wire.specs.Names.{IsLabel, labels_wire, wire}
use Rattle.dns_wire.specs.Pointers.{offset_of, name_at}
use Rattle.dns_wire.specs.Reading.{all_of, plain_at}

-- labels, and the two octets of the pointer after them; if the root is after them, there is none
abbrev pub Unparsed : Type 0
Unparsed = Labels × Option (ℕ × ℕ)

abbrev pub labels_before_end : Unparsed → Labels
labels_before_end name = name.0

abbrev pub pointer_octets : Unparsed → Option (ℕ × ℕ)
pointer_octets name = name.1

-- what comes after the labels: the root's length 0, or a pointer
abbrev pub last_octets : Option (ℕ × ℕ) → Octets
last_octets None = 0 ∷ []
last_octets (Some (high, low)) = high ∷ low ∷ []

-- the octets: the labels, each after its length, and the root or a pointer
abbrev pub unparsed_wire : Unparsed → Octets
unparsed_wire name = labels_wire (labels_before_end name) ++ last_octets (pointer_octets name)

-- Labels and a pointer are an unparsed name if the octets of the labels are at most 254, so that the root or the pointer
-- begins at octet 254, counted from 0, at the latest. A pointer's first octet has its two high bits set.
pub record IsUnparsed (name : Unparsed) : Type 0 where
  pub sizes : AllByRecursion IsLabel (labels_before_end name)
  pub size : length (labels_wire (labels_before_end name)) ≤ 254
  pub pointer : IfSome (pointer_octets name) (λ (high, low). POINTER_TAG ≤ high)

-- where a pointer of these two octets leads, counted from the start of the message
abbrev pub offset_of_pointer : ℕ × ℕ → ℕ
offset_of_pointer (first, second) = offset_of first second

-- where the pointer at the end leads
abbrev pub end_offset : Unparsed → Option ℕ
end_offset name = option_map offset_of_pointer (pointer_octets name)

-- where a name leads that is one pointer and nothing else
abbrev pub alone_offset : Unparsed → Option ℕ
alone_offset ([], end) = option_map offset_of_pointer end
alone_offset (label ∷ labels, end) = None

-- ---- reading

-- these labels, and then what is read after them
abbrev pub following_labels : Labels → Option (Unparsed × Octets) → Option (Unparsed × Octets)
following_labels labels None = None
following_labels labels (Some (name, rest)) = Some ((labels ++ labels_before_end name, pointer_octets name), rest)

-- a pointer with this first octet
abbrev pub pointer_from : ℕ → Octets → Option (Unparsed × Octets)
pointer_from high [] = None
pointer_from high (low ∷ rest) = Some (([], Some (high, low)), rest)

-- the labels up to the root or a pointer, and what follows, if no more than steps label types are read
unfoldable pub unparsed_within : ℕ → Octets → Option (Unparsed × Octets)
unparsed_within zero bytes = None
unparsed_within (suc steps) [] = None
unparsed_within (suc steps) (first ∷ rest) =
    if first == 0 then Some (([], None), rest)
    else if nat_le POINTER_TAG first then pointer_from first rest
    else if nat_lt 63 first || nat_lt (length rest) first then None
    else following_labels (take first rest ∷ []) (unparsed_within steps (drop first rest))

-- a reading of labels whose octets are at most 254
abbrev pub up_to_254 : Option (Unparsed × Octets) → Option (Unparsed × Octets)
up_to_254 None = None
up_to_254 (Some (name, rest)) = if nat_lt 254 (length (labels_wire (labels_before_end name))) then None else Some (name, rest)

-- The unparsed name at the start, and what follows it. `unparsed_names` says it in other words: a name is read exactly if
-- its octets are at the start.
unfoldable pub unparsed_name : Octets → Option (Unparsed × Octets)
unparsed_name bytes = up_to_254 (unparsed_within (length bytes) bytes)

-- the name that octets are
abbrev pub unparsed_of : Octets → Unparsed
unparsed_of bytes = unwrap_or (all_of (unparsed_name bytes)) ([], None)

-- ---- in a message

-- A pointer leads to a place after the header and before the name that begins at start: it counts the header's 12 octets,
-- and places do not.
abbrev pub leads_back : ℕ → Option ℕ → Bool
leads_back start None = true
leads_back start (Some offset) = nat_le HEADER_SIZE offset && nat_lt (offset - HEADER_SIZE) start

-- the same in words, if there is a pointer
abbrev pub LeadsBack : ℕ → Option ℕ → Type 0
LeadsBack start offset = IfSome offset (λ o. (HEADER_SIZE ≤ o) × (o < start + HEADER_SIZE))

-- a reading of a name whose pointer leads back
abbrev pub if_it_leads_back : ℕ → Option (Unparsed × ℕ) → Option (Unparsed × ℕ)
if_it_leads_back start None = None
if_it_leads_back start (Some (name, end)) = if leads_back start (end_offset name) then Some (name, end) else None

-- the unparsed name at a place of the contents, and where it ends
abbrev pub unparsed_at : Octets → ℕ → Option (Unparsed × ℕ)
unparsed_at contents start = if_it_leads_back start (plain_at unparsed_name contents start)

-- ---- as the start of a name

-- the labels after those of an unparsed name, whose pointer leads to this offset, if it has one: none after the root, and
-- after a pointer those of the name that is read at its target
abbrev pub LeadsTo : Octets → Option ℕ → Labels → Type 0
LeadsTo contents None others = others ≡ []
LeadsTo contents (Some offset) others = (end : ℕ) × (name_at contents (offset - HEADER_SIZE) ≡ Some (others, end))

-- An unparsed name is at the place and ends at end. Its labels and those after them are these labels, whose octets are
-- at most 255 in all.
pub record Continued (contents : Octets) (start : ℕ) (labels : Labels) (end : ℕ) : Type 0 where
  pub prefix : Unparsed
  pub occurs : unparsed_at contents start ≡ Some (prefix, end)
  pub others : Labels
  pub goes_on : LeadsTo contents (end_offset prefix) others
  pub labels_are : labels ≡ labels_before_end prefix ++ others
  pub short : length (wire labels) ≤ 255
