-- Names in a message, which may go on at an earlier place (RFC 1035 section 4.1.4). Places are those of the octets after
-- the header, as far as a name may be read, and are counted from 0.
use Rattle.std.specs.Prelude.{◌≡◌, ℕ, zero, suc, ◌+◌, ◌-◌, ◌*◌, ◌<◌, ◌≤◌, [], ◌∷◌, ◌++◌, length, take, drop, slice_index, Option, Some, None, unwrap_or, nat_lt, nat_le, ◌==◌, ◌||◌, if◌then◌else◌}
use Rattle.dns_wire.specs.Octets.{Octets, Labels}
use Rattle.dns_wire.specs.declared.name_cursor.LabelType.{LabelType}
use Rattle.dns_wire.specs.declared.name_cursor.LabelType.TheVariants.{Root, Label, Pointer}
use Rattle.dns_wire.specs.declared.name_cursor.NameCursor.{NameCursor}
use Rattle.dns_wire.specs.declared.sizes.TheConstants.{HEADER_SIZE, POINTER_TAG}
use Rattle.dns_wire.specs.Names.{wire}

-- what a pointer's two octets say: the 14 bits after the first two, which are ones
abbrev pub offset_of : ℕ → ℕ → ℕ
offset_of first second = (first - POINTER_TAG) * 256 + second

-- what the pointer at a place says
abbrev pub offset_at : Octets → ℕ → ℕ
offset_at contents at = offset_of (slice_index contents at) (slice_index contents (at + 1))

-- ---- as a relation

-- The labels to be read at a place, and where what is at that very place ends. A segment is a sequence of labels that
-- begins with the name, or where a pointer leads; this one began at start. There is a case for each kind of octet at
-- the place:
--     0            the root: no more labels
--     1 to 63      a label of that many octets, and then what is read after it
--     192 and up   with the octet after it a pointer: another segment is read at its target. Pointers count the header's
--                  12 octets too, and places do not. The target is before start, so that no chain of pointers is endless
pub data Segment (contents : Octets) : ℕ → ℕ → Labels → ℕ → Type 0 where
  at_root : {start at end : ℕ} {labels : Labels} → at < length contents → slice_index contents at ≡ 0 → labels ≡ [] → end ≡ at + 1 → Segment contents start at labels end
  at_label : {start at end : ℕ} {labels others : Labels} → 0 < slice_index contents at → slice_index contents at < 64 → at + 1 + slice_index contents at ≤ length contents → labels ≡ take (slice_index contents at) (drop (at + 1) contents) ∷ others → Segment contents start (at + 1 + slice_index contents at) others end → Segment contents start at labels end
  at_pointer : {start at end target later : ℕ} {labels : Labels} → POINTER_TAG ≤ slice_index contents at → at + 2 ≤ length contents → offset_at contents at ≡ target + HEADER_SIZE → target < start → Segment contents target target labels later → end ≡ at + 2 → Segment contents start at labels end

-- a name of at most 255 octets is read at a place, and what is there ends at end
pub record NameAt (contents : Octets) (at : ℕ) (labels : Labels) (end : ℕ) : Type 0 where
  pub reads : Segment contents at at labels end
  pub short : length (wire labels) ≤ 255

-- how many label types a reading goes over: one for each label and each pointer, and one for the root
abbrev pub label_type_count : {contents : Octets} {start at end : ℕ} {labels : Labels} → Segment contents start at labels end → ℕ
label_type_count (at_root within is labels_is end_is) = 1
label_type_count (at_label some small room labels_is later) = label_type_count later + 1
label_type_count (at_pointer high room is before later end_is) = label_type_count later + 1

-- ---- as a function

-- what is at a place of the segment that begins at start
unfoldable pub label_type_at : Octets → ℕ → ℕ → Option LabelType
label_type_at contents start at =
    if nat_le (length contents) at then None
    else if slice_index contents at == 0 then Some Root
    else if nat_lt (slice_index contents at) 64 then (if nat_lt (length contents) (at + 1 + slice_index contents at) then None else Some (Label (slice_index contents at)))
    else if nat_lt (slice_index contents at) POINTER_TAG || nat_lt (length contents) (at + 2) then None
    else if nat_lt (offset_at contents at) HEADER_SIZE || nat_le start (offset_at contents at - HEADER_SIZE) then None
    else Some (Pointer (offset_at contents at - HEADER_SIZE))

-- what there is room for, and where it leads
abbrev pub LabelTypeFits : Octets → ℕ → ℕ → LabelType → Type 0
LabelTypeFits contents start at Root = at < length contents
LabelTypeFits contents start at (Label size) = (slice_index contents at ≡ size) × (0 < size) × (size < 64) × (at + 1 + size ≤ length contents)
LabelTypeFits contents start at (Pointer target) = (at + 2 ≤ length contents) × (target < start)

-- Where a reading is after a label type: after a label, and where a pointer leads, in a segment that begins there. What is
-- at the name's own place ends after the first pointer, or after the root if there is none.
abbrev pub after : NameCursor → LabelType → NameCursor
after cursor Root = record cursor { end = Some (unwrap_or cursor.end (cursor.at + 1)) }
after cursor (Label size) = record cursor { at = cursor.at + 1 + size }
after cursor (Pointer target) = record { start = target; at = target; end = Some (unwrap_or cursor.end (cursor.at + 2)) }

-- these labels, and then what is read after them; the octets end where a pointer has been, if one has
abbrev pub joined : Labels → Option ℕ → Option (Labels × ℕ) → Option (Labels × ℕ)
joined labels end None = None
joined labels end (Some (others, at)) = Some (labels ++ others, unwrap_or end at)

-- what is read from a label type on
abbrev pub after_label_type : (ℕ → ℕ → Option (Labels × ℕ)) → Octets → ℕ → ℕ → Option LabelType → Option (Labels × ℕ)
after_label_type more contents start at None = None
after_label_type more contents start at (Some Root) = Some ([], at + 1)
after_label_type more contents start at (Some (Label size)) = joined (take size (drop (at + 1) contents) ∷ []) None (more start (at + 1 + size))
after_label_type more contents start at (Some (Pointer target)) = joined [] (Some (at + 2)) (more target target)

-- the labels at a place of a segment, and where the octets there end, if no more than steps label types are read
unfoldable pub segment_within : ℕ → Octets → ℕ → ℕ → Option (Labels × ℕ)
segment_within zero contents start at = None
segment_within (suc steps) contents start at = after_label_type (λ s p. segment_within steps contents s p) contents start at (label_type_at contents start at)

-- a reading of labels whose octets are at most 255
abbrev pub short_name : Option (Labels × ℕ) → Option (Labels × ℕ)
short_name None = None
short_name (Some (labels, end)) = if nat_lt 255 (length (wire labels)) then None else Some (labels, end)

-- The name at a place, and where its octets end. `names_follow_pointers` says it in other words: labels are read exactly
-- if the relation has them.
unfoldable pub name_at : Octets → ℕ → Option (Labels × ℕ)
name_at contents at = short_name (segment_within (256 + at) contents at at)
