-- Names that are written once in a message and pointed to from then on (RFC 1035 section 4.1.4). Contents are the octets
-- after the header, up to where the next name is written. Places are those of labels in them, and are kept in order.
use Rattle.std.specs.Prelude.{◌≡◌, ◌⊎◌, ℕ, zero, suc, ◌+◌, ◌*◌, ◌-◌, ◌<◌, ◌≤◌, [], ◌∷◌, ◌++◌, length, take, filter, find, slice_index, Contains, Bool, false, ◌&&◌, Option, Some, None, nat_le, nat_lt, if◌then◌else◌}
use Rattle.std.specs.Int.{w16, to_be_bytes}
use Rattle.std.specs.List.{AllByRecursion}
use Rattle.std.specs.List.Sorted.{IsStrictlyIncreasing}
use Rattle.std.specs.Cmp.Lexicographic.{pointwise}
use Rattle.std.specs.Str.{str_eq_ignore_ascii_case}
use Rattle.dns_wire.specs.Octets.{Octets, Labels, Places}
use Rattle.dns_wire.specs.declared.sizes.TheConstants.{HEADER_SIZE, LAST_PLACE, MAX_PLACES, POINTER_TAG}
use Rattle.dns_wire.specs.Names.{labels_wire, wire, lowered}
use Rattle.dns_wire.specs.Pointers.{offset_at, NameAt, name_at}

-- ---- which suffix of a name is known

-- the same labels, ignoring ASCII case
abbrev pub labels_alike : Labels → Labels → Bool
labels_alike xs ys = pointwise str_eq_ignore_ascii_case xs ys

-- a reading gives these labels, ignoring ASCII case
abbrev pub reads_as : Labels → Option (Labels × ℕ) → Bool
reads_as labels None = false
reads_as labels (Some (there, end)) = labels_alike labels there

-- these labels are those of the name at the place, ignoring ASCII case
unfoldable pub occurs_at : Octets → Labels → ℕ → Bool
occurs_at contents labels place = reads_as labels (name_at contents place)

-- a place of the suffix that begins after that many octets, or else what is known of shorter ones
abbrev pub or_shorter : ℕ → Option ℕ → Option (ℕ × ℕ) → Option (ℕ × ℕ)
or_shorter prefix None shorter = shorter
or_shorter prefix (Some place) shorter = Some (prefix, place)

-- After how many octets of the name its longest suffix begins that is known, and the first place where it is. These are
-- the labels after the first that many octets; the root alone is no suffix. `longest_suffixes` says it in other words.
unfoldable pub longest_recorded : Octets → Places → ℕ → Labels → Option (ℕ × ℕ)
longest_recorded contents places prefix [] = None
longest_recorded contents places prefix (label ∷ labels) =
    or_shorter prefix (find (occurs_at contents (label ∷ labels)) places) (longest_recorded contents places (prefix + 1 + length label) labels)

-- ---- the same in words

-- the name at the place is these labels, ignoring ASCII case, and what is there ends at end
pub record ReadsAlike (contents : Octets) (labels : Labels) (at end : ℕ) : Type 0 where
  pub there : Labels
  pub name : NameAt contents at there end
  pub alike : lowered there ≡ lowered labels

-- a suffix of at least one label, which begins after that many octets, is the name at a recorded place, ignoring ASCII case
pub record RecordedSuffix (contents : Octets) (places : Places) (labels : Labels) (prefix place : ℕ) : Type 0 where
  pub before : Labels
  pub suffix : Labels
  pub labels_is : labels ≡ before ++ suffix
  pub some : 0 < length suffix
  pub prefix_is : prefix ≡ length (labels_wire before)
  pub recorded : Contains places place
  pub end : ℕ
  pub reads : ReadsAlike contents suffix place end

-- no longer suffix is at any recorded place, and this one at no smaller
pub record LongestRecorded (contents : Octets) (places : Places) (labels : Labels) (prefix place : ℕ) : Type 0 where
  pub known : RecordedSuffix contents places labels prefix place
  pub longest : (other at : ℕ) → RecordedSuffix contents places labels other at → prefix ≤ other
  pub smallest : (at : ℕ) → RecordedSuffix contents places labels prefix at → place ≤ at

-- ---- what is written

-- the name's octets up to the suffix, and a pointer to its place, which counts the header's 12 octets too
abbrev pub cut_at : Octets → Option (ℕ × ℕ) → Octets
cut_at octets None = octets
cut_at octets (Some (prefix, place)) = take prefix octets ++ to_be_bytes w16 (POINTER_TAG * 256 + HEADER_SIZE + place)

-- a name's octets if names at these places of the contents are known
abbrev pub compress : Octets → Places → Labels → Octets
compress contents places labels = cut_at (wire labels) (longest_recorded contents places 0 labels)

-- ---- which places are recorded

-- the length of a label other than the root's
abbrev pub is_label_size : ℕ → Bool
is_label_size size = nat_lt 0 size && nat_lt size 64

-- the places of labels that come one after another from a place on; no more than that many
unfoldable pub label_places : ℕ → Octets → ℕ → Places
label_places zero contents at = []
label_places (suc most) contents at =
    if is_label_size (slice_index contents at) then at ∷ label_places most contents (at + 1 + slice_index contents at) else []

-- a pointer has 14 bits, which count the header's 12 octets too
abbrev pub is_within_reach : ℕ → Bool
is_within_reach place = nat_le place LAST_PLACE

-- these places, and more of them within reach while there is room for 128
abbrev pub with_more : Places → Places → Places
with_more places more = take MAX_PLACES (places ++ filter is_within_reach more)

-- the places afterwards, if a name has been written from start to the end of the contents
abbrev pub recorded : Places → Octets → ℕ → Places
recorded places contents start = with_more places (label_places (length contents - start) contents start)

-- ---- which places are recorded, in words

-- the octets after the labels of a name begin with the root's length or a pointer
abbrev pub EndsLabels : Octets → Type 0
EndsLabels [] = ⊥
EndsLabels (octet ∷ rest) = (octet ≡ 0) ⊎ (64 ≤ octet)

-- one of the labels begins at this place, if the first begins at start
pub record BeginsAt (start : ℕ) (labels : Labels) (place : ℕ) : Type 0 where
  pub before : Labels
  pub label : Octets
  pub others : Labels
  pub labels_is : labels ≡ before ++ label ∷ others
  pub place_is : place ≡ start + length (labels_wire before)

-- What is written after contents if names at these places are known: the octets, and the places afterwards.
abbrev pub CompressedWrite : Type 0
CompressedWrite = Octets → Places → Octets × Places

-- the octets of what is written, and the places afterwards
abbrev pub written_octets : Octets × Places → Octets
written_octets written = written.0

abbrev pub places_afterwards : Octets × Places → Places
places_afterwards written = written.1

-- a name is compressed, and its places are noted
abbrev pub compressed_name_writes : Labels → CompressedWrite
compressed_name_writes labels contents places = (
  compress contents places labels,
  recorded places (contents ++ compress contents places labels) (length contents),
)

-- ---- places that lead to names

-- from here on there are labels, up to the root or up to a pointer that leads to a recorded place before first
pub data Run (contents : Octets) (places : Places) (first : ℕ) : ℕ → Type 0 where
  run_root : {at : ℕ} → at < length contents → slice_index contents at ≡ 0 → Run contents places first at
  run_label : {at : ℕ} → 0 < slice_index contents at → slice_index contents at < 64 → at + 1 + slice_index contents at ≤ length contents → Run contents places first (at + 1 + slice_index contents at) → Run contents places first at
  run_pointer : {at : ℕ} (target : ℕ) → POINTER_TAG ≤ slice_index contents at → at + 2 ≤ length contents → offset_at contents at ≡ target + HEADER_SIZE → Contains places target → target < first → Run contents places first at

-- a label is here, others after it, and at their end the root or a pointer to an earlier recorded place
pub record RunAt (contents : Octets) (places : Places) (at : ℕ) : Type 0 where
  pub labelled : (0 < slice_index contents at) × (slice_index contents at < 64)
  pub run : Run contents places at at

-- at most 128 rising places, to which a pointer can lead
pub record ArePlaces (places : Places) : Type 0 where
  pub rising : IsStrictlyIncreasing places
  pub few : length places ≤ MAX_PLACES
  pub low : AllByRecursion (λ place. place ≤ LAST_PLACE) places

-- the places lead to names in the contents
pub record FitsIn (places : Places) (contents : Octets) : Type 0 where
  pub places_are : ArePlaces places
  pub runs : AllByRecursion (RunAt contents places) places

-- new places come after the old ones, and lie from start on
pub record Grows (places after : Places) (start : ℕ) : Type 0 where
  pub added : Places
  pub after_is : after ≡ places ++ added
  pub trailing : AllByRecursion (λ place. start ≤ place) added
