-- What NSEC and NSEC3 records say of a name (RFC 4034 section 4, RFC 5155 section 7).
use Rattle.std.specs.Prelude.{◌≡◌, ◌≢◌, ◌⊎◌, ℕ, ◌+◌, ◌*◌, ◌==◌, ◌&&◌, ◌||◌, Bool, List, [], ◌∷◌, ◌++◌, Option, Some, None, codes, drop, flat_map, length, nat_le, reverse, slice_index, take, if◌then◌else◌}
use Rattle.std.specs.Ordering.{is_eq, is_lt, nat_cmp}
use Rattle.std.specs.Cmp.Lexicographic.{slice_cmp}
use Rattle.std.specs.declared.cmp.Ordering.{Ordering}
use Rattle.std.specs.declared.cmp.Ordering.TheVariants.{Less}
use Rattle.dns_wire.specs.Octets.{Octets, Labels}
use Rattle.dns_wire.specs.Names.{plain_name}
use Rattle.dns_name.specs.Order.{key, key_cmp}
use Rattle.dns_message.specs.Order.{SortKey}
use Rattle.dns_denial.specs.Hashes.{nsec3_hash_of}
use Rattle.dns_denial.specs.Unbase32.{hash_of_text}
use Rattle.dns_denial.specs.declared.coverage.Coverage.{Coverage}
use Rattle.dns_denial.specs.declared.coverage.Coverage.TheVariants.{Matches, Covers, No, Unknown}

-- ---- on a circle

-- whether a name lies between an owner and the next one, by the order of the owner and the next, of the owner and the name, and of the
-- name and the next: the last owner is not before its next, which is the first
abbrev pub is_between : Ordering → Ordering → Ordering → Bool
is_between owner_next owner_name name_next =
    if is_lt owner_next then is_lt owner_name && is_lt name_next else is_lt owner_name || is_lt name_next

-- what is said of a name, by the same
abbrev pub coverage_by : Ordering → Ordering → Ordering → Coverage
coverage_by owner_next owner_name name_next =
    if is_eq owner_name then Matches else if is_between owner_next owner_name name_next then Covers else No

-- the same in an order
abbrev pub coverage_in : {X : Type 0} → (X → X → Ordering) → X → X → X → Coverage
coverage_in cmp owner next name = coverage_by (cmp owner next) (cmp owner name) (cmp name next)

-- in words, a name lies between an owner and the next one on a circle: if the owner is before the next, it comes after the owner and
-- before the next, and else it comes after the owner or before the next
abbrev pub LiesBetween : Ordering → Ordering → Ordering → Type 0
LiesBetween owner_next owner_name name_next =
    ((owner_next ≡ Less) × (owner_name ≡ Less) × (name_next ≡ Less)) ⊎ ((owner_next ≢ Less) × ((owner_name ≡ Less) ⊎ (name_next ≡ Less)))

-- ---- NSEC

-- the name at the start of data
abbrev pub name_before : Option (Labels × Octets) → Labels
name_before None = []
name_before (Some (labels, rest)) = labels

-- the next name, with which the data begin (RFC 4034 section 4.1)
abbrev pub next_name : Octets → Labels
next_name octets = name_before (plain_name octets)

-- what a record says of a name in the order of names (RFC 4034 section 6.1)
abbrev pub nsec_coverage : Labels → SortKey → Coverage
nsec_coverage name k = coverage_in key_cmp k.owner (key (next_name k.octets)) (key name)

-- ---- NSEC3

-- the data (RFC 5155 section 3.2): an algorithm, flags, iterations in two octets, a salt after its size, the next hash after its size, and types
abbrev pub hash_algorithm : Octets → ℕ
hash_algorithm octets = slice_index octets 0

abbrev pub hash_iterations : Octets → ℕ
hash_iterations octets = slice_index octets 2 * 256 + slice_index octets 3

abbrev pub hash_salt : Octets → Octets
hash_salt octets = take (slice_index octets 4) (drop 5 octets)

abbrev pub after_salt : Octets → Octets
after_salt octets = drop (slice_index octets 4) (drop 5 octets)

abbrev pub next_hash : Octets → Octets
next_hash octets = take (slice_index (after_salt octets) 0) (drop 1 (after_salt octets))

-- the first label of a name; the root has none
abbrev pub first_label : Labels → Octets
first_label [] = []
first_label (label ∷ labels) = label

-- the owner's hash, whose text is the owner's first label
abbrev pub owner_hash : SortKey → Option Octets
owner_hash k = hash_of_text (first_label (reverse k.owner))

-- the most iterations with which hashes are computed
abbrev pub most_iterations : ℕ
most_iterations = 500

-- whether the hashes of the record are computed: by SHA-1, with few iterations, and the next hash is one (RFC 5155 section 11)
abbrev pub is_computed : Octets → Bool
is_computed octets = hash_algorithm octets == 1 && nat_le (hash_iterations octets) most_iterations && length (next_hash octets) == 20

abbrev pub hashed_coverage : Labels → Octets → Option Octets → Coverage
hashed_coverage name octets None = Unknown
hashed_coverage name octets (Some owner) = coverage_in (slice_cmp nat_cmp) owner (next_hash octets) (nsec3_hash_of name (hash_salt octets) (hash_iterations octets))

-- what a record says of a name in the order of hashes
abbrev pub nsec3_coverage : Labels → SortKey → Coverage
nsec3_coverage name k = if is_computed k.octets then hashed_coverage name k.octets (owner_hash k) else Unknown

-- ---- lines

abbrev pub coverage_word : Coverage → Octets
coverage_word Matches = codes "matches\n"
coverage_word Covers = codes "covers\n"
coverage_word No = codes "no\n"
coverage_word Unknown = codes "unknown\n"

abbrev pub nsec_number : ℕ
nsec_number = 47

abbrev pub nsec3_number : ℕ
nsec3_number = 50

-- the line of a record, if it is of one of the two types
abbrev pub coverage_line : Labels → SortKey → Octets
coverage_line name k =
    if k.rtype == nsec_number then codes "nsec " ++ coverage_word (nsec_coverage name k)
    else if k.rtype == nsec3_number then codes "nsec3 " ++ coverage_word (nsec3_coverage name k)
    else []

-- the lines of such records among some
abbrev pub coverage_text : Labels → List SortKey → Octets
coverage_text name records = flat_map (coverage_line name) records
