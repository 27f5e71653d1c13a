-- What is printed for the sorted records of a zone, and which of its ZONEMD records are verified (RFC 8976 section 4).
use Rattle.std.specs.Prelude.{ℕ, ◌==◌, ◌&&◌, ◌||◌, ◌+◌, ◌*◌, ◌-◌, Bool, List, [], ◌∷◌, ◌++◌, codes, decimal, drop, filter, flat_map, length, nat_eq, slice_index, if◌then◌else◌}
use Rattle.std.specs.Cmp.Lexicographic.{pointwise}
use Rattle.std.specs.List.{list_any}
use Rattle.sha2.specs.Sha512.{sha384, sha512}
use Rattle.dns_wire.specs.Octets.{Octets, Labels}
use Rattle.dns_text.specs.Hexadecimal.{line}
use Rattle.dns_message.specs.Order.{SortKey}
use Rattle.dns_zonemd.specs.SortedZone.{sorted_members, sorted_soas, sorted_stream, sorted_zonemds}

-- ---- the fields of data; an octet that is not there counts as 0

-- the number in the first four octets
abbrev pub first_number : Octets → ℕ
first_number octets = slice_index octets 0 * 16777216 + slice_index octets 1 * 65536 + slice_index octets 2 * 256 + slice_index octets 3

-- the serial of a SOA record: the first of the five numbers that end its data (RFC 1035 section 3.3.13)
abbrev pub soa_serial : SortKey → ℕ
soa_serial k = first_number (drop (length k.octets - 20) k.octets)

-- the fields of a ZONEMD record (RFC 8976 section 2.2)
abbrev pub zonemd_serial : SortKey → ℕ
zonemd_serial k = first_number k.octets

abbrev pub zonemd_scheme : SortKey → ℕ
zonemd_scheme k = slice_index k.octets 4

abbrev pub zonemd_algorithm : SortKey → ℕ
zonemd_algorithm k = slice_index k.octets 5

abbrev pub zonemd_digest : SortKey → Octets
zonemd_digest k = drop 6 k.octets

-- ---- verdicts

-- the scheme is SIMPLE, and the hash algorithm is SHA-384 or SHA-512
abbrev pub is_supported : SortKey → Bool
is_supported k = zonemd_scheme k == 1 && (zonemd_algorithm k == 1 || zonemd_algorithm k == 2)

-- the digest by a hash algorithm
abbrev pub digest_by : ℕ → Octets → Octets
digest_by algorithm stream = if algorithm == 1 then sha384 stream else sha512 stream

-- two records have the same scheme and hash algorithm
abbrev pub same_kind : SortKey → SortKey → Bool
same_kind j k = zonemd_scheme j == zonemd_scheme k && zonemd_algorithm j == zonemd_algorithm k

-- how many of the records have the scheme and the hash algorithm of this
abbrev pub count_kind : List SortKey → SortKey → ℕ
count_kind zonemds k = length (filter (same_kind k) zonemds)

-- the serial is that of a SOA record
abbrev pub has_serial : List SortKey → SortKey → Bool
has_serial soas k = list_any (λ soa. soa_serial soa == zonemd_serial k) soas

-- a supported record is verified: it is alone of its kind, and its serial and its digest are the zone's
abbrev pub is_verified : List SortKey → List SortKey → Octets → SortKey → Bool
is_verified soas zonemds stream k = count_kind zonemds k == 1 && has_serial soas k && pointwise nat_eq (zonemd_digest k) (digest_by (zonemd_algorithm k) stream)

abbrev pub verdict : List SortKey → List SortKey → Octets → SortKey → Octets
verdict soas zonemds stream k = if is_supported k then (if is_verified soas zonemds stream k then codes "verified" else codes "differs") else codes "unsupported"

-- ---- the text

-- the line for a ZONEMD record: its serial, scheme and hash algorithm, and the verdict
abbrev pub verdict_line : List SortKey → List SortKey → Octets → SortKey → Octets
verdict_line soas zonemds stream k =
    codes "zonemd " ++ (decimal (zonemd_serial k) ++ (codes " " ++ (decimal (zonemd_scheme k) ++ (codes " " ++ (decimal (zonemd_algorithm k) ++ (codes " " ++ (verdict soas zonemds stream k ++ 10 ∷ [])))))))

-- the lines for sums: how many members and canonical octets, and the two digests
abbrev pub sums_text : ℕ → Octets → Octets
sums_text records stream =
    codes "records " ++ (decimal records ++ (codes " octets " ++ (decimal (length stream) ++ (10 ∷ codes "sha384 " ++ (line (sha384 stream) ++ (codes "sha512 " ++ line (sha512 stream)))))))

-- the text for the sorted records of the zone of an apex
abbrev pub report : Labels → List SortKey → Octets
report apex ks =
    sums_text (length (sorted_members apex ks)) (sorted_stream apex ks)
    ++ flat_map (verdict_line (sorted_soas apex ks) (sorted_zonemds apex ks) (sorted_stream apex ks)) (sorted_zonemds apex ks)
