-- The tags of keys (RFC 4034 appendix B).
use Rattle.std.specs.Prelude.{ℕ, ◌+◌, ◌*◌, ◌/◌, ◌%◌, ◌==◌, Bool, List, [], ◌∷◌, ◌++◌, codes, decimal, flat_map, slice_index, if◌then◌else◌}
use Rattle.dns_wire.specs.Octets.{Octets}
use Rattle.dns_message.specs.Order.{SortKey}

-- the octets added up, from this index on, those at an even index times 256
abbrev pub tag_sum : ℕ → Octets → ℕ
tag_sum index [] = 0
tag_sum index (octet ∷ rest) = (if index % 2 == 0 then octet * 256 else octet) + tag_sum (index + 1) rest

-- the sum, with what passes sixteen bits added to it, in sixteen bits
abbrev pub tag_of_sum : ℕ → ℕ
tag_of_sum sum = (sum + sum / 65536 % 65536) % 65536

-- the tag of a key's data
abbrev pub tag : Octets → ℕ
tag octets = tag_of_sum (tag_sum 0 octets)

-- ---- the tags of the keys among some records

-- the type of keys
abbrev pub dnskey_number : ℕ
dnskey_number = 48

-- the algorithm of a key comes after its flags and its protocol (RFC 4034 section 2.1); 1 is RSA/MD5
abbrev pub is_rsa_md5 : Octets → Bool
is_rsa_md5 octets = slice_index octets 3 == 1

-- the line of a key's data: its tag, or `-` for RSA/MD5, whose tags are taken in another way (RFC 4034 appendix B.1)
abbrev pub tag_line : Octets → Octets
tag_line octets = if is_rsa_md5 octets then codes "-\n" else decimal (tag octets) ++ 10 ∷ []

-- the line of a record, if it is a key, by what records are compared by
abbrev pub key_line : SortKey → Octets
key_line k = if k.rtype == dnskey_number then tag_line k.octets else []

-- the lines of the keys among some records
abbrev pub key_tags_text : List SortKey → Octets
key_tags_text records = flat_map key_line records
