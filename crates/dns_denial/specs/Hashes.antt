-- The hash of an owner name for NSEC3 (RFC 5155 section 5).
use Rattle.std.specs.Prelude.{ℕ, zero, suc, [], ◌∷◌, ◌++◌}
use Rattle.sha1.specs.Sha1.{sha1}
use Rattle.dns_wire.specs.Octets.{Octets, Labels}
use Rattle.dns_wire.specs.Names.{lowered, wire}
use Rattle.dns_denial.specs.Base32.{base32hex_of}

-- IH(x, salt, 0) = SHA-1(x ++ salt), and IH(x, salt, k) = SHA-1(IH(x, salt, k - 1) ++ salt)
abbrev pub iterated_hash : Octets → Octets → ℕ → Octets
iterated_hash x salt zero = sha1 (x ++ salt)
iterated_hash x salt (suc k) = sha1 (iterated_hash x salt k ++ salt)

-- the hash of a name is that of its octets in lowercase
abbrev pub nsec3_hash_of : Labels → Octets → ℕ → Octets
nsec3_hash_of name salt iterations = iterated_hash (wire (lowered name)) salt iterations

-- the text of the hash of a name, and LF
abbrev pub hash_line : Labels → Octets → ℕ → Octets
hash_line name salt iterations = base32hex_of (nsec3_hash_of name salt iterations) ++ 10 ∷ []
