-- Headers of messages (RFC 1035 section 4.1.1).
use Rattle.std.specs.Prelude.{◌≡◌, ℕ, ◌+◌, ◌*◌, List, [], ◌∷◌, slice_index}
use Rattle.dns_wire.specs.Octets.{Octets}
use Rattle.dns_message.specs.Messages.{counts_of}
use Rattle.dns_message.specs.declared.header.Header.{Header}
use Rattle.dns_message.specs.declared.header.HeaderFlags.{HeaderFlags}
use Rattle.dns_message.specs.declared.header.SectionCounts.{SectionCounts}

-- the flags as a number
abbrev pub header_bits : HeaderFlags → ℕ
header_bits flags = flags.bits.value

-- the counts as numbers, in the order of the sections
abbrev pub counts_seen : SectionCounts → List ℕ
counts_seen counts = counts.questions.value ∷ counts.answers.value ∷ counts.authorities.value ∷ counts.additional.value ∷ []

-- the number in two octets from a place on
abbrev pub number_in : Octets → ℕ → ℕ
number_in m at = slice_index m at * 256 + slice_index m (at + 1)

-- the header of a message: an id in octets 0 and 1, flags in octets 2 and 3, and four counts from octet 4 on
pub record IsHeaderOf (m : Octets) (header : Header) : Type 0 where
  pub id : header.id.value ≡ number_in m 0
  pub flags : header_bits header.flags ≡ number_in m 2
  pub counts : counts_seen header.counts ≡ counts_of m
