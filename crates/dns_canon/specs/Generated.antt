-- The records of `make`, the message that they make, and what is printed of it.
use Rattle.dns_wire.specs.Compression.{written_octets}
use Rattle.dns_wire.specs.Octets.{Octets, Labels}
use Rattle.dns_wire.specs.declared.sizes.TheConstants.{HEADER_SIZE}
use Rattle.std.specs.Prelude.{ℕ, zero, suc, ◌+◌, ◌/◌, ◌%◌, List, [], ◌∷◌, ◌++◌, codes, decimal, length, map, sum_by}
use Rattle.std.specs.Int.{w16}
use Rattle.std.specs.List.{range_with_len}
use Rattle.dns_wire.specs.Layout.{list_writes}
use Rattle.dns_record.specs.CharStrs.{charstr_wire}
use Rattle.dns_record.specs.Fields.{Field}
use Rattle.dns_record.specs.Fields.FieldOf.{CompressibleName, CharacterStrings, OtherOctets, Number}
use Rattle.dns_message.specs.Built.{built}
use Rattle.dns_message.specs.Messages.{RecordValue}
use Rattle.dns_message.specs.Order.{canonical_list}

-- ---- the records

-- a word and a number in decimal digits
abbrev pub numbered : Octets → ℕ → Octets
numbered word n = word ++ decimal n

-- the owner of the record of a number: `h<i mod 97>.z<i mod 7>.Example.`
abbrev pub generated_owner : ℕ → Labels
generated_owner i = numbered (codes "h") (i % 97) ∷ numbered (codes "z") (i % 7) ∷ codes "Example" ∷ []

-- the server and the exchange in its data: `ns<i mod 5>.EXAMPLE.`, and `mx<i mod 3>.example.`
abbrev pub generated_server : ℕ → Labels
generated_server i = numbered (codes "ns") (i % 5) ∷ codes "EXAMPLE" ∷ []

abbrev pub generated_exchange : ℕ → Labels
generated_exchange i = numbered (codes "mx") (i % 3) ∷ codes "example" ∷ []

-- the string in its data: `t<i>`
abbrev pub generated_string : ℕ → Octets
generated_string i = numbered (codes "t") i

-- the types take turns
abbrev pub generated_type : ℕ → ℕ
generated_type zero = 1
generated_type (suc zero) = 2
generated_type (suc (suc zero)) = 15
generated_type (suc (suc (suc turn))) = 16

-- A: the octets 10 and 0, and the number in two octets. NS: the server. MX: the number as preference, and the exchange. TXT: the
-- string.
abbrev pub generated_content : ℕ → ℕ → List Field
generated_content zero i = OtherOctets (10 ∷ 0 ∷ i / 256 ∷ i % 256 ∷ []) ∷ []
generated_content (suc zero) i = CompressibleName (generated_server i) ∷ []
generated_content (suc (suc zero)) i = Number w16 i ∷ CompressibleName (generated_exchange i) ∷ []
generated_content (suc (suc (suc turn))) i = CharacterStrings (charstr_wire (generated_string i)) ∷ []

-- the record of a number, from 0; its class is IN
abbrev pub generated_record : ℕ → RecordValue
generated_record i = record {
  owner = generated_owner i;
  rtype = generated_type (i % 4);
  class = 1;
  ttl = 60 + i % 3;
  content = generated_content (i % 4) i;
}

-- the first that many
abbrev pub generated : ℕ → List RecordValue
generated count = map generated_record (range_with_len 0 count)

-- ---- their message

-- the octets after the header, where no name is known yet and each is shared from then on
abbrev pub made : ℕ → Octets
made count = written_octets (list_writes built (generated count) [] [])

-- ---- what is printed

-- the number of canonical records, the number of their octets in all, and the size of the message, which has a header of 12 octets
abbrev pub made_line : ℕ → Octets
made_line count =
    codes "records " ++ (decimal (length (canonical_list (generated count)))
    ++ (codes " octets " ++ (decimal (sum_by length (canonical_list (generated count)))
    ++ (codes " message " ++ (decimal (HEADER_SIZE + length (made count)) ++ 10 ∷ [])))))
