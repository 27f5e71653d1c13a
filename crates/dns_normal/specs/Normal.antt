-- The normal form of records: one message for all messages that have the same.
use Rattle.std.specs.Prelude.{ℕ, List, [], ◌++◌, length, replicate}
use Rattle.std.specs.Int.{w16, to_be_bytes}
use Rattle.dns_wire.specs.Octets.{Octets}
use Rattle.dns_wire.specs.Compression.{written_octets}
use Rattle.dns_wire.specs.Layout.{list_writes}
use Rattle.dns_message.specs.Built.{built}
use Rattle.dns_message.specs.Messages.{RecordValue}
use Rattle.dns_message.specs.Same.{least}

-- a header of that many answers and of nothing else: id, flags and the other counts are 0 (RFC 1035 section 4.1.1)
abbrev pub answers_header : ℕ → Octets
answers_header count = replicate 6 0 ++ (to_be_bytes w16 count ++ replicate 4 0)

-- the records as answers, one after another: no name is known before, and each is shared from then on (RFC 1035 section 4.1.4)
abbrev pub answers_message : List RecordValue → Octets
answers_message rs = answers_header (length rs) ++ written_octets (list_writes built rs [] [])

-- the normal form: the records other than OPT, lowercased and in canonical order, those that are alike once with the least TTL, as answers
abbrev pub normal_form : List RecordValue → Octets
normal_form rs = answers_message (least rs)
