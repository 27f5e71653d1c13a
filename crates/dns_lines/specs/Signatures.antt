-- The lines of a message's signatures (RFC 4034 section 3.1).
use Rattle.std.specs.Prelude.{ℕ, [], ◌∷◌, ◌++◌, List, codes, decimal, flat_map, length, nat_lt, if◌then◌else◌}
use Rattle.dns_text.specs.Hexadecimal.{line, shown}
use Rattle.dns_wire.specs.Names.{wire}
use Rattle.dns_wire.specs.Octets.{Octets}
use Rattle.dns_command.specs.Notes.{note_line}
use Rattle.dns_message.specs.Order.{SortKey}
use Rattle.dns_denial.specs.Texts.{reason_words}
use Rattle.dns_denial.specs.declared.refusal.DenialReason.TheVariants.{TooManyLabels}
use Rattle.dns_denial.specs.Signed.{algorithm, is_signature, key_tag_field, labels_field, signature_field, signed_octets, signer, type_covered}

-- `!`, a space, and the line
abbrev pub marked : Octets → Octets
marked note = codes "! " ++ note

-- a number in decimal digits, and a space
abbrev pub number_field : ℕ → Octets
number_field number = decimal number ++ codes " "

-- octets in hexadecimal digits, or `-` if there are none, and a space
abbrev pub octets_field : Octets → Octets
octets_field [] = codes "- "
octets_field (octet ∷ octets) = flat_map shown (octet ∷ octets) ++ codes " "

-- the type that is covered, the algorithm, the labels and the key tag, by a signature's data
abbrev pub signature_numbers : Octets → Octets
signature_numbers octets = number_field (type_covered octets) ++ (number_field (algorithm octets) ++ (number_field (labels_field octets) ++ number_field (key_tag_field octets)))

-- The line of a signature among some records: these numbers; and then in hexadecimal digits the octets of the signer's name, the signature,
-- and the octets that it is over (RFC 4035 section 5.3.2, RFC 4034 section 3.1.8.1). A space is between two of the seven.
abbrev pub signature_line : List SortKey → SortKey → Octets
signature_line records g = signature_numbers g.octets ++ (octets_field (wire (signer g.octets)) ++ (octets_field (signature_field g.octets) ++ line (signed_octets records g)))

-- the line that answers a signature: the one that `signed` of `dns_denial` notes, marked, if its labels field is more than the number of its
-- owner's labels
abbrev pub signature_answer : List SortKey → SortKey → Octets
signature_answer records g = if nat_lt (length g.owner) (labels_field g.octets) then marked (note_line (reason_words TooManyLabels) []) else signature_line records g

-- the line that answers a record, if it is a signature
abbrev pub signature_part : List SortKey → SortKey → Octets
signature_part records k = if is_signature k then signature_answer records k else []

-- the lines that answer the signatures among some records
abbrev pub signature_lines : List SortKey → Octets
signature_lines records = flat_map (signature_part records) records
