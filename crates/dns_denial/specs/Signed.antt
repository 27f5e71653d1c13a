-- The octets that a signature is over (RFC 4035 section 5.3.2, RFC 4034 section 3.1.8.1).
use Rattle.std.specs.Prelude.{ℕ, ◌+◌, ◌*◌, ◌==◌, ◌&&◌, Bool, List, [], ◌∷◌, ◌++◌, Option, Some, None, codes, drop, filter, flat_map, length, nat_lt, slice_get, slice_index, take, if◌then◌else◌}
use Rattle.std.specs.Int.{w32, from_be_bytes}
use Rattle.std.specs.Ordering.{is_eq}
use Rattle.dns_wire.specs.Octets.{Octets, Labels}
use Rattle.dns_text.specs.Hexadecimal.{line}
use Rattle.dns_wire.specs.Names.{plain_name, wire}
use Rattle.dns_name.specs.Order.{key_cmp}
use Rattle.dns_message.specs.Order.{SortKey, octets_of_key}
use Rattle.dns_denial.specs.Coverage.{name_before}
use Rattle.dns_command.specs.declared.refusal.OneMessage.{OneMessage}
use Rattle.dns_command.specs.declared.refusal.Refusal.{Refusal}
use Rattle.dns_command.specs.declared.refusal.Refusal.TheVariants.{Own}
use Rattle.dns_denial.specs.declared.refusal.DenialReason.{DenialReason}
use Rattle.dns_denial.specs.declared.refusal.DenialReason.TheVariants.{NoSignature, TooManyLabels}

-- ---- signatures

-- the type of signatures
abbrev pub rrsig_number : ℕ
rrsig_number = 46

abbrev pub is_signature : SortKey → Bool
is_signature k = k.rtype == rrsig_number

-- the signatures among some records
abbrev pub signatures : List SortKey → List SortKey
signatures records = filter is_signature records

-- the signature of this number, from 0
abbrev pub signature_at : ℕ → List SortKey → Option SortKey
signature_at number records = slice_get (signatures records) number

-- the data (RFC 4034 section 3.1): a type in two octets, an algorithm, the labels field, a TTL and two moments in four octets each, a key
-- tag in two octets, the signer's name, and the signature
abbrev pub type_covered : Octets → ℕ
type_covered octets = slice_index octets 0 * 256 + slice_index octets 1

abbrev pub algorithm : Octets → ℕ
algorithm octets = slice_index octets 2

abbrev pub labels_field : Octets → ℕ
labels_field octets = slice_index octets 3

abbrev pub original_ttl : Octets → ℕ
original_ttl octets = from_be_bytes w32 (take 4 (drop 4 octets))

abbrev pub key_tag_field : Octets → ℕ
key_tag_field octets = slice_index octets 16 * 256 + slice_index octets 17

abbrev pub signer : Octets → Labels
signer octets = name_before (plain_name (drop 18 octets))

abbrev pub signature_field : Octets → Octets
signature_field octets = drop (18 + length (wire (signer octets))) octets

abbrev pub without_signature : Octets → Octets
without_signature octets = take 18 octets ++ wire (signer octets)

-- ---- what a signature is over

-- the owner that was signed, by the labels field and the owner, each from the root on: the owner if it has as many labels, and else as many
-- of its last labels and the label `*`
abbrev pub signed_owner : ℕ → Labels → Labels
signed_owner count owner = if count == length owner then owner else take count owner ++ codes "*" ∷ []

-- whether a signature is over a record: the record has its owner, its class, and the type that it covers
abbrev pub is_signed_by : SortKey → SortKey → Bool
is_signed_by g k = is_eq (key_cmp k.owner g.owner) && (k.class == g.class && k.rtype == type_covered g.octets)

-- a record as it was signed: with the owner that was signed, and with the original TTL
abbrev pub as_signed : SortKey → SortKey → SortKey
as_signed g k = record {
  owner = signed_owner (labels_field g.octets) g.owner;
  class = k.class;
  rtype = k.rtype;
  octets = k.octets;
  ttl = original_ttl g.octets;
}

-- the canonical octets of a record as it was signed, if the signature is over it
abbrev pub signed_part : SortKey → SortKey → Octets
signed_part g k = if is_signed_by g k then octets_of_key (as_signed g k) else []

-- the octets that a signature among some records is over: its data without the signature, and the records that it is over
abbrev pub signed_octets : List SortKey → SortKey → Octets
signed_octets records g = without_signature g.octets ++ flat_map (signed_part g) records

-- ---- lines

abbrev pub signature_line : List SortKey → Option SortKey → Octets
signature_line records None = []
signature_line records (Some g) = line (signed_octets records g)

-- the line of the octets that the signature of a number is over
abbrev pub signed_text : ℕ → List SortKey → Octets
signed_text number records = signature_line records (signature_at number records)

-- why a text is refused
abbrev pub DenialRefusal : Type 0
DenialRefusal = Refusal OneMessage DenialReason

-- why nothing is printed for a signature: its labels field is more than the number of its owner's labels
abbrev pub signature_refusal : Option SortKey → Option DenialRefusal
signature_refusal None = Some (Own NoSignature)
signature_refusal (Some g) = if nat_lt (length g.owner) (labels_field g.octets) then Some (Own TooManyLabels) else None

-- why nothing is printed for the signature of a number
abbrev pub signed_refusal : ℕ → List SortKey → Option DenialRefusal
signed_refusal number records = signature_refusal (signature_at number records)
