-- Canonical forms: the octets by which a record is compared and written (RFC 4034 sections 6.1 to 6.3).
use Rattle.std.specs.Prelude.{◌≡◌, ◌≤◌, ◌<◌, ◌^◌, ℕ, List, [], ◌∷◌, drop, flat_map, length, map, reverse, take, unwrap_or}
use Rattle.std.specs.List.{All}
use Rattle.dns_wire.specs.Octets.{Octets, Labels}
use Rattle.dns_wire.specs.Names.{lowered, plain_name}
use Rattle.dns_message.specs.Order.{SortKey, octets_of_key}
use Rattle.dns_message.specs.OwnerKeys.{labels_key}
use Rattle.dns_message.specs.declared.form_span.FormSpan.{FormSpan}

-- the key of an owner that is in order from the root on
abbrev pub form_owner_key : SortKey → Octets
form_owner_key k = labels_key ([] ∷ k.owner)

-- what some canonical octets are compared by: the name that they begin with, and what follows the ten octets after it
abbrev pub form_of_parts : ℕ → ℕ → ℕ → Labels × Octets → SortKey
form_of_parts class rtype ttl parts = record { owner = reverse parts.0; class = class; rtype = rtype; octets = drop 10 parts.1; ttl = ttl }

abbrev pub form_in : Octets → ℕ → ℕ → ℕ → SortKey
form_in octets class rtype ttl = form_of_parts class rtype ttl (unwrap_or (plain_name octets) ([], []))

-- what a record is compared by, if it is in lowercase and is read back from the canonical octets, which are at most 65,800, and the number
-- of its data's octets is in two octets
abbrev pub IsForm : SortKey → Type 0
IsForm k = (lowered k.owner ≡ k.owner) × (length (octets_of_key k) ≤ 65800) × (form_in (octets_of_key k) k.class k.rtype k.ttl ≡ k) × (length k.octets < 2 ^ 16)

-- ---- one after another

-- how long the parts of a form are, and its numbers
abbrev pub span_of : SortKey → FormSpan
span_of k = record { owner_size = length (form_owner_key k); size = length (octets_of_key k); class = k.class; rtype = k.rtype; ttl = k.ttl }

-- the forms whose canonical octets are one after another
unfoldable pub forms_in : List FormSpan → Octets → List SortKey
forms_in [] octets = []
forms_in (span ∷ spans) octets = form_in (take span.size octets) span.class span.rtype span.ttl ∷ forms_in spans (drop span.size octets)

-- the owners' keys, the canonical octets and the spans are those of the forms
abbrev pub AreForms : List SortKey → Octets → Octets → List FormSpan → Type 0
AreForms ks keys octets spans = (keys ≡ flat_map form_owner_key ks) × (octets ≡ flat_map octets_of_key ks) × (spans ≡ map span_of ks) × All IsForm ks
