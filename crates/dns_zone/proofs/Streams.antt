-- The members of a zone, and the text for their digest.
use Rattle.std.proofs.Common.{◌≡◌, ℕ, List, [], ◌∷◌, ◌++◌, codes, length, map, flat_map, filter, sym, ap, ◌∙◌}
use Rattle.std.specs.Prelude.{decimal}
use Rattle.std.specs.List.{concat}
use Rattle.sha2.specs.Sha512.{sha384}
use Rattle.dns_text.specs.Hexadecimal.{shown}
use Rattle.dns_message.specs.Canonical.{canonical_wire, is_not_opt}
use Rattle.dns_message.specs.Messages.{RecordValue}
use Rattle.dns_message.specs.Order.{collapsed}
use Rattle.dns_zone.specs.Zone.{belongs, members, zone_output}
use Rattle.dns_zone.proofs.Members.{in_zone_kept, in_zone_not_opt}

-- the records that are kept of those other than OPT are the members
pub members_kept : (apex : List (List ℕ)) (rs : List RecordValue) → map canonical_wire (collapsed (filter (belongs apex) (filter is_not_opt rs))) ≡ members apex rs
members_kept apex rs = ap (λ (l : List RecordValue). map canonical_wire (collapsed l)) (in_zone_kept apex rs ∙ sym (in_zone_not_opt apex rs))

-- the printed text
pub text_is : (count octets : ℕ) (lists : List (List ℕ)) (digits : List ℕ) → count ≡ length lists → octets ≡ length (concat lists) → digits ≡ flat_map shown (sha384 (concat lists))
    → codes "records " ++ (decimal count ++ (codes " octets " ++ (decimal octets ++ (10 ∷ codes "digest " ++ (digits ++ 10 ∷ []))))) ≡ zone_output lists
text_is count octets lists digits c o d = λ i. codes "records " ++ (decimal (c i) ++ (codes " octets " ++ (decimal (o i) ++ (10 ∷ codes "digest " ++ (d i ++ 10 ∷ [])))))
