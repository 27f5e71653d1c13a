-- Records that are read back from the fields of their lines.
use Rattle.std.proofs.Common.{◌≡◌, ℕ, List, [], ◌∷◌, ◌++◌, Some, sym, ap, ◌∙◌}
use Rattle.std.specs.Prelude.{reverse}
use Rattle.std.proofs.lemmas.List.{reverse-reverse}
use Rattle.dns_wire.specs.Octets.{Labels}
use Rattle.dns_wire.proofs.Backward.{lowered-reverse}
use Rattle.dns_name.specs.Order.{key}
use Rattle.dns_message.specs.Forms.{form_owner_key}
use Rattle.dns_message.specs.Order.{SortKey}
use Rattle.dns_message.specs.OwnerKeys.{IsKeyOf, labels_key}
use Rattle.dns_record_lines.specs.LineFields.{AreNumbersOf}
use Rattle.dns_record_lines.specs.RecordLines.{IsRecord}
use Rattle.dns_record_lines.specs.declared.line_fields.LineNumbers.{LineNumbers}

-- the key of a record's owner is an owner's key
pub key_of_record : (k : SortKey) (octets : List ℕ) → IsRecord k → octets ≡ form_owner_key k → IsKeyOf octets (reverse k.owner)
key_of_record k octets is e = record {
  name = is.owner;
  lowercase = lowered-reverse k.owner ∙ ap reverse is.lowercase;
  key_is = e ∙ ap (λ (l : List (List ℕ)). labels_key ([] ∷ l)) (sym (reverse-reverse k.owner));
}

owner_back : (k : SortKey) (owner : List (List ℕ)) → IsRecord k → owner ≡ reverse k.owner → key owner ≡ k.owner
owner_back k owner is e = ap key e ∙ ap reverse (lowered-reverse k.owner ∙ ap reverse is.lowercase) ∙ reverse-reverse k.owner

-- what is put for the parts of a record is the record
pub parts_back : (k : SortKey) (owner : Labels) (numbers : LineNumbers) (octets : List ℕ) (old new : List SortKey) → IsRecord k → Some owner ≡ Some (reverse k.owner) → AreNumbersOf k numbers → octets ≡ k.octets → old ≡ []
    → new ≡ old ++ record { owner = key owner; class = numbers.rclass.code.value; rtype = numbers.rtype.code.value; octets = octets; ttl = numbers.ttl.value.value } ∷ [] → new ≡ k ∷ []
parts_back k owner numbers octets old new is named are same none put =
    let own : owner ≡ reverse k.owner = cc in
    put ∙ (λ i. none i ++ record { owner = owner_back k owner is own i; class = are.class i; rtype = are.rtype i; octets = same i; ttl = are.ttl i } ∷ [])
