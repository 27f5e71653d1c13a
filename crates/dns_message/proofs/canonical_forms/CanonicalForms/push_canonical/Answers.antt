use Rattle.std.proofs.Common.{◌++◌, ◌∷◌, [], List, ℕ, ap, append_assoc, arith, drop, length, ◌∙◌}
use Rattle.std.proofs.lemmas.List.{length-append}
use Rattle.dns_wire.specs.Names.{wire}
use Rattle.dns_name.specs.Order.{key}
use Rattle.dns_message.specs.Order.{SortKey}
use Rattle.dns_message.proofs.PartsAdded.{parts_put}
use Rattle.dns_message.proofs.canonical_forms.CanonicalForms.push_canonical.Goals as goal

pub invariant_of-self-2 : goal.invariant_of-self-2
invariant_of-self-2 c =
    let inside = c.self.inside in
    let first : List ℕ = c.args.first.now in
    let last : List ℕ = c.args.last.now in
    let one = rw c.unwrap.ensures at c.extend_from_slice.ensures.items in
    let two = rw c.unwrap-2.ensures at c.extend_from_slice-2.ensures.items in
    let three = rw c.unwrap-3.ensures at c.extend_from_slice-3.ensures.items in
    let four = rw c.unwrap-4.ensures at c.extend_from_slice-4.ensures.items in
    (parts_put c.args.owner c.args.rtype.code.value c.args.rclass.code.value c.args.ttl.value.value (first ++ last) inside.owner_keys.items inside.octets.items inside.spans.items _ _ _ _
    c.self.invariant c.octets.ensures.name c.octets.ensures.lowercase c.requires.rdata c.requires.short
    (one ∙ (λ i. c.in_ok-reserve.ensures.items i ++ c.key-2.ensures i))
    (four ∙ ap (λ (l : List ℕ). l ++ last) (three ∙ ap (λ (l : List ℕ). l ++ first) (two ∙ (λ i. c.in_ok-reserve-2.ensures.items i ++ c.octets-3.ensures.octets i)))
    ∙ append_assoc (inside.octets.items ++ wire c.args.owner) first last)
    c.in_ok-push.ensures.items (ap length c.octets.ensures.octets) (omega (arith, ap length c.octets-2.ensures.octets, length-append first last)) c.get.ensures c.get-2.ensures c.as_secs.ensures).1

pub returns : goal.returns
returns c =
    let inside = c.self.inside in
    let first : List ℕ = c.args.first.now in
    let last : List ℕ = c.args.last.now in
    let one = rw c.unwrap.ensures at c.extend_from_slice.ensures.items in
    let two = rw c.unwrap-2.ensures at c.extend_from_slice-2.ensures.items in
    let three = rw c.unwrap-3.ensures at c.extend_from_slice-3.ensures.items in
    let four = rw c.unwrap-4.ensures at c.extend_from_slice-4.ensures.items in
    (parts_put c.args.owner c.args.rtype.code.value c.args.rclass.code.value c.args.ttl.value.value (first ++ last) inside.owner_keys.items inside.octets.items inside.spans.items _ _ _ _
    c.self.invariant c.octets.ensures.name c.octets.ensures.lowercase c.requires.rdata c.requires.short
    (one ∙ (λ i. c.in_ok-reserve.ensures.items i ++ c.key-2.ensures i))
    (four ∙ ap (λ (l : List ℕ). l ++ last) (three ∙ ap (λ (l : List ℕ). l ++ first) (two ∙ (λ i. c.in_ok-reserve-2.ensures.items i ++ c.octets-3.ensures.octets i)))
    ∙ append_assoc (inside.octets.items ++ wire c.args.owner) first last)
    c.in_ok-push.ensures.items (ap length c.octets.ensures.octets) (omega (arith, ap length c.octets-2.ensures.octets, length-append first last)) c.get.ensures c.get-2.ensures c.as_secs.ensures).0
    ∙ ap (λ (l : List SortKey). l ++ record { owner = key c.args.owner; class = c.args.rclass.code.value; rtype = c.args.rtype.code.value; octets = drop 10 (first ++ last); ttl = c.args.ttl.value.value } ∷ []) c.self.view_is
