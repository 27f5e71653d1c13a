use Rattle.std.proofs.Common.{◌++◌, ◌≡◌, ◌∙◌, List, ap, append_assoc, subst, ℕ}
use Rattle.std.specs.Result.{OnOk}
use Rattle.dns_text.specs.Hexadecimal.{line}
use Rattle.dns_wire.specs.Names.{wire}
use Rattle.dns_denial.specs.Signed.{signature_field, signed_octets, signer}
use Rattle.dns_lines.specs.Signatures.{octets_field, signature_line, signature_numbers}
use Rattle.dns_lines.proofs.signed.push_signature_line.Goals as goal

pub returns : goal.returns
returns c =
    let g = c.args.signature.now in
    let old = c.args.text.now.items in
    let numbers = signature_numbers g.octets in
    let by = octets_field (wire (signer g.octets)) in
    let own = octets_field (signature_field g.octets) in
    let last = line (signed_octets c.args.forms.now g) in
    let named : c.as_bytes.result.now ≡ wire (signer g.octets) = c.as_bytes.ensures.wire ∙ ap wire c.signer.ensures in
    let over : c.deref.result.now ≡ signed_octets c.args.forms.now g = c.deref.ensures.value ∙ c.in_ok-octets.ensures in
    let two : c.push_octets.new.text.items ≡ (old ++ numbers) ++ by = c.in_ok-push_octets.ensures ∙ (λ j. c.in_ok-push_numbers.ensures j ++ octets_field (named j)) in
    let three : c.push_octets-2.new.text.items ≡ ((old ++ numbers) ++ by) ++ own = c.in_ok-push_octets-2.ensures ∙ (λ i. two i ++ octets_field (c.signature.ensures i)) in
    let whole : c.push_octets-2.new.text.items ++ line c.deref.result.now ≡ old ++ signature_line c.args.forms.now g =
    (λ i. three i ++ line (over i)) ∙ append_assoc ((old ++ numbers) ++ by) own last ∙ append_assoc (old ++ numbers) by (own ++ last) ∙ append_assoc old numbers (by ++ (own ++ last)) in
    subst (λ (l : List ℕ). OnOk c.push_hex_line.result (c.push_hex_line.new.text.items ≡ l)) whole c.push_hex_line.ensures.added
