use Rattle.std.proofs.Common.{◌∙◌, refl, sym}
use Rattle.dns_message.specs.Forms.{form_owner_key}
use Rattle.dns_record_lines.proofs.ReaderLemmas.{key_of_record, parts_back}
use Rattle.dns_record_lines.proofs.reader.push_form.Goals as goal

pub returns-then-not-branch : goal.returns-then-not-branch
returns-then-not-branch c = λ k is. (let read = c.in_ok-read_field.ensures (form_owner_key k) is.0.key (c.in-Some.ensures k is).key in let clash = sym c.if-not-branch.true ∙ read.0 in absurd cc)

pub returns-in_default-owner_of_key : goal.returns-in_default-owner_of_key
returns-in_default-owner_of_key c = λ k is.
    let read = c.in_ok-read_field.ensures (form_owner_key k) is.0.key (c.in-Some.ensures k is).key in
    absurd (let clash = c.in_default-owner_of_key.ensures _ (key_of_record k c.deref.result.now is.0 (c.deref.ensures.value ∙ read.1)) in cc)

pub returns : goal.returns
returns c = λ k is.
    let fields = c.in-Some.ensures k is in
    let key = c.in_ok-read_field.ensures (form_owner_key k) is.0.key fields.key in
    let rdata = c.in_ok-read_field-2.ensures k.octets is.0.octets fields.rdata in
    let owner = c.in-Some-owner_of_key.ensures _ (key_of_record k c.deref.result.now is.0 (c.deref.ensures.value ∙ key.1)) in
    (refl, parts_back k c.in-Some-owner_of_key.owner c.in-Some-read_numbers.numbers c.deref-2.result.now _ _ is.0 owner (c.in-Some-read_numbers.ensures k is.0 fields) (c.deref-2.ensures.value ∙ rdata.1) c.requires c.in_ok-push_parts.ensures)
