use Rattle.std.proofs.Common.{◌∙◌}
use Rattle.dns_message.specs.Forms.{form_owner_key}
use Rattle.dns_record_lines.specs.RecordLines.{class_and_type}
use Rattle.dns_record_lines.proofs.FieldLemmas.{after_data, after_numbers, after_owner, line_fields, no_field, one_field}
use Rattle.dns_record_lines.proofs.RecordOrder.{numbers_octets}
use Rattle.dns_record_lines.proofs.line_fields.split_fields.Goals as goal

pub returns-in_err-key : goal.returns-in_err-key
returns-in_err-key c = λ k is. absurd (no_field c.args.line.now (form_owner_key k) (after_owner k) (is.1 ∙ line_fields k) c.in_err-key.ensures)

pub returns-in_err-class_and_type : goal.returns-in_err-class_and_type
returns-in_err-class_and_type c = λ k is.
    let first = one_field c.args.line.now (form_owner_key k) (after_owner k) c.in_ok-key.key.now c.in_ok-key.rest.now (is.1 ∙ line_fields k) is.0.key c.in_ok-key.ensures.0 c.in_ok-key.ensures.1 in
    absurd (no_field c.in_ok-key.rest.now (class_and_type k) (after_numbers k) first.1 c.in_err-class_and_type.ensures)

pub returns-in_err-rdata : goal.returns-in_err-rdata
returns-in_err-rdata c = λ k is.
    let first = one_field c.args.line.now (form_owner_key k) (after_owner k) c.in_ok-key.key.now c.in_ok-key.rest.now (is.1 ∙ line_fields k) is.0.key c.in_ok-key.ensures.0 c.in_ok-key.ensures.1 in
    let second = one_field c.in_ok-key.rest.now (class_and_type k) (after_numbers k) c.in_ok-class_and_type.class_and_type.now c.in_ok-class_and_type.rest.now first.1 (numbers_octets k) c.in_ok-class_and_type.ensures.0 c.in_ok-class_and_type.ensures.1 in
    absurd (no_field c.in_ok-class_and_type.rest.now k.octets (after_data k) second.1 c.in_err-rdata.ensures)

pub returns : goal.returns
returns c = λ k is.
    let first = one_field c.args.line.now (form_owner_key k) (after_owner k) c.in_ok-key.key.now c.in_ok-key.rest.now (is.1 ∙ line_fields k) is.0.key c.in_ok-key.ensures.0 c.in_ok-key.ensures.1 in
    let second = one_field c.in_ok-key.rest.now (class_and_type k) (after_numbers k) c.in_ok-class_and_type.class_and_type.now c.in_ok-class_and_type.rest.now first.1 (numbers_octets k) c.in_ok-class_and_type.ensures.0 c.in_ok-class_and_type.ensures.1 in
    let third = one_field c.in_ok-class_and_type.rest.now k.octets (after_data k) c.in_ok-rdata.rdata.now c.in_ok-rdata.ttl.now second.1 is.0.octets c.in_ok-rdata.ensures.0 c.in_ok-rdata.ensures.1 in
    record { key = first.0; class_and_type = second.0; rdata = third.0; ttl = third.1 }
