use Rattle.std.proofs.Common.{◌*◌, ◌+◌, ◌∙◌, ap, arith, refl, slice_index_or}
use Rattle.std.specs.Int.{w32, to_be_bytes}
use Rattle.dns_message.proofs.Octets.{number_octets_4}
use Rattle.dns_record_lines.specs.RecordLines.{class_and_type}
use Rattle.dns_record_lines.proofs.RecordOrder.{numbers_octets}
use Rattle.dns_record_lines.proofs.line_fields.read_numbers.Goals as goal

pub returns-in_err-class_high : goal.returns-in_err-class_high
returns-in_err-class_high c = λ k is are. absurd (c.in_err-class_high.ensures (class_and_type k) (numbers_octets k) refl are.class_and_type)

pub returns-in_err-ttl : goal.returns-in_err-ttl
returns-in_err-ttl c = λ k is are. absurd (c.in_err-ttl.ensures (to_be_bytes w32 k.ttl) (number_octets_4 k.ttl) refl are.ttl)

pub returns : goal.returns
returns c = λ k is are.
    let numbers = c.in_ok-class_high.ensures (class_and_type k) (numbers_octets k) refl are.class_and_type in
    let ttl = c.in_ok-ttl.ensures (to_be_bytes w32 k.ttl) (number_octets_4 k.ttl) refl are.ttl in
    record {
      class = c.from.ensures ∙ c.from_be_bytes.ensures ∙ ap (λ l. slice_index_or l 0 0 * 256 + slice_index_or l 1 0) numbers ∙ omega (arith, is.class);
      rtype = c.from-2.ensures ∙ c.from_be_bytes-2.ensures ∙ ap (λ l. slice_index_or l 2 0 * 256 + slice_index_or l 3 0) numbers ∙ omega (arith, is.rtype);
      ttl = c.from-3.ensures ∙ c.from_be_bytes-3.ensures
          ∙ ap (λ l. slice_index_or l 0 0 * 16777216 + slice_index_or l 1 0 * 65536 + slice_index_or l 2 0 * 256 + slice_index_or l 3 0) ttl ∙ omega (arith, is.ttl);
    }
