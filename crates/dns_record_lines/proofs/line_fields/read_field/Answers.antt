use Rattle.std.proofs.Common.{◌++◌, ◌%◌, ◌∙◌, ap, arith, drop, length, take}
use Rattle.std.proofs.lemmas.List.{take_at}
use Rattle.dns_text.proofs.Encoding.{shown_long}
use Rattle.dns_record_lines.proofs.FieldLemmas.{even, put_back}
use Rattle.dns_record_lines.proofs.line_fields.read_field.Goals as goal

pub returns-then-field-eq0 : goal.returns-then-field-eq0
returns-then-field-eq0 c = λ read are is.
    let put = put_back c.args.field.now read c.put_octets.new.octets c.put_octets.result is are c.put_octets.ensures in
    let after = drop (length c.put_octets.new.octets) c.resize.new.self.items in
    (put.0, (λ i. take c.resize.new.self.len (put.1 i ++ after)) ∙ take_at read after c.resize.new.self.len (omega (arith, ap length is, shown_long read, c.in_ok-resize.ensures.len)))

pub returns-else-field-eq0 : goal.returns-else-field-eq0
returns-else-field-eq0 c = λ read are is. absurd (c.if-field-eq0.false (ap (λ l. length l % 2) is ∙ even read))
