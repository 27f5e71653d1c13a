use Rattle.std.proofs.Common.{◌++◌, ◌∷◌, ◌∙◌, ◌≡◌, [], OnOk, ap, arith, length, subst, sym}
use Rattle.std.specs.Int.{w32, to_be_bytes}
use Rattle.dns_wire.specs.Reading.{AreOctets}
use Rattle.dns_record_lines.specs.RecordLines.{digits, field}
use Rattle.dns_record_lines.proofs.FieldLemmas.{line_fields}
use Rattle.dns_record_lines.proofs.record_line.push_record_line.Goals as goal

pub returns-clause-record : goal.returns-clause-record
returns-clause-record c = λ other. record {
  owner = c.owner_key.ensures.name;
  lowercase = c.owner_key.ensures.lowercase;
  key = subst AreOctets c.owner_key.ensures.key c.push_fields.ensures.octets.0;
  class = c.class_and_type-class_and_type.ensures.class;
  rtype = c.class_and_type-class_and_type.ensures.rtype;
  not_opt = other;
  size = omega (arith, c.data.ensures.short, ap length c.data.ensures.octets);
  octets = subst AreOctets c.data.ensures.octets c.push_fields.ensures.octets.1;
  ttl = omega (arith, c.as_secs.type_inv, c.as_secs.ensures, c.ttl.ensures);
}

pub returns-clause-added : goal.returns-clause-added
returns-clause-added c =
    let ttl = c.to_be_bytes-ttl.ensures ∙ ap (to_be_bytes w32) (c.as_secs.ensures ∙ c.ttl.ensures) in
    let line = (λ i. field (c.owner_key.ensures.key i) (field (c.class_and_type-class_and_type.ensures.octets i) (field (c.data.ensures.octets i) (digits (ttl i))))) ∙ sym (line_fields c.args.form.now) in
    subst (λ l. OnOk c.push_fields.result (c.push_fields.new.text.items ≡ c.args.text.now.items ++ (l ++ 10 ∷ []))) line c.push_fields.ensures.added
