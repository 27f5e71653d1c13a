use Rattle.std.proofs.Common.{ap, arith, false, length, true}
use Rattle.dns_text.proofs.Encoding.{shown_long}
use Rattle.dns_record_lines.proofs.FieldLemmas.{put_back}
use Rattle.dns_record_lines.proofs.line_fields.read_four.Goals as goal

pub returns-then-field-ne8 : goal.returns-then-field-ne8
returns-then-field-ne8 c = λ read are four is. absurd (c.if-field-ne8.true (omega (arith, ap length is, shown_long read, four)))

pub returns-then-put_octets : goal.returns-then-put_octets
returns-then-put_octets c = λ read are four is. (put_back c.args.field.now read c.put_octets.new.octets true is are c.if-put_octets.ensures).1

pub returns-else-put_octets : goal.returns-else-put_octets
returns-else-put_octets c = λ read are four is. (let clash = (put_back c.args.field.now read c.put_octets.new.octets false is are c.if-put_octets.ensures).0 in absurd cc)
