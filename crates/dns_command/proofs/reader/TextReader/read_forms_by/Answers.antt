use Rattle.std.proofs.Common.{ap, sym, Some, ◌∙◌}
use Rattle.dns_record.specs.FurtherFormats.{data_by}
use Rattle.dns_command.proofs.RefusalLemmas.{message_refused}
use Rattle.dns_command.proofs.reader.TextReader.read_forms_by.Goals as goal

pub returns-in-Err-clause-refused : goal.returns-in-Err-clause-refused
returns-in-Err-clause-refused g c = λ refusal.
    rw c.of.ensures (message_refused (data_by c.args.formats) c.args.number refusal c.args.text.now c.deref.result.now c.in-Err.error (c.in_ok-read_octets.ensures.ok ∙ ap Some (sym c.deref.ensures.value)) c.in-Err.ensures.refused)
