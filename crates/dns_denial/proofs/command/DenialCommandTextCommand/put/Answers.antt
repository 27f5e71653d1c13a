use Rattle.dns_command.proofs.Printed.{puts}
use Rattle.dns_denial.specs.Texts.{PrintsDenial, denial_refusal}
use Rattle.dns_denial.proofs.command.DenialCommandTextCommand.put.Goals as goal

pub returns : goal.returns
returns g c =
    puts g.K.Sink (denial_refusal c.args.self.now c.args.text.now) (PrintsDenial c.args.self.now c.args.text.now) c.args.sink.now c.put_printed.new.sink c.print.result c.put_printed.result
    c.print.ensures.accepted c.print.ensures.printed c.print.ensures.refused c.put_printed.ensures.put c.put_printed.ensures.refused
