use Rattle.dns_command.proofs.Printed.{puts}
use Rattle.dns_normal.specs.Texts.{PrintsNormal, normal_refusal}
use Rattle.dns_normal.proofs.command.NormalTextCommand.put.Goals as goal

pub returns : goal.returns
returns g c =
    puts g.K.Sink (normal_refusal tt c.args.text.now) (PrintsNormal tt c.args.text.now) c.args.sink.now c.put_printed.new.sink c.print_normal.result c.put_printed.result
    c.print_normal.ensures.accepted c.print_normal.ensures.printed c.print_normal.ensures.refused c.put_printed.ensures.put c.put_printed.ensures.refused
