use Rattle.std.proofs.Common.{subst, sym, ◌∙◌}
use Rattle.dns_command.specs.Outcomes.{PutsFor}
use Rattle.dns_command.proofs.Printed.{puts}
use Rattle.dns_canon.specs.ExpectedStatus.{canon_refusal}
use Rattle.dns_canon.specs.Run.{Prints}
use Rattle.dns_canon.specs.declared.words.Command.{Command}
use Rattle.dns_canon.specs.declared.words.Command.TheVariants.{Same}
use Rattle.dns_canon.proofs.command.CanonCommandTextCommand.put.Goals as goal

pub returns-in-Same : goal.returns-in-Same
returns-in-Same g c =
    let text = c.args.text.now in
    let is = sym c.in-Same.is ∙ c.self.view_is in
    subst (λ (command : Command). PutsFor g.K.Sink (canon_refusal command text) (Prints command text) c.args.sink.now c.put_printed.new.sink c.put_printed.result) is
    (puts g.K.Sink (canon_refusal Same text) (Prints Same text) c.args.sink.now c.put_printed.new.sink c.print_same.result c.put_printed.result
    c.print_same.ensures.accepted c.print_same.ensures.printed c.print_same.ensures.refused c.put_printed.ensures.put c.put_printed.ensures.refused)
