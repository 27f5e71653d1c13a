use Rattle.std.proofs.Common.{Option, subst}
use Rattle.dns_lines.specs.Runs.{EndedFor, note_of}
use Rattle.dns_lines.specs.declared.command.LineCommand.{LineCommand}
use Rattle.dns_lines.proofs.RunLemmas.{reported}
use Rattle.dns_lines.proofs.command.run_lines.Goals as goal

pub returns : goal.returns
returns g c = record {
  ended = subst (λ (o : Option LineCommand). EndedFor g.S.Source g.K.Sink o c.args.source.now c.execute-status.new.source c.args.sink.now c.execute-status.new.sink c.execute-status.result) c.command_of.ensures c.execute-status.ensures;
  noted = reported g.N.Sink (note_of c.execute-status.result) c.args.notes.now c.put_note.new.notes c.execute-status.result c.put_note.result c.put_note.ensures.quiet c.put_note.ensures.puts c.put_note.ensures.cause;
}
