use Rattle.std.proofs.Common.{subst}
use Rattle.std.specs.Io.KnownBytes.{Appends}
use Rattle.dns_text.specs.Outside.{WritesPrefix}
use Rattle.dns_lines.proofs.filter.end_answers.Goals as goal

pub returns-in-Ok-put_text-clause-ended : goal.returns-in-Ok-put_text-clause-ended
returns-in-Ok-put_text-clause-ended g c = λ rest kept.
    (c.in-Ok.answer.items, c.in-Ok.ensures rest kept, subst (Appends (g.K.Sink.written c.args.sink.now) (g.K.Sink.written c.put_text.new.sink)) c.deref.ensures.value c.in-Ok-put_text.ensures.puts)

pub returns-clause-ended : goal.returns-clause-ended
returns-clause-ended g c = λ rest kept.
    (c.in-Ok.answer.items, c.in-Ok.ensures rest kept, subst (WritesPrefix (g.K.Sink.written c.args.sink.now) (g.K.Sink.written c.put_text.new.sink)) c.deref.ensures.value c.in-Err.ensures.puts)
