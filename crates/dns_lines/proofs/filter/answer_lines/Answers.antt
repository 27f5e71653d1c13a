use Rattle.std.proofs.Common.{arith, inl, inr, refl, rules, subst, sym, take, ◌∙◌, ◌≡◌, ℕ}
use Rattle.std.proofs.KnownBytes.{Consumes-kept}
use Rattle.std.specs.Io.KnownBytes.{Appends}
use Rattle.dns_text.specs.Outside.{Rose, WritesPrefix}
use Rattle.dns_lines.proofs.LineLemmas.{not_none}
use Rattle.dns_lines.proofs.PieceLemmas.{ended_so_far, piece_read, progress, progress_next, stopped_prefix, stopped_some}
use Rattle.dns_lines.proofs.RunLemmas.{cause_done, cause_failed, either_front, ends, flushed_after, fronts_after, holds_if_err, holds_if_ok, never_ended, nothing_begun, out_of_memory, pieces_after, puts_done, puts_failed, read_nothing, sink_failed, source_failed}
use Rattle.dns_lines.proofs.filter.answer_lines.Goals as goal

pub returns-in_default : goal.returns-in_default
returns-in_default g c = nothing_begun g.S.Source g.K.Sink c.args.command.now c.args.source.now c.args.sink.now

pub loop-read-init : goal.loop-read-init
loop-read-init g c = record {
  progress = (progress c.args.command.now (g.S.Source.left c.args.source.now) (g.K.Sink.written c.args.sink.now) c.in-Ok.line.items c.in-Ok.ensures.items, omega arith);
  none = c.new-answers.ensures.items;
  kept = omega (arith, c.in-Ok.ensures.len);
  room = search rules;
  read_steady = refl;
  write_steady = refl;
  settled = inr refl;
}

pub returns-in_default-read : goal.returns-in_default-read
returns-in_default-read g c =
    let so-far = c.loop-read.invariant.progress.0 in
    source_failed g.S.Source g.K.Sink c.args.command.now c.args.source.now c.read.new.self c.args.sink.now c.loop-read.sink so-far.text
    (Consumes-kept (g.S.Source.left c.args.source.now) (g.S.Source.left c.loop-read.source) (g.S.Source.left c.read.new.self) so-far.text so-far.read c.in_default-read.ensures.bytes)
    (ended_so_far c.args.command.now (g.S.Source.left c.args.source.now) (g.S.Source.left c.loop-read.source) (g.S.Source.left c.read.new.self) (g.K.Sink.written c.args.sink.now) (g.K.Sink.written c.loop-read.sink) (g.K.Sink.written c.loop-read.sink) c.loop-read.line.items so-far)
    (subst (λ (n : ℕ). Rose n (g.S.Source.faults c.read.new.self)) c.loop-read.invariant.read_steady c.in_default-read.ensures.cause.failed) c.loop-read.invariant.write_steady c.loop-read.invariant.settled

pub returns-then-count-eq0 : goal.returns-then-count-eq0
returns-then-count-eq0 g c =
    let so-far = c.loop-read.invariant.progress.0 in
    let none : c.in-Ok-read.count ≡ 0 = c.if-count-eq0.true in
    let bytes = c.in-Ok-read.ensures.bytes in
    let kept = c.deref.ensures.value ∙ so-far.kept_is in
    ends g.S.Source g.K.Sink c.args.command.now c.args.source.now c.loop-read.source c.read.new.self c.args.sink.now c.loop-read.sink c.end_answers.new.sink c.loop-read.line.items so-far c.end_answers.result
    (read_nothing g.S.Source g.K.Sink c.args.command.now c.args.source.now c.loop-read.source c.read.new.self c.args.sink.now c.loop-read.sink c.end_answers.new.sink c.loop-read.line.items so-far c.in-Ok-read.count c.read.new.into none bytes.0)
    (bytes.1 none (omega (arith, c.read.auto.into, c.loop-read.invariant.room)))
    (c.in-Ok-read.ensures.cause.steady ∙ c.loop-read.invariant.read_steady) c.loop-read.invariant.write_steady c.loop-read.invariant.settled
    (c.end_answers.ensures.ended so-far.rest kept) c.end_answers.ensures.write_fault c.end_answers.ensures.write_steady c.end_answers.ensures.flushed c.end_answers.ensures.unchanged

pub returns-then-is_err : goal.returns-then-is_err
returns-then-is_err g c =
    let so-far = c.loop-read.invariant.progress.0 in
    let piece = take c.in-Ok-read.count c.read.new.into in
    let added = c.answer_piece-answered.new.answers.items in
    let failed = sym c.is_err.ensures.value ∙ c.if-is_err.true in
    let fronts = fronts_after c.args.command.now c.loop-read.line.items piece c.loop-read.answers.items added c.loop-read.invariant.none
    (either_front c.args.command.now c.loop-read.line.items piece c.loop-read.answers.items added c.answer_piece-answered.new.line.items c.answer_piece-answered.result c.answer_piece-answered.ensures.answered c.answer_piece-answered.ensures.stopped) in
    let put = subst (WritesPrefix (g.K.Sink.written c.loop-read.sink) (g.K.Sink.written c.put_text.new.sink)) c.deref-in-loop-read.ensures.value
    (puts_failed (g.K.Sink.written c.loop-read.sink) (g.K.Sink.written c.put_text.new.sink) c.deref-in-loop-read.result.now c.put_text.result failed c.put_text.ensures.puts) in
    sink_failed g.S.Source g.K.Sink c.args.command.now c.args.source.now c.read.new.self c.args.sink.now c.put_text.new.sink _
    (piece_read c.args.command.now (g.S.Source.left c.args.source.now) (g.S.Source.left c.loop-read.source) (g.S.Source.left c.read.new.self) (g.K.Sink.written c.args.sink.now) (g.K.Sink.written c.loop-read.sink) (g.K.Sink.written c.put_text.new.sink) c.loop-read.line.items so-far piece added c.in-Ok-read.ensures.bytes.0)
    (stopped_prefix c.args.command.now (g.S.Source.left c.args.source.now) (g.S.Source.left c.loop-read.source) (g.S.Source.left c.read.new.self) (g.K.Sink.written c.args.sink.now) (g.K.Sink.written c.loop-read.sink) (g.K.Sink.written c.put_text.new.sink) c.loop-read.line.items so-far piece added c.in-Ok-read.ensures.bytes.0 fronts put)
    (c.in-Ok-read.ensures.cause.steady ∙ c.loop-read.invariant.read_steady)
    (subst (λ (n : ℕ). Rose n (g.K.Sink.faults c.put_text.new.sink)) c.loop-read.invariant.write_steady (cause_failed (g.K.Sink.faults c.loop-read.sink) (g.K.Sink.faults c.put_text.new.sink) c.put_text.result failed c.put_text.ensures.cause))

pub returns-then-is_err-2 : goal.returns-then-is_err-2
returns-then-is_err-2 g c =
    let so-far = c.loop-read.invariant.progress.0 in
    let piece = take c.in-Ok-read.count c.read.new.into in
    let added = c.answer_piece-answered.new.answers.items in
    let done = sym c.is_err.ensures.value ∙ c.if-is_err.false in
    let stopped = sym c.is_err-in-loop-read.ensures.value ∙ c.if-is_err-2.true in
    let fronts = fronts_after c.args.command.now c.loop-read.line.items piece c.loop-read.answers.items added c.loop-read.invariant.none (holds_if_err c.answer_piece-answered.result stopped c.answer_piece-answered.ensures.stopped) in
    let put = subst (Appends (g.K.Sink.written c.loop-read.sink) (g.K.Sink.written c.put_text.new.sink)) c.deref-in-loop-read.ensures.value
    (puts_done (g.K.Sink.written c.loop-read.sink) (g.K.Sink.written c.put_text.new.sink) c.deref-in-loop-read.result.now c.put_text.result done c.put_text.ensures.puts) in
    out_of_memory g.S.Source g.K.Sink c.args.command.now c.args.source.now c.read.new.self c.args.sink.now c.put_text.new.sink _
    (piece_read c.args.command.now (g.S.Source.left c.args.source.now) (g.S.Source.left c.loop-read.source) (g.S.Source.left c.read.new.self) (g.K.Sink.written c.args.sink.now) (g.K.Sink.written c.loop-read.sink) (g.K.Sink.written c.put_text.new.sink) c.loop-read.line.items so-far piece added c.in-Ok-read.ensures.bytes.0)
    (stopped_some c.args.command.now (g.S.Source.left c.args.source.now) (g.S.Source.left c.loop-read.source) (g.S.Source.left c.read.new.self) (g.K.Sink.written c.args.sink.now) (g.K.Sink.written c.loop-read.sink) (g.K.Sink.written c.put_text.new.sink) c.loop-read.line.items so-far piece added c.in-Ok-read.ensures.bytes.0 fronts put)
    (c.in-Ok-read.ensures.cause.steady ∙ c.loop-read.invariant.read_steady)
    (cause_done (g.K.Sink.faults c.loop-read.sink) (g.K.Sink.faults c.put_text.new.sink) c.put_text.result done c.put_text.ensures.cause ∙ c.loop-read.invariant.write_steady)
    (inl (flushed_after g.K.Sink c.args.sink.now c.loop-read.sink c.put_text.new.sink c.loop-read.invariant.settled (holds_if_ok c.put_text.result done c.put_text.ensures.flushed)))

pub loop-read-preserved : goal.loop-read-preserved
loop-read-preserved g c =
    let so-far = c.loop-read.invariant.progress.0 in
    let piece = take c.in-Ok-read.count c.read.new.into in
    let added = c.answer_piece-answered.new.answers.items in
    let done = sym c.is_err.ensures.value ∙ c.if-is_err.false in
    let answered = sym c.is_err-in-loop-read.ensures.value ∙ c.if-is_err-2.false in
    let pieces = pieces_after c.args.command.now c.loop-read.line.items piece c.loop-read.answers.items added c.answer_piece-answered.new.line.items c.loop-read.invariant.none (holds_if_ok c.answer_piece-answered.result answered c.answer_piece-answered.ensures.answered) in
    let put = subst (Appends (g.K.Sink.written c.loop-read.sink) (g.K.Sink.written c.put_text.new.sink)) c.deref-in-loop-read.ensures.value
    (puts_done (g.K.Sink.written c.loop-read.sink) (g.K.Sink.written c.put_text.new.sink) c.deref-in-loop-read.result.now c.put_text.result done c.put_text.ensures.puts) in
    record {
      progress = progress_next c.args.command.now (g.S.Source.left c.args.source.now) (g.S.Source.left c.loop-read.source) (g.S.Source.left c.read.new.self) (g.K.Sink.written c.args.sink.now) (g.K.Sink.written c.loop-read.sink) (g.K.Sink.written c.put_text.new.sink) c.loop-read.line.items so-far piece added c.in-Ok-read.ensures.bytes.0
          c.answer_piece-answered.new.line.items pieces put c.loop-read._read c.loop-read.invariant.progress.1 (omega (arith, c.in-Ok-read.ensures.bound.1, not_none c.in-Ok-read.count c.if-count-eq0.false));
      none = c.clear.ensures.items;
      kept = holds_if_ok c.answer_piece-answered.result answered c.answer_piece-answered.ensures.room;
      room = c.read.auto.into ∙ c.loop-read.invariant.room;
      read_steady = c.in-Ok-read.ensures.cause.steady ∙ c.loop-read.invariant.read_steady;
      write_steady = cause_done (g.K.Sink.faults c.loop-read.sink) (g.K.Sink.faults c.put_text.new.sink) c.put_text.result done c.put_text.ensures.cause ∙ c.loop-read.invariant.write_steady;
      settled = inl (flushed_after g.K.Sink c.args.sink.now c.loop-read.sink c.put_text.new.sink c.loop-read.invariant.settled (holds_if_ok c.put_text.result done c.put_text.ensures.flushed));
    }

pub returns : goal.returns
returns g c =
    let so-far = c.loop-read.invariant.progress.0 in
    never_ended g.S.Source g.K.Sink c.args.command.now c.args.source.now c.loop-read.source c.args.sink.now c.loop-read.sink so-far.text so-far.read
    (ended_so_far c.args.command.now (g.S.Source.left c.args.source.now) (g.S.Source.left c.loop-read.source) (g.S.Source.left c.loop-read.source) (g.K.Sink.written c.args.sink.now) (g.K.Sink.written c.loop-read.sink) (g.K.Sink.written c.loop-read.sink) c.loop-read.line.items so-far)
    c.loop-read.invariant.read_steady c.loop-read.invariant.write_steady (omega (arith, c.loop-read.invariant.progress.1, c.loop-read-test.false)) c.loop-read.invariant.settled
