use Rattle.std.proofs.Common.{arith}
use Rattle.std.proofs.lemmas.Result.{err_from_is_err_and}
use Rattle.dns_command.proofs.NoteLines.{prefix_line, puts_line}
use Rattle.dns_command.proofs.notice.put_line.Goals as goal

pub returns-in_err-put_number-clause-puts : goal.returns-in_err-put_number-clause-puts
returns-in_err-put_number-clause-puts g c =
    let p = err_from_is_err_and c.from_residual-in_err-put_number.result c.from_residual-in_err-put_number.ensures.1 in
    rw p.1 (prefix_line _ _ _ c.args.word.now c.args.numbers.now c.loop-number.number-index c.loop-number-test.true c.loop-number.invariant.reported c.in_err-put_number.ensures.puts)

pub returns-clause-puts : goal.returns-clause-puts
returns-clause-puts g c =
    puts_line _ _ _ c.args.word.now c.args.numbers.now c.loop-number.number-index c.put_all-2.result (omega arith) c.loop-number.invariant.reported c.put_all-2.ensures.puts
