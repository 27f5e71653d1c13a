use Rattle.std.proofs.Common.{◌≡◌, ap, arith, length, take, take_all}
use Rattle.dns_message.proofs.QuestionEnds.{no_name_no_question, question_ends}
use Rattle.dns_message.proofs.name_reader.NameReader.end_of_question.Goals as goal

pub returns-in-Some-clause-end : goal.returns-in-Some-clause-end
returns-in-Some-clause-end c =
    let contents = c.args.self.now in
    let whole : take (length c.contents-contents.result.now) contents ≡ contents = take_all (length c.contents-contents.result.now) contents (omega (arith, ap length c.contents-contents.ensures.value)) in
    let name = rw (c.in-Some.is, whole) at c.in_ok-span.ensures.read in
    question_ends contents c.args.start c.in-Some.span.end name.0 c.question_end.result name.1 (rw c.contents-contents.ensures.value at c.question_end.ensures)

pub returns-in-None-clause-end : goal.returns-in-None-clause-end
returns-in-None-clause-end c =
    let contents = c.args.self.now in
    let whole : take (length c.contents-contents.result.now) contents ≡ contents = take_all (length c.contents-contents.result.now) contents (omega (arith, ap length c.contents-contents.ensures.value)) in
    no_name_no_question contents c.args.start (rw (c.in-None.is, whole) at c.in_ok-span.ensures.read)
