use Rattle.std.proofs.Common.{[], ◌∷◌, arith, filter, sym, subst}
use Rattle.dns_wire.specs.Pointers.{name_at}
use Rattle.dns_record.specs.Data.{data_in}
use Rattle.dns_message.specs.Canonical.{is_not_opt}
use Rattle.dns_message.specs.Messages.{message_reading}
use Rattle.nelgvasti.specs.Calls.{AnswersOrMemory, reading_answer}
use Rattle.nelgvasti.specs.declared.answers.TheConstants.{DONE}
use Rattle.nelgvasti.proofs.Readings.{item_refusal, refused_answer, short_refusal, valid_answer}
use Rattle.nelgvasti.proofs.Sameness.{says_same}
use Rattle.nelgvasti.proofs.message.nelgvasti_same.Goals as goal

pub returns-in-Err-clause-short : goal.returns-in-Err-clause-short
returns-in-Err-clause-short c = short_refusal [] [] c.args.first.now (c.args.second.now ∷ []) tt c.in-Err.error c.refuse.result c.args.position.now c.refuse.new.self c.in-Err.ensures.refused c.refuse.ensures.answer c.refuse.ensures.position

pub returns-in-Err-clause-item : goal.returns-in-Err-clause-item
returns-in-Err-clause-item c = item_refusal [] [] c.args.first.now (c.args.second.now ∷ []) tt c.in-Err.error c.refuse.result c.args.position.now c.refuse.new.self c.in-Err.ensures.refused c.refuse.ensures.answer c.refuse.ensures.position

pub returns-in-Err-clause-expected : goal.returns-in-Err-clause-expected
returns-in-Err-clause-expected c = rw c.refuse.ensures.answer (refused_answer (data_in name_at) (λ rs. reading_answer (λ ss. DONE) (message_reading c.args.second.now)) c.args.first.now c.in-Err.error c.in-Err.ensures.refused)

pub returns-in-Err-read_forms-clause-short : goal.returns-in-Err-read_forms-clause-short
returns-in-Err-read_forms-clause-short c =
    let read = c.in-Ok.ensures.read in
    short_refusal (c.args.first.now ∷ []) (read.0 ∷ []) c.args.second.now [] (read.1, tt) c.in-Err-read_forms.error c.refuse-in-Err-read_forms.result c.args.position.now c.refuse-in-Err-read_forms.new.self c.in-Err-read_forms.ensures.refused c.refuse-in-Err-read_forms.ensures.answer
    c.refuse-in-Err-read_forms.ensures.position

pub returns-in-Err-read_forms-clause-item : goal.returns-in-Err-read_forms-clause-item
returns-in-Err-read_forms-clause-item c =
    let read = c.in-Ok.ensures.read in
    item_refusal (c.args.first.now ∷ []) (read.0 ∷ []) c.args.second.now [] (read.1, tt) c.in-Err-read_forms.error c.refuse-in-Err-read_forms.result c.args.position.now c.refuse-in-Err-read_forms.new.self c.in-Err-read_forms.ensures.refused c.refuse-in-Err-read_forms.ensures.answer
    c.refuse-in-Err-read_forms.ensures.position

pub returns-in-Err-read_forms-clause-expected : goal.returns-in-Err-read_forms-clause-expected
returns-in-Err-read_forms-clause-expected c =
    let read = c.in-Ok.ensures.read in
    subst (λ expected. AnswersOrMemory expected c.refuse-in-Err-read_forms.result)
    (sym (valid_answer (data_in name_at) (λ rs. reading_answer (λ ss. DONE) (message_reading c.args.second.now)) c.args.first.now read.0 read.1))
    (rw c.refuse-in-Err-read_forms.ensures.answer (refused_answer (data_in name_at) (λ ss. DONE) c.args.second.now c.in-Err-read_forms.error c.in-Err-read_forms.ensures.refused))

pub returns-clause-done : goal.returns-clause-done
returns-clause-done c = λ _.
    let read = c.in-Ok.ensures.read in
    let also = c.in-Ok-read_forms.ensures.read in
    let listed = c.in-Ok-collapsed.ensures.octets (filter is_not_opt read.0) read.2 in
    let listed-too = c.in-Ok-collapsed-2.ensures.octets (filter is_not_opt also.0) also.2 in
    let says =
    says_same c.args.first.now c.args.second.now read.0 also.0 _ _ c.are_same.result c.from.result (λ i. (let fits = c.type_inv.first i in omega (arith, fits)))
    (λ i. (let fits = c.type_inv.second i in omega (arith, fits))) read.1 also.1 listed listed-too c.are_same.ensures c.from.ensures in
    (read.0, also.0, read.1, also.1, says)
