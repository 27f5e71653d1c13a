use Rattle.nelgvasti.proofs.Readings.{form_item, form_short}
use Rattle.nelgvasti.proofs.normal.nelgvasti_normal.Goals as goal

pub returns-in-Err-clause-short : goal.returns-in-Err-clause-short
returns-in-Err-clause-short c = form_short c.args.message.now c.in-Err.error c.refuse_form.result c.args.position.now c.refuse_form.new.position c.in-Err.ensures.refused c.refuse_form.ensures.answer c.refuse_form.ensures.position

pub returns-in-Err-clause-item : goal.returns-in-Err-clause-item
returns-in-Err-clause-item c = form_item c.args.message.now c.in-Err.error c.refuse_form.result c.args.position.now c.refuse_form.new.position c.in-Err.ensures.refused c.refuse_form.ensures.answer c.refuse_form.ensures.position
