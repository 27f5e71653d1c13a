use Rattle.std.proofs.Common.{◌∙◌, ◌++◌, ap, arith}
use Rattle.std.proofs.lemmas.Result.{err_from_is_err_and}
use Rattle.dns_text.specs.Hexadecimal.{line}
use Rattle.dns_message.specs.Order.{octets_of_key}
use Rattle.dns_canon.proofs.HeldLines.{holds_more, holds_one, lines_prefix, lines_put, still_known}
use Rattle.dns_canon.proofs.lines.put_forms.Goals as goal
use Rattle.dns_canon.proofs.lines.put_forms.Goals.{then-room-octets+in_ok-put_all, else-room-octets}

pub returns-in_err-put_all-clause-puts : goal.returns-in_err-put_all-clause-puts
returns-in_err-put_all-clause-puts g c =
    let p = err_from_is_err_and c.from_residual.result c.from_residual.ensures.1 in
    let reported = c.loop-form.invariant.reported in
    rw p.1 (lines_prefix c.args.forms.now octets_of_key _ _ _ reported.0 _ c.loop-form.form-index reported.1 (ap (λ l. reported.0 ++ l) c.held.ensures ∙ reported.2) c.in_err-put_all.ensures.puts)

pub loop-form-preserved : goal.loop-form-preserved
loop-form-preserved g c =
    let rs = c.args.forms.now in
    let i = c.loop-form.form-index in
    let reported = c.loop-form.invariant.reported in
    let octets = line c.octets-octets.result.now in
    elim c.if-room-octets.branch [
      | then-room-octets+in_ok-put_all w ↦ rw (w.sink-is) record {
        reported = holds_one rs octets_of_key _ _ _ reported.0 _ _ i c.form-item.result c.loop-form-test.true c.form-item.is reported.1 (ap (λ l. reported.0 ++ l) w.held.ensures ∙ reported.2) w.in_ok-put_all.ensures.puts
            (rw c.octets-octets.ensures.octets at (c.hold.ensures ∙ ap (λ l. l ++ octets) (w.buffer-is ∙ w.clear.ensures)));
        flag = still_known _ _ _ c.loop-form.invariant.flag w.in_ok-put_all.ensures.flag;
        steady = w.in_ok-put_all.ensures.cause.steady ∙ c.loop-form.invariant.steady;
      }
      | else-room-octets w ↦ rw (w.sink-is) record {
        reported = holds_more rs octets_of_key _ _ reported.0 _ _ i c.form-item.result c.loop-form-test.true c.form-item.is reported.1 reported.2 (rw c.octets-octets.ensures.octets at (c.hold.ensures ∙ ap (λ l. l ++ octets) w.buffer-is));
        flag = c.loop-form.invariant.flag;
        steady = c.loop-form.invariant.steady;
      }
    ]

pub returns-clause-puts : goal.returns-clause-puts
returns-clause-puts g c =
    let reported = c.loop-form.invariant.reported in
    lines_put c.args.forms.now octets_of_key _ _ _ reported.0 _ c.loop-form.form-index c.put_text.result (omega arith) reported.1 (ap (λ l. reported.0 ++ l) c.held-2.ensures ∙ reported.2) c.put_text.ensures.puts
