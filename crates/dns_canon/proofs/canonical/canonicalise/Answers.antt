use Rattle.std.proofs.Common.{◌∙◌, ap, filter, inl, inr, map, Err}
use Rattle.std.proofs.lemmas.Result.{err_from_is_err_and}
use Rattle.dns_message.specs.Canonical.{is_not_opt}
use Rattle.dns_message.specs.Order.{octets_of_key}
use Rattle.dns_message.proofs.Exclusive.{memory_alone, that_or_memory, refused_not_valid}
use Rattle.dns_canon.proofs.canonical.canonicalise.Goals as goal

pub returns-in_err-forms-clause-valid : goal.returns-in_err-forms-clause-valid
returns-in_err-forms-clause-valid c =
    let p = err_from_is_err_and c.from_residual.result c.from_residual.ensures.1 in
    rw (p.1, p.2) (λ rs valid. ap Err (memory_alone c.args.message.now rs _ valid c.in_err-forms.ensures.refused))

pub returns-in_err-forms-clause-exactly : goal.returns-in_err-forms-clause-exactly
returns-in_err-forms-clause-exactly c =
    let p = err_from_is_err_and c.from_residual.result c.from_residual.ensures.1 in
    rw (p.1, p.2) (λ error refused. elim (that_or_memory c.args.message.now _ error c.in_err-forms.ensures.refused refused) [ inl same ↦ inl (ap Err same) | inr memory ↦ inr (ap Err memory) ])

pub returns-clause-ok : goal.returns-clause-ok
returns-clause-ok c =
    let read = c.in_ok-forms.ensures.read in
    (read.0, read.1, c.in_ok-lists.ensures ∙ ap (map octets_of_key) c.forms-2.ensures ∙ c.in_ok-order.ensures.octets (filter is_not_opt read.0) read.2)

pub returns-clause-exactly : goal.returns-clause-exactly
returns-clause-exactly c = λ error refused. absurd (refused_not_valid c.args.message.now _ error c.in_ok-forms.ensures.read.1 refused)
