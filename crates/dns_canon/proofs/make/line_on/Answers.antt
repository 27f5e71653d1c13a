use Rattle.std.proofs.Common.{ap, filter, subst, sym, ◌∙◌, arith, length}
use Rattle.std.proofs.lemmas.List.{length-map}
use Rattle.std.specs.List.{concat}
use Rattle.std.proofs.lemmas.Result.{err_from_is_err_and}
use Rattle.dns_message.specs.Canonical.{is_not_opt}
use Rattle.dns_message.specs.Order.{canonical_list, octets_of_key}
use Rattle.dns_message.specs.Messages.{Valid}
use Rattle.dns_message.proofs.Exclusive.{memory_alone}
use Rattle.dns_canon.specs.Generated.{generated}
use Rattle.dns_canon.proofs.MadeLemmas.{all_made, concat_long, valid_made, printed_so}
use Rattle.dns_canon.proofs.make.line_on.Goals as goal

pub returns-in_err-forms-clause-err : goal.returns-in_err-forms-clause-err
returns-in_err-forms-clause-err c =
    let p = err_from_is_err_and c.from_residual.result c.from_residual.ensures.1 in
    let octets = c.as_bytes-message.ensures ∙ c.message.ensures.octets in
    let valid = valid_made c.args.count c.args.builder.now c.requires.made in
    let memory = memory_alone c.as_bytes-message.result.now valid.0 _ (subst (λ m. Valid m valid.0) (sym octets) valid.1) c.in_err-forms.ensures.refused in
    rw (p.1, p.2) memory

pub returns-clause-ok : goal.returns-clause-ok
returns-clause-ok c =
    let found = c.in_ok-forms.ensures.read in
    let octets = c.as_bytes-message.ensures ∙ c.message.ensures.octets in
    let all = all_made c.args.count c.args.builder.now found.0 c.requires.made (subst (λ m. Valid m found.0) octets found.1) in
    let list = c.in_ok-order.ensures.octets (filter is_not_opt found.0) found.2 ∙ all.0 in
    ap (λ v. v.items) c.into_bytes.ensures.value ∙ c.in_ok-line.ensures.ok ∙ printed_so c.args.count c.len.result c.octet_count.result (length c.as_bytes-message.result.now)
    (omega (arith, c.len.ensures, length-map c.in_ok-order.order octets_of_key, ap length list))
    (c.octet_count.ensures.octets ∙ ap (λ l. length (concat l)) list ∙ concat_long (canonical_list (generated c.args.count))) (ap length octets ∙ all.1)
