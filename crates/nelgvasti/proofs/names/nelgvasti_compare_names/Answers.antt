use Rattle.std.proofs.Common.{◌∙◌, ap, inl, inr}
use Rattle.dns_wire.specs.Names.{name_labels}
use Rattle.nelgvasti.specs.Calls.{order_number}
use Rattle.nelgvasti.proofs.NameLemmas.{named, nameless, number_kept}
use Rattle.nelgvasti.proofs.names.nelgvasti_compare_names.Goals as goal

pub returns-in_default-clause-usage : goal.returns-in_default-clause-usage
returns-in_default-clause-usage c = λ _. inl (nameless c.args.first.now c.in_default.ensures)

pub returns-in_default-parse_bytes-clause-usage : goal.returns-in_default-parse_bytes-clause-usage
returns-in_default-parse_bytes-clause-usage c = λ _. inr (nameless c.args.second.now c.in_default-parse_bytes.ensures)

pub returns-clause-done : goal.returns-clause-done
returns-clause-done c = λ _.
    let first = name_labels c.in-Ok.first.slice.now in
    let second = name_labels c.in-Ok-parse_bytes.second.slice.now in (
      first,
      second,
      named c.args.first.now first c.in-Ok.ensures,
      named c.args.second.now second c.in-Ok-parse_bytes.ensures,
      number_kept c.cmp.result c.order_number.result c.order_number.ensures ∙ ap order_number c.cmp.ensures,
    )
