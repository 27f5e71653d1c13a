use Rattle.std.proofs.Common.{◌++◌, ◌∷◌, [], arith, length-append}
use Rattle.std.proofs.lemmas.Iterator.Consumers.{YieldsList-from_first, count_from_yields_List}
use Rattle.dns_wire.specs.Names.{name_labels}
use Rattle.dns_denial.proofs.signed.label_count.Goals as goal

pub returns : goal.returns
returns c =
    let labels = name_labels c.args.name.slice.now in
    let counted = count_from_yields_List c.labels.result _ c.count.ensures.ran (YieldsList-from_first _ _ (labels ++ [] ∷ []) c.labels.ensures.labels) in
    omega (arith, counted, length-append labels ([] ∷ []))
