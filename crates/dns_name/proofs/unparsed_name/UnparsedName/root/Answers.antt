use Rattle.std.proofs.Common.{[], Some, None, sym, ap, ◌∙◌}
use Rattle.dns_name.proofs.UnparsedNames.{unparsed_again, root_is_unparsed}
use Rattle.dns_name.proofs.unparsed_name.UnparsedName.root.Goals as goal

pub invariant_of-result : goal.invariant_of-result
invariant_of-result c = let again = unparsed_again ([], None) root_is_unparsed in record { is_name = again.0 ∙ ap Some (sym again.1) }

pub returns : goal.returns
returns c = (unparsed_again ([], None) root_is_unparsed).1
