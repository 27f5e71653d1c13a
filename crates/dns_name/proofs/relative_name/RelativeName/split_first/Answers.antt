use Rattle.dns_wire.proofs.Backward.{FirstOfRelative, first_of_relative, empty_relative}
use Rattle.dns_name.proofs.relative_name.RelativeName.split_first.Goals as goal
use Rattle.dns_name.proofs.relative_name.RelativeName.split_first.Goals.{In-Some}

first : (c : In-Some) → FirstOfRelative c.args.self.now.slice.now c.in-Some.size.now c.in-Some.trailing.now
first c = first_of_relative _ _ _ c.args.self.now.are_labels c.in-Some.ensures.cases.0

pub returns-in_default : goal.returns-in_default
returns-in_default c = empty_relative _ c.args.self.now.are_labels c.in_default.ensures.cases

pub split_at-requires : goal.split_at-requires
split_at-requires c = (first (goal.at.split_at-requires c).In-Some).room

pub invariant_of-result : goal.invariant_of-result
invariant_of-result c = record { are_labels = rw c.split_at.ensures.back (first (goal.at.invariant_of-result c).In-Some).whole }

pub returns : goal.returns
returns c = rw (c.split_at.ensures.back, c.split_at.ensures.front) (first (goal.at.returns c).In-Some).labels
