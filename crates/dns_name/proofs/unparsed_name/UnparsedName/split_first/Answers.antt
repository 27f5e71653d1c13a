use Rattle.std.proofs.Common.{arith, refl, ap, get_or}
use Rattle.dns_name.specs.Unparsed.{Unparsed}
use Rattle.dns_name.proofs.UnparsedNames.{FirstFound, first_label_type, first_standing, unparsed_size}
use Rattle.dns_name.proofs.unparsed_name.UnparsedName.split_first.Goals as goal
use Rattle.dns_name.proofs.unparsed_name.UnparsedName.split_first.Goals.{Else-size-ge-POINTER_TAG, then-size-eq0-via-then-size-eq0, then-size-eq0-via-else-size-eq0+then-size-ge-POINTER_TAG}

first : (c : Else-size-ge-POINTER_TAG) → FirstFound c.args.self.now.slice.now (get_or c.args.self.now.slice.now 0 0)
first c = first_standing _ _ c.args.self.now.is_name refl (omega arith) c.if-size-ge-POINTER_TAG.false

pub bounds-self-0 : goal.bounds-self-0
bounds-self-0 c = (unparsed_size _ _ c.args.self.now.is_name).0

pub returns-then-size-eq0 : goal.returns-then-size-eq0
returns-then-size-eq0 c =
    let first = first_label_type _ _ c.args.self.now.is_name in
    elim c.then-size-eq0.branch [
      | then-size-eq0-via-then-size-eq0 w ↦ ap (λ (n : Unparsed). n.0) (first.root w.if-size-eq0.true)
      | then-size-eq0-via-else-size-eq0+then-size-ge-POINTER_TAG w ↦ (first.pointer w.if-size-ge-POINTER_TAG.true).1
    ]

pub split_at-requires : goal.split_at-requires
split_at-requires c = (first (goal.at.split_at-requires c).Else-size-ge-POINTER_TAG).room

pub invariant_of-result : goal.invariant_of-result
invariant_of-result c = record { is_label = rw c.split_at.ensures.front (first (goal.at.invariant_of-result c).Else-size-ge-POINTER_TAG).is_label }

pub invariant_of-result-2 : goal.invariant_of-result-2
invariant_of-result-2 c = record { is_name = rw c.split_at.ensures.back (first (goal.at.invariant_of-result-2 c).Else-size-ge-POINTER_TAG).whole }

pub returns : goal.returns
returns c = rw (c.split_at.ensures.back, c.split_at.ensures.front) (first (goal.at.returns c).Else-size-ge-POINTER_TAG).name
