use Rattle.std.proofs.Common.{◌≡◌, drop, length}
use Rattle.std.specs.Prelude.{nat_eq}
use Rattle.std.specs.Cmp.Lexicographic.{pointwise}
use Rattle.std.specs.Ordering.{on}
use Rattle.dns_message.specs.Order.{octets_of_key}
use Rattle.dns_message.proofs.canonical_list.have_same_octets.Given as goal

-- what is left decides
abbrev pub invariant-loop-form : goal.invariant-loop-form
invariant-loop-form l = pointwise (on octets_of_key (pointwise nat_eq)) (drop (length l.yielded) l.forms) (drop (length l.yielded) l.others) ≡ pointwise (on octets_of_key (pointwise nat_eq)) l.forms l.others
