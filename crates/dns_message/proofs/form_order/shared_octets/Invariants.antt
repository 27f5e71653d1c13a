use Rattle.std.proofs.Common.{◌≤◌, length, take}
use Rattle.std.specs.List.{All}
use Rattle.dns_message.specs.Fronts.{BeginsWith}
use Rattle.dns_message.proofs.form_order.shared_octets.Given as goal

-- the keys so far begin alike
abbrev pub invariant-loop-form : goal.invariant-loop-form
invariant-loop-form l = record {
  within : l.shared ≤ length l.key;
  same : All (BeginsWith (take l.shared l.key) l.shared) (take l.form-index l.forms);
}
