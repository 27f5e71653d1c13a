use Rattle.std.proofs.Common.{◌≡◌, ◌+◌, ◌*◌, ◌≤◌, drop}
use Rattle.dns_denial.specs.KeyTags.{tag_sum}
use Rattle.dns_denial.proofs.tag.key_tag.Given as goal

abbrev pub invariant-loop-index : goal.invariant-loop-index
invariant-loop-index l = record {
  small : l.sum ≤ 65280 * l.index;
  so_far : l.sum + tag_sum l.index (drop l.index l.octets) ≡ tag_sum 0 l.octets;
}
