use Rattle.std.proofs.Common.{◌≡◌, ◌≤◌, ◌+◌, length, Some}
use Rattle.dns_wire.specs.Reading.{all_of}
use Rattle.dns_wire.specs.Names.{plain_name, name_labels}
use Rattle.dns_wire.specs.Searching.{suffix_at}
use Rattle.dns_wire.proofs.compression.suffix.suffix_before.Given as goal

abbrev pub invariant-loop-left : goal.invariant-loop-left
invariant-loop-left l = record {
  whole : all_of (plain_name l.rest) ≡ Some (name_labels l.rest);
  size : l.prefix + length l.rest ≡ length l.name;
  short : length l.name ≤ 255;
  left : l.left ≡ length (name_labels l.rest);
  enough : l.size ≤ l.left;
  same : suffix_at l.contents l.place l.prefix (name_labels l.rest) ≡ suffix_at l.contents l.place 0 (name_labels l.name);
}

abbrev pub decreases-loop-left : goal.decreases-loop-left
decreases-loop-left l = l.left
