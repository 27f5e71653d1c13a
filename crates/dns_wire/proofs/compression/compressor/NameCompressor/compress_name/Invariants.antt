use Rattle.std.proofs.Common.{◌≡◌, take, length}
use Rattle.dns_wire.specs.Compression.{longest_recorded}
use Rattle.dns_wire.specs.Names.{name_labels}
use Rattle.dns_wire.proofs.Longest.{prefix_of}
use Rattle.dns_wire.proofs.compression.compressor.NameCompressor.compress_name.Given as goal

abbrev pub invariant-loop-place : goal.invariant-loop-place
invariant-loop-place l = record {
  best : l.best ≡ longest_recorded l.contents (take l.place-index l.place-items) 0 (name_labels l.name);
  prefix : l.prefix ≡ prefix_of (length l.name) l.best;
}
