use Rattle.std.proofs.Common.{◌≡◌, length, take}
use Rattle.dns_message.proofs.LowercasedFields.{ReadAndKept}
use Rattle.dns_message.proofs.lowercase_fields.push_fields.Given as goal

-- the fields so far are there
abbrev pub invariant-loop-kind : goal.invariant-loop-kind
invariant-loop-kind l = record {
  names : l.names ≡ l.initial.names;
  room : length l.buffer ≡ 255;
  read : ReadAndKept (take l.end l.initial.names) l.start l.kinds l.initial.rdata.items l.kind-index l.copied l.at l.rdata.items;
}
