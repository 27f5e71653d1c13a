use Rattle.std.proofs.Common.{◌≡◌, flat_map, take}
use Rattle.dns_denial.specs.KeyTags.{key_line}
use Rattle.dns_denial.proofs.message.key_tags_text.Given as goal

-- the lines of the records so far
abbrev pub invariant-loop-found : goal.invariant-loop-found
invariant-loop-found l = l.text.items ≡ flat_map key_line (take l.found-index l.forms)
