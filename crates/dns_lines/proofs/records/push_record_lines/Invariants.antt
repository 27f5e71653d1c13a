use Rattle.std.proofs.Common.{◌≡◌, ◌++◌, flat_map, take}
use Rattle.dns_lines.specs.Records.{record_part}
use Rattle.dns_lines.proofs.records.push_record_lines.Given as goal

-- the lines of the records so far
abbrev pub invariant-loop-form : goal.invariant-loop-form
invariant-loop-form l = l.text.items ≡ l.initial.text.items ++ flat_map (record_part l.apex) (take l.form-index l.forms)
