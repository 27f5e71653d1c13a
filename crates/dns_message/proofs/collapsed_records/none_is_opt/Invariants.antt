use Rattle.std.proofs.Common.{◌≡◌, true, take}
use Rattle.std.specs.List.{All}
use Rattle.dns_message.specs.Canonical.{is_not_opt}
use Rattle.dns_message.proofs.collapsed_records.none_is_opt.Given as goal

-- the records so far are of other types than OPT
abbrev pub invariant-loop-record : goal.invariant-loop-record
invariant-loop-record l = All (λ r. is_not_opt r ≡ true) (take l.record-index l.records)
