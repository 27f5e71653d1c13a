use Rattle.std.proofs.Common.{◌≡◌, ◌≤◌, filter, length, take}
use Rattle.dns_zonemd.specs.Verdicts.{same_kind}
use Rattle.dns_zonemd.proofs.verdict.count_kind.Given as goal

-- how many of the records so far are of the kind
abbrev pub invariant-loop-other : goal.invariant-loop-other
invariant-loop-other l = record { few : l.count ≤ l.other-index; counted : l.count ≡ length (filter (same_kind l.zonemd) (take l.other-index l.zonemds)) }
