use Rattle.std.proofs.Common.{◌≡◌, ◌++◌, ℕ, flat_map, take}
use Rattle.dns_wire.specs.Octets.{Octets}
use Rattle.dns_zonemd.specs.Sums.{AreSums}
use Rattle.dns_zonemd.specs.Verdicts.{sums_text, verdict_line}
use Rattle.dns_zonemd.proofs.report.report_text.Given as goal

-- the lines for the sums and for the records so far
abbrev pub invariant-loop-zonemd : goal.invariant-loop-zonemd
invariant-loop-zonemd l =
    (records : ℕ) (stream : Octets) → AreSums records stream l.sums → l.text.items ≡ sums_text records stream ++ flat_map (verdict_line l.soas l.zonemds stream) (take l.zonemd-index l.zonemds)
