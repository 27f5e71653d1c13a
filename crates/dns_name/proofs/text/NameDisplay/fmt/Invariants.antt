use Rattle.std.proofs.Common.{◌≡◌, ℕ, List, ◌++◌}
use Rattle.std.specs.Fmt.{HasWritten, IsPlainFormatter}
use Rattle.dns_name.specs.Text.{shown_name}
use Rattle.dns_name.proofs.text.NameDisplay.fmt.Given as goal

-- the labels so far are written
abbrev pub invariant-loop-label : goal.invariant-loop-label
invariant-loop-label g l =
    IsPlainFormatter l.initial.f
    → (done : List ℕ) × HasWritten g.W.Write.write_str_gives l.initial.f done l.f × (done ++ shown_name l.label-iterator ≡ shown_name l.initial.label-iterator)
