-- Serial numbers: 32 bits that begin again at 0 (RFC 1982).
use Rattle.std.specs.Prelude.{ℕ, ◌+◌, ◌-◌, ◌%◌, ◌^◌, ◌==◌, nat_lt, Option, Some, None, if◌then◌else◌}
use Rattle.std.specs.declared.cmp.Ordering.{Ordering}
use Rattle.std.specs.declared.cmp.Ordering.TheVariants.{Less, Equal, Greater}

-- how far the second is ahead of the first
abbrev pub serial_ahead : ℕ → ℕ → ℕ
serial_ahead a b = (b + 2 ^ 32 - a) % 2 ^ 32

-- The first is less if the second is ahead by less than half of all numbers, and greater if it is by more. If it is
-- by half of them, neither is (RFC 1982 section 3.2).
abbrev pub serial_cmp : ℕ → ℕ → Option Ordering
serial_cmp a b =
    if serial_ahead a b == 0 then Some Equal
    else if nat_lt (serial_ahead a b) (2 ^ 31) then Some Less
    else if serial_ahead a b == 2 ^ 31 then None
    else Some Greater
