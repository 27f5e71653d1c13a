-- The flags of an EDNS record.
use Rattle.std.specs.Prelude.{ℕ}
use Rattle.dns_edns.specs.declared.edns_flags.EdnsFlags.{EdnsFlags}

-- their 16 bits as a number
abbrev pub flag_bits : EdnsFlags → ℕ
flag_bits flags = flags.bits.value
