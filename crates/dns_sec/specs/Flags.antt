-- The flags of a key.
use Rattle.std.specs.Prelude.{ℕ}
use Rattle.dns_sec.specs.declared.dnskey_flags.DNSKeyFlags.{DNSKeyFlags}

-- their 16 bits as a number
abbrev pub key_flag_bits : DNSKeyFlags → ℕ
key_flag_bits flags = flags.bits.value
