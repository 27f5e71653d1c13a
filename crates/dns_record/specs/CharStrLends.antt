-- What a character string that owns its octets ends as, when they were borrowed for writing.
use Rattle.std.specs.Prelude.{length}
use Rattle.std.specs.List.{refill}
use Rattle.std.specs.Borrow.{Lends, Fml, MutBor, Array, u8}
use Rattle.dns_wire.specs.Octets.{Octets}
use Rattle.dns_record.specs.declared.charstr_buf.CharStrBuf.{CharStrBuf}
use Rattle.dns_record.specs.contracts.charstr_buf.CharStrBuf.{the_row}

-- once the borrow r ends, the octets are what r shows last; their number stays
abbrev pub LendsOctets : MutBor CharStrBuf → MutBor Octets → Fml
LendsOctets s r = Lends the_row (Array u8 0) s r (refill (length s.now) s.now)
