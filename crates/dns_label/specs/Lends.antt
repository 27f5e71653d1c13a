-- What a label that owns its octets ends as, when its contents were borrowed for writing.
use Rattle.std.specs.Prelude.{length}
use Rattle.std.specs.List.{refill}
use Rattle.std.specs.Borrow.{Lends, Fml, MutBor, Array, u8}
use Rattle.dns_wire.specs.Octets.{Octets}
use Rattle.dns_label.specs.declared.label_buf.LabelBuf.{LabelBuf}
use Rattle.dns_label.specs.contracts.label_buf.LabelBuf.{the_row}

-- once the borrow r ends, the contents are what r shows last; their number stays
abbrev pub LendsContents : MutBor LabelBuf → MutBor Octets → Fml
LendsContents s r = Lends the_row (Array u8 0) s r (refill (length s.now) s.now)
