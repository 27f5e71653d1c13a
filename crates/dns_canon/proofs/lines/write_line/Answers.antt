use Rattle.std.proofs.Common.{arith, refl}
use Rattle.dns_canon.proofs.HeldLines.{line_written}
use Rattle.dns_canon.proofs.lines.write_line.Goals as goal

pub returns : goal.returns
returns c = line_written c.args.text.now c.args.octets.now c.put_hex_line.new.text _ c.args.start _ (omega (arith, c.requires)) refl c.put_hex_line.ensures
