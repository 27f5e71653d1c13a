use Rattle.std.proofs.Common.{arith, refl}
use Rattle.dns_lines.proofs.LineLemmas.{kept_room}
use Rattle.dns_lines.proofs.line.extend_line.Goals as goal

pub returns : goal.returns
returns c =
    kept_room 131073 c.min.result c.len-room.result c.args.line.now.items c.args.piece.now _ c.extend_from_slice.new.self.items c.extend_from_slice.result (omega (arith, c.requires, c.args.line.now.ok))
    (omega (arith, c.len-room.ensures, c.args.line.now.ok)) c.min.ensures refl c.extend_from_slice.ensures.items
