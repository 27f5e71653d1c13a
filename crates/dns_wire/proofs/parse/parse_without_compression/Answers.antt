use Rattle.std.proofs.Common.{◌≡◌, ◌-◌, take, drop, length, arith, length-drop}
use Rattle.std.proofs.lemmas.List.{take_all}
use Rattle.dns_wire.proofs.AtPlaces.{all_from}
use Rattle.dns_wire.proofs.parse.parse_without_compression.Goals as goal

pub returns : goal.returns
returns g c =
    let met : g.claim c.lifetimes = assumption c in
    let trailing = drop c.args.start c.args.contents.now in
    let all : take (length c.args.contents.now - c.args.start) trailing ≡ trailing = take_all _ trailing (omega (arith, length-drop c.args.start c.args.contents.now)) in
    rw (all_from g.T.ParseBytes.reads c.args.contents.now c.args.start ((g.met.T.ParseBytes c.lifetimes met).leaves_rest) c.if-contents-start.false) (rw all at c.parse_bytes.ensures)
