use Rattle.std.proofs.Common.{◌≤◌, List, ℕ, arith, take}
use Rattle.std.proofs.lemmas.List.{length-take}
use Rattle.dns_message.proofs.KnownNameLemmas.{joined_found, known_within}
use Rattle.dns_message.proofs.name_reader.NameReader.join_known.Goals as goal

pub returns-clause-read : goal.returns-clause-read
returns-clause-read c =
    let contents : List ℕ = c.self.inside.targets in
    let end : ℕ = c.args.end in
    let base = c.in_ok-base.base.now in
    let own = c.requires.own in
    let within : base.bound ≤ end = omega (arith, c.in_ok-base.ensures.within, own.4, own.5, length-take end c.args.self.now) in
    let known = rw c.self.view_is at (known_within contents c.in-Some.target end base (c.in_ok-base.ensures.known contents c.self.invariant.1) within) in
    joined_found (take end c.args.self.now) c.args.start c.in-Some.target c.args.own c.args.buffer.now c.join.new.octets base c.join.result own c.in-Some.is known c.join.ensures.span c.join.ensures.octets
