use Rattle.std.proofs.Common.{◌≡◌, ◌-◌, length, take, drop, sym, ◌∙◌, subst, arith}
use Rattle.std.proofs.lemmas.List.{take_all, length-drop}
use Rattle.dns_message.specs.Seen.{record_value, BeginsEdns}
use Rattle.dns_message.proofs.EdnsLemmas.{headed, last_item, edns_there}
use Rattle.dns_message.proofs.item.read_additional.Goals as goal

pub returns-in_err-edns-clause-exact : goal.returns-in_err-edns-clause-exact
returns-in_err-edns-clause-exact c =
    let k = c.in_ok-form in
    let read = last_item c.args.contents.now c.args.start (record_value k.form) k.end k.ensures.exact in
    let rest = drop c.args.start c.args.contents.now in
    let whole : take (length c.args.contents.now - c.args.start) rest ≡ rest = take_all _ rest (omega (arith, length-drop c.args.start c.args.contents.now)) in
    let begins : BeginsEdns rest = subst BeginsEdns whole (c.begins_edns.ensures.0 c.if-begins_edns.true) in
    let head = headed c.args.contents.now c.args.start (record_value k.form) k.end read begins in
    let there = edns_there k.form head.0 head.1 k.ensures.sound.0 in
    let none = sym c.in_err-edns.ensures ∙ there.1 in absurd cc
