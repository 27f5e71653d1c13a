use Rattle.dns_message.proofs.LastOwners.{owner_ends, owner_read}
use Rattle.dns_message.proofs.OwnerFirst.{name_later}
use Rattle.dns_message.proofs.last_owner.LastOwner.read.Goals as goal

pub is_repeated-requires : goal.is_repeated-requires
is_repeated-requires c = λ some. rw (← c.contents-contents.ensures.value) at (owner_ends c.args.names.now c.args.self.now c.requires some)

pub returns-then-is_repeated-clause-read : goal.returns-then-is_repeated-clause-read
returns-then-is_repeated-clause-read c =
    let o = c.args.self.now in
    let contents = c.args.names.now in
    let repeated = rw c.contents-contents.ensures.value at (c.is_repeated.ensures.repeated c.if-is_repeated.true) in
    let was = c.requires repeated.0 in
    let there = name_later contents o.start c.args.start was.0 o.end was.1 repeated.1 repeated.2 repeated.3 in
    (λ _. (was.0, there, was.2), (was.0, there, was.2))

pub returns-clause-read : goal.returns-clause-read
returns-clause-read c =
    let span = c.in-Some.span in
    let name = rw c.in-Some.is at c.in_ok-span.ensures.read in
    let key-is = rw c.in-Some.is at c.in_ok-span.ensures.key in
    let has = owner_read (record { start = c.args.start; end = span.end; size = span.size; octets = c.read_owner.new.octets; key = c.read_owner.new.key }) name.0 name.2 name.3 name.4 key-is in
    (λ _. (name.0, name.1, has), (name.0, name.1, has))
