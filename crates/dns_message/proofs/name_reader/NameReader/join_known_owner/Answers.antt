use Rattle.std.proofs.Common.{◌≡◌, ◌+◌, List, ℕ, arith, take}
use Rattle.dns_message.specs.OwnerKeys.{owner_key}
use Rattle.dns_message.proofs.KnownNameLemmas.{held_key, joined_found, joined_found_key, joined_read, key_put, known_whole}
use Rattle.dns_message.proofs.LastOwners.{canonical_lowercase, canonical_name}
use Rattle.dns_message.proofs.name_reader.NameReader.join_known_owner.Goals as goal

pub put_owner_key-requires-clause-name : goal.put_owner_key-requires-clause-name
put_owner_key-requires-clause-name c =
    let own = c.requires.own in
    canonical_name (take (c.args.own.size + 1) c.args.octets.now) own.0 own.1 own.3

pub put_owner_key-requires-clause-lowercase : goal.put_owner_key-requires-clause-lowercase
put_owner_key-requires-clause-lowercase c =
    let own = c.requires.own in
    canonical_lowercase (take (c.args.own.size + 1) c.args.octets.now) own.0 own.1 own.3

-- ---- after a name with its key

pub join_owner-requires-clause-own : goal.join_owner-requires-clause-own
join_owner-requires-clause-own c =
    let own = c.requires.own in
    canonical_name (take (c.args.own.size + 1) c.args.octets.now) own.0 own.1 own.3

pub join_owner-requires-clause-lowercase : goal.join_owner-requires-clause-lowercase
join_owner-requires-clause-lowercase c =
    let own = c.requires.own in
    canonical_lowercase (take (c.args.own.size + 1) c.args.octets.now) own.0 own.1 own.3

pub returns-in-Some-key-clause-read : goal.returns-in-Some-key-clause-read
returns-in-Some-key-clause-read c =
    let base = c.in_ok-base.base.now in
    let known = rw c.self.view_is at (known_whole c.self.inside.targets c.in-Some.target base (c.in_ok-base.ensures.known c.self.inside.targets c.self.invariant.1)) in
    joined_found c.args.self.now c.args.start c.in-Some.target c.args.own c.args.octets.now c.join_owner.new.octets base c.join_owner.result c.requires.own c.in-Some.is known c.join_owner.ensures.span c.join_owner.ensures.octets

pub returns-in-Some-key-clause-key : goal.returns-in-Some-key-clause-key
returns-in-Some-key-clause-key c =
    let base = c.in_ok-base.base.now in
    let known = rw c.self.view_is at (known_whole c.self.inside.targets c.in-Some.target base (c.in_ok-base.ensures.known c.self.inside.targets c.self.invariant.1)) in
    let base_key : List ℕ = c.in-Some-key.base_key in
    let is_key : take base.size base_key ≡ owner_key known.0 = held_key base known.0 base_key known.3 c.in-Some-key.is in
    joined_found_key c.args.self.now c.args.start c.in-Some.target c.args.own c.args.octets.now c.join_owner.new.octets base_key c.join_owner.new.key base c.join_owner.result c.requires.own c.in-Some.is known is_key
    c.join_owner.ensures.span c.join_owner.ensures.octets c.join_owner.ensures.key

-- ---- after a name without a key

pub returns-clause-read : goal.returns-clause-read
returns-clause-read c =
    let base = c.in_ok-base.base.now in
    let known = rw c.self.view_is at (known_whole c.self.inside.targets c.in-Some.target base (c.in_ok-base.ensures.known c.self.inside.targets c.self.invariant.1)) in
    joined_read c.args.self.now c.args.start c.in-Some.target c.args.own c.args.octets.now c.join.new.octets base c.in_ok-span.span c.requires.own c.in-Some.is known c.in_ok-span.ensures.span c.in_ok-span.ensures.octets

pub put_owner_key-requires-2-clause-name : goal.put_owner_key-requires-2-clause-name
put_owner_key-requires-2-clause-name c =
    let base = c.in_ok-base.base.now in
    let known = rw c.self.view_is at (known_whole c.self.inside.targets c.in-Some.target base (c.in_ok-base.ensures.known c.self.inside.targets c.self.invariant.1)) in
    let read = joined_read c.args.self.now c.args.start c.in-Some.target c.args.own c.args.octets.now c.join.new.octets base c.in_ok-span.span c.requires.own c.in-Some.is known c.in_ok-span.ensures.span c.in_ok-span.ensures.octets in
    canonical_name (take c.in_ok-span.span.size c.join.new.octets) read.0 read.2 read.4

pub put_owner_key-requires-2-clause-lowercase : goal.put_owner_key-requires-2-clause-lowercase
put_owner_key-requires-2-clause-lowercase c =
    let base = c.in_ok-base.base.now in
    let known = rw c.self.view_is at (known_whole c.self.inside.targets c.in-Some.target base (c.in_ok-base.ensures.known c.self.inside.targets c.self.invariant.1)) in
    let read = joined_read c.args.self.now c.args.start c.in-Some.target c.args.own c.args.octets.now c.join.new.octets base c.in_ok-span.span c.requires.own c.in-Some.is known c.in_ok-span.ensures.span c.in_ok-span.ensures.octets in
    canonical_lowercase (take c.in_ok-span.span.size c.join.new.octets) read.0 read.2 read.4

pub returns-clause-key : goal.returns-clause-key
returns-clause-key c =
    key_put c.join.new.octets c.put_owner_key-2.new.key c.in_ok-span.span.size (omega (arith, c.in_ok-span.ensures.span.1, c.join.ensures.room)) c.put_owner_key-2.ensures.key
