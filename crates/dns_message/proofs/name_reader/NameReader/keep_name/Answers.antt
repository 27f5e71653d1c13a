use Rattle.std.proofs.Common.{◌≡◌, ◌≤◌, ◌∙◌, List, ℕ, ap, arith, length, refl, sym, take}
use Rattle.dns_message.specs.declared.known_names.KnownName.{KnownName}
use Rattle.dns_message.proofs.KnownNameLemmas.{known_name}
use Rattle.dns_message.proofs.LastOwners.{canonical_lowercase, canonical_name}
use Rattle.dns_message.proofs.name_reader.NameReader.keep_name.Goals as goal

pub key_if-key-requires-clause-name : goal.key_if-key-requires-clause-name
key_if-key-requires-clause-name c =
    let name = rw c.in-Some.is at c.in_ok-span.ensures.read in
    canonical_name (take c.in-Some.span.size c.read_whole_name.new.buffer) name.0 name.2 name.4

pub key_if-key-requires-clause-lowercase : goal.key_if-key-requires-clause-lowercase
key_if-key-requires-clause-lowercase c =
    let name = rw c.in-Some.is at c.in_ok-span.ensures.read in
    canonical_lowercase (take c.in-Some.span.size c.read_whole_name.new.buffer) name.0 name.2 name.4

pub invariant_of-self : goal.invariant_of-self
invariant_of-self c =
    let contents : List ℕ = c.self.inside.targets in
    let same : c.args.self.now ≡ contents = sym (c.self.view_is ∙ c.read_whole_name.ensures.unchanged) in
    let read = rw (c.in-Some.is, same) at c.in_ok-span.ensures.read in
    let within : c.args.bound ≤ length contents = omega (arith, c.requires, ap length same) in
    let name : KnownName = record { target = c.args.target; bound = c.args.bound; size = c.in-Some.span.size; octets = c.read_whole_name.new.buffer; key = c.key_if-key.result } in
    (c.self.invariant.0, c.keep.ensures.known contents c.self.invariant.1 (known_name contents c.args.target name c.in-Some.span within read refl c.key_if-key.ensures))
