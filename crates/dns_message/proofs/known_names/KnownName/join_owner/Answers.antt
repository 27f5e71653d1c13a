use Rattle.std.proofs.Common.{◌≡◌, ◌≤◌, ◌+◌, ◌-◌, ◌∙◌, ◌++◌, List, ℕ, ap, arith, drop, length, sym, take}
use Rattle.std.proofs.lemmas.List.{drop_at, length-drop, length-take, take-append-le}
use Rattle.dns_wire.specs.Names.{name_labels}
use Rattle.dns_message.specs.OwnerKeys.{owner_key}
use Rattle.dns_message.proofs.KnownNameLemmas.{key_after, with_size}
use Rattle.dns_message.proofs.known_names.KnownName.join_owner.Goals as goal

pub returns-clause-key : goal.returns-clause-key
returns-clause-key c =
    let name = c.args.self.now in
    let more : ℕ = c.args.own.size in
    let size : ℕ = more + 1 in
    let base : ℕ = name.size in
    let before : ℕ = base - 1 in
    let old : List ℕ = c.args.key.now in
    let front : List ℕ = take base c.args.name_key.now in
    let octets : List ℕ = take size c.args.octets.now in
    let owner : List ℕ = owner_key (name_labels octets) in
    let own : List ℕ = c.put_owner_key.new.key in
    let rest : List ℕ = drop (length old - before) (drop before old) in
    let key : List ℕ = take before old ++ (own ++ rest) in
    let sizes = c.requires.size in
    let room = c.requires.room in
    let front_long : length front ≡ base = c.requires.name_key in
    let octets_long : length octets ≡ size = omega (arith, length-take size c.args.octets.now, sizes.0, room.0) in
    let own_long : length own ≡ length old - before = omega (arith, c.put_owner_key.ensures.long, length-take (length old - before) (drop before old), length-drop before old) in
    let first : length (take before old) ≡ before = omega (arith, length-take before old, sizes.2, room.1) in
    let fits : size ≤ length own = omega (arith, own_long, room.1, c.if-own-self-gt-MAX_SIZE.false, sizes) in
    let put : take size own ≡ owner = ap (λ n. take n own) (sym octets_long) ∙ c.put_owner_key.ensures.key in
    let there : take (more + 1) (drop before key) ≡ owner =
    ap (take size) (drop_at (take before old) (own ++ rest) before first) ∙ take-append-le size own rest fits ∙ put in
    let owner_long : length owner ≡ more + 1 = omega (arith, ap length put, length-take size own, fits) in
    let count : 0 + length front ≡ base = omega (arith, front_long) in
    let exact : c.copy_at.new.buffer ≡ front ++ drop base key = c.copy_at.ensures.exact ∙ ap (λ n. front ++ drop n key) count in
    with_size c.join.result more base c.copy_at.new.buffer (front ++ drop 1 owner) c.args.own.end c.join.ensures.span
    (ap (take (base + more)) exact ∙ key_after front owner key base more sizes.1 front_long owner_long there)
