-- What prefixed data leave over, and where they end.
use Rattle.std.proofs.Common.{◌≡◌, ℕ, ◌+◌, ◌≤◌, Bool, true, false, cond, ltb, List, length, Option, Some, None, refl, subst, arith}
use Rattle.std.specs.Int.{Width}
use Rattle.std.proofs.lemmas.Bool.{ltb-false}
use Rattle.std.proofs.lemmas.Option.{some_pair_parts}
use Rattle.dns_wire.specs.ReadingLemmas.{then_some, follows_both, number_leaves, octets_leave, plain_ends}
use Rattle.dns_wire.specs.Reading.{Follows, LeavesRest, EndsWithin, number, octets, plain_at, all_of}
use Rattle.dns_num.specs.Prefixed.{prefixed, prefixed_at, all_up_to}

pub prefixed_leaves : {Y : Type 0} (w : Width) (grammar : List ℕ → Option (Y × List ℕ)) → LeavesRest (prefixed w grammar)
unfolding prefixed
prefixed_leaves w grammar bytes value rest e =
    let size = then_some (number w bytes) _ _ e in
    let content = then_some (octets size.0.0 size.0.1) _ _ size.2 in
    let read = then_some (all_of (grammar content.0.0)) _ _ content.2 in
    let same = some_pair_parts read.0 value content.0.1 rest read.2 in
    let first = number_leaves w bytes size.0.0 size.0.1 size.1 in
    let second = octets_leave size.0.0 size.0.1 content.0.0 content.0.1 content.1 in
    follows_both bytes size.0.1 rest first (subst (λ (l : List ℕ). Follows l size.0.1) same.1 second)

-- what is read up to an end, which is in the contents
up_to_within : {Y : Type 0} (b : Bool) (contents : List ℕ) (end : ℕ) (read : Option Y) (value : Y) → ltb (length contents) end ≡ b → cond b None read ≡ Some value → end ≤ length contents
up_to_within true contents end read value is e = absurd cc
up_to_within false contents end read value is e = ltb-false _ _ is

pub prefixed_ends : {Y : Type 0} (w : Width) (grammar : List ℕ → ℕ → Option (Y × ℕ)) → EndsWithin (prefixed_at w grammar)
unfolding prefixed_at
prefixed_ends w grammar contents at value end e =
    let size = then_some (plain_at (number w) contents at) _ _ e in
    let last = size.0.1 + size.0.0 in
    let read = then_some (all_up_to grammar contents size.0.1 last) _ _ size.2 in
    let same = some_pair_parts read.0 value last end read.2 in
    let first = plain_ends (number w) (number_leaves w) contents at size.0.0 size.0.1 size.1 in
    let room : last ≤ length contents = up_to_within (ltb (length contents) last) contents last _ read.0 refl read.1 in
    (omega (arith, first.0, same.1), omega (arith, room, same.1))
