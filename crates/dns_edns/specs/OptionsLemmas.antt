-- What the readings of options leave over.
use Rattle.std.proofs.Common.{ℕ, List, subst}
use Rattle.std.specs.Int.{w16}
use Rattle.std.proofs.lemmas.Option.{some_pair_parts}
use Rattle.dns_wire.specs.ReadingLemmas.{then_some, follows_both, number_leaves, octets_leave, whole_leaves}
use Rattle.dns_wire.specs.Reading.{Follows, LeavesRest, number, octets}
use Rattle.dns_record.specs.Options.{option}
use Rattle.dns_edns.specs.Options.{everything}

pub everything_leaves : LeavesRest everything
everything_leaves = whole_leaves

pub option_leaves : LeavesRest option
option_leaves bytes found rest e =
    let code = then_some (number w16 bytes) _ _ e in
    let size = then_some (number w16 code.0.1) _ _ code.2 in
    let content = then_some (octets size.0.0 size.0.1) _ _ size.2 in
    let same = some_pair_parts (record { code = code.0.0; content = content.0.0 }) found content.0.1 rest content.2 in
    let trailing = follows_both code.0.1 size.0.1 content.0.1 (number_leaves w16 code.0.1 size.0.0 size.0.1 size.1) (octets_leave size.0.0 size.0.1 content.0.0 content.0.1 content.1) in
    subst (λ (l : List ℕ). Follows l bytes) same.1 (follows_both bytes code.0.1 content.0.1 (number_leaves w16 bytes code.0.0 code.0.1 code.1) trailing)
