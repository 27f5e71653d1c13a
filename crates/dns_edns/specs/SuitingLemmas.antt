-- What the reading of an option leaves over whose data suit its code.
use Rattle.std.proofs.Common.{ℕ, List, subst}
use Rattle.std.proofs.lemmas.Option.{some_pair_parts}
use Rattle.dns_wire.specs.ReadingLemmas.{then_some}
use Rattle.dns_wire.specs.Reading.{Follows, LeavesRest}
use Rattle.dns_record.specs.Options.{option}
use Rattle.dns_edns.specs.OptionsLemmas.{option_leaves}
use Rattle.dns_edns.specs.Suiting.{suited, suited_option}

pub suited_option_leaves : LeavesRest suited_option
suited_option_leaves bytes what rest e =
    let found = then_some (option bytes) _ _ e in
    let suits = then_some (suited found.0.0.code found.0.0.content) _ _ found.2 in
    let same = some_pair_parts suits.0 what found.0.1 rest suits.2 in
    subst (λ (l : List ℕ). Follows l bytes) same.1 (option_leaves bytes found.0.0 found.0.1 found.1)
