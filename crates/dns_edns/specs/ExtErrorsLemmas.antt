-- What the reading of an extended error leaves over.
use Rattle.std.proofs.Common.{ℕ, List, subst}
use Rattle.std.specs.Int.{w16}
use Rattle.std.proofs.lemmas.Option.{some_pair_parts}
use Rattle.dns_wire.specs.ReadingLemmas.{then_some, follows_both, number_leaves, text_leaves}
use Rattle.dns_wire.specs.Reading.{Follows, LeavesRest, number}
use Rattle.dns_wire.specs.Texts.{text}
use Rattle.dns_edns.specs.ExtErrors.{ext_error}

pub ext_error_leaves : LeavesRest ext_error
ext_error_leaves bytes found rest e =
    let code = then_some (number w16 bytes) _ _ e in
    let words = then_some (text code.0.1) _ _ code.2 in
    let same = some_pair_parts (code.0.0, words.0.0) found words.0.1 rest words.2 in
    subst (λ (l : List ℕ). Follows l bytes) same.1 (follows_both bytes code.0.1 words.0.1 (number_leaves w16 bytes code.0.0 code.0.1 code.1) (text_leaves code.0.1 words.0.0 words.0.1 words.1))
