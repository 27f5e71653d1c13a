-- The records that a text of messages has are well formed.
use Rattle.std.proofs.Common.{◌≡◌, ℕ, List, [], ◌∷◌, flat_map, Some, sym, subst}
use Rattle.std.specs.Prelude.{◌↔◌}
use Rattle.std.specs.List.{All}
use Rattle.std.proofs.lemmas.List.Concat.{flat_map-cons}
use Rattle.std.proofs.lemmas.List.Elements.{All-append, All-filter, All-nil}
use Rattle.dns_text.specs.Hexadecimal.{spelled, trim}
use Rattle.dns_wire.specs.ReadingLemmas.{then_some}
use Rattle.dns_text.proofs.HexadecimalLemmas.{spelled_octets}
use Rattle.dns_text.specs.Spelled.{all_spelled}
use Rattle.dns_message.specs.Messages.{RecordValue}
use Rattle.dns_message.specs.Same.{Same}
use Rattle.dns_message.specs.Several.{AreValid}
use Rattle.dns_message.specs.WellFormed.{WellFormed}
use Rattle.dns_message.proofs.Streamed.{stream_same}
use Rattle.dns_message.proofs.WellFormedLemmas.{all_well}
use Rattle.dns_zone.specs.Texts.{HasRecords, texts_in}
use Rattle.dns_zone.specs.Zone.{in_zone, is_in_zone, stream}

well_read : (texts messages : List (List ℕ)) (rss : List (List RecordValue)) → all_spelled texts ≡ Some messages → AreValid messages rss → All WellFormed (flat_map (λ r. r) rss)
well_read [] [] [] spells valid = All-nil WellFormed
well_read [] [] (rs ∷ rss) spells valid = absurd valid
well_read [] (m ∷ messages) rss spells valid = absurd cc
well_read (text ∷ texts) messages [] spells valid = All-nil WellFormed
well_read (text ∷ texts) messages (rs ∷ rss) spells valid =
    let first = then_some (spelled (trim text)) _ _ spells in
    let others = then_some (all_spelled texts) _ _ first.2 in
    let same : messages ≡ first.0 ∷ others.0 = (let e = sym others.2 in cc) in
    let each = subst (λ (ms : List (List ℕ)). AreValid ms (rs ∷ rss)) same valid in
    subst (All WellFormed) (sym (flat_map-cons (λ r. r) rs rss))
    (All-append WellFormed rs (flat_map (λ r. r) rss) (all_well first.0 rs (spelled_octets (trim text) first.0 first.1) each.0) (well_read texts others.0 rss others.1 each.1))

pub text_well : (text : List ℕ) (rs : List RecordValue) → HasRecords text rs → All WellFormed rs
text_well text rs (messages, rss, spells, valid, are) = subst (All WellFormed) (sym are) (well_read (texts_in text) messages rss spells valid)

-- ---- what a digest is taken of

pub zone_streams : (apex : List (List ℕ)) (rs ss : List RecordValue) → All WellFormed rs → All WellFormed ss → (stream apex rs ≡ stream apex ss) ↔ Same (in_zone apex rs) (in_zone apex ss)
zone_streams apex rs ss are also =
    stream_same (in_zone apex rs) (in_zone apex ss) (All-filter (is_in_zone apex) WellFormed rs are) (All-filter (is_in_zone apex) WellFormed ss also)

pub text_streams : (apex : List (List ℕ)) (t u : List ℕ) (rs ss : List RecordValue) → HasRecords t rs → HasRecords u ss → (stream apex rs ≡ stream apex ss) ↔ Same (in_zone apex rs) (in_zone apex ss)
text_streams apex t u rs ss first second = zone_streams apex rs ss (text_well t rs first) (text_well u ss second)
