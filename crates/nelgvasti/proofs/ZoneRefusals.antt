-- Why messages have no zone digest, and the answers.
use Rattle.std.proofs.Common.{◌≡◌, ℕ, Bool, true, false, cond, List, map, Option, Some, None, inl, inr, refl, sym, ap, subst, ◌∙◌, arith}
use Rattle.dns_wire.specs.Octets.{Octets, Labels}
use Rattle.dns_wire.proofs.Lowered.{wire_one}
use Rattle.dns_command.specs.Outcomes.{RefusesFor}
use Rattle.dns_command.specs.declared.outcome.PrintError.{PrintError}
use Rattle.dns_command.specs.declared.outcome.PrintError.TheVariants as print
use Rattle.dns_record.specs.FurtherFormats.{DataReading}
use Rattle.dns_message.specs.Messages.{RecordValue, message_by}
use Rattle.dns_message.specs.Refusals.{first_refused}
use Rattle.dns_message.specs.Several.{AreValidBy, IsFirstRefusedBy, all_records_by}
use Rattle.dns_message.specs.declared.canon_error.CanonError.{CanonError}
use Rattle.dns_message.specs.declared.canon_error.CanonError.TheVariants as canon
use Rattle.dns_message.proofs.SeveralMessages.{first_words, none_valid}
use Rattle.dns_command.specs.Refusals.{on_first}
use Rattle.dns_zone.specs.Texts.{ZoneRefusal, on_messages_by, on_records}
use Rattle.dns_zone.specs.Zone.{HasSoa, has_soa}
use Rattle.dns_command.specs.declared.refusal.Refusal.TheVariants.{BadHex, Short, Item, Own}
use Rattle.dns_zone.specs.declared.refusal.ZoneReason.TheVariants.{NoSoa}
use Rattle.dns_zone.proofs.Members.{soa_words}
use Rattle.nelgvasti.specs.Calls.{AnswersOrMemory, HasName}
use Rattle.nelgvasti.specs.Refused.{message_position}
use Rattle.nelgvasti.specs.Zones.{AreCut, error_answer, zone_answer, zone_position}
use Rattle.nelgvasti.specs.declared.answers.TheConstants.{SHORT, ITEM, NO_SOA}
use Rattle.nelgvasti.specs.declared.item_position.ItemPosition.{ItemPosition}
use Rattle.nelgvasti.proofs.Cutting.{cut_one}

module _ (reads : DataReading) where
  -- what a refusal says of messages
  abbrev pub Because : Labels → List Octets → ZoneRefusal → Type 0
  Because apex ms BadHex = ⊥
  Because apex ms (Short number) = IsFirstRefusedBy reads ms number canon.Short
  Because apex ms (Item number section index) = IsFirstRefusedBy reads ms number (canon.Item section index)
  Because apex ms (Own NoSoa) = (rss : List (List RecordValue)) × AreValidBy reads ms rss × ¬ HasSoa apex (all_records_by reads ms)

  pub because : (apex : Labels) (ms : List Octets) (r : ZoneRefusal) → on_messages_by reads apex (Some ms) ≡ Some r → Because apex ms r
  because apex ms r e = by (first_refused 0 (map (message_by reads) ms)) refl r e where
    soa : (b : Bool) → has_soa apex (all_records_by reads ms) ≡ b → first_refused 0 (map (message_by reads) ms) ≡ None → (r : ZoneRefusal) → cond b None (Some (Own NoSoa)) ≡ Some r → Because apex ms r
    soa true has none r e = absurd cc
    soa false has none (Own NoSoa) e =
        let valid = none_valid reads ms 0 none in
        (valid.0, valid.1, λ h. (let clash = sym has ∙ (soa_words apex (all_records_by reads ms)).1 h in absurd cc))
    soa false has none BadHex e = absurd cc
    soa false has none (Short number) e = absurd cc
    soa false has none (Item number section index) e = absurd cc

    by : (o : Option (ℕ × CanonError)) → first_refused 0 (map (message_by reads) ms) ≡ o → (r : ZoneRefusal) → on_records apex (all_records_by reads ms) (on_first o) ≡ Some r → Because apex ms r
    by None is r e = soa (has_soa apex (all_records_by reads ms)) refl is r e
    by (Some (number, canon.Short)) is r e = let same : Short number ≡ r = cc in subst (Because apex ms) same ((first_words reads ms number canon.Short).0 is)
    by (Some (number, canon.Item section index)) is r e = let same : Item number section index ≡ r = cc in subst (Because apex ms) same ((first_words reads ms number (canon.Item section index)).0 is)
    by (Some (number, canon.Memory)) is r e = absurd ((first_words reads ms number canon.Memory).0 is).refused

  -- ---- answers

  pub error_expected : (apex : Labels) (ms : List Octets) (error : PrintError ZoneRefusal) → RefusesFor (on_messages_by reads apex (Some ms)) error → AnswersOrMemory (zone_answer (on_messages_by reads apex (Some ms))) (error_answer error)
  error_expected apex ms (print.Refused r) refuses = inl (sym (ap zone_answer refuses))
  error_expected apex ms print.Memory refuses = inr refl

  -- octets are a name's in one way, and are cut in one way
  pub expected_for : (octets : Octets) (lengths : List ℕ) (bytes : Octets) (apex : Labels) (ms : List Octets) (answer : ℕ) → HasName bytes apex → AreCut octets lengths ms → AnswersOrMemory (zone_answer (on_messages_by reads apex (Some ms))) answer
      → (labels : Labels) (others : List Octets) → HasName bytes labels → AreCut octets lengths others → AnswersOrMemory (zone_answer (on_messages_by reads labels (Some others))) answer
  expected_for octets lengths bytes apex ms answer named cut expected labels others named-too cut-too =
      let name : apex ≡ labels = wire_one apex labels named.0 named-too.0 (sym named.1 ∙ named-too.1) in
      subst (λ (l : Labels). AnswersOrMemory (zone_answer (on_messages_by reads l (Some others))) answer) name
      (subst (λ (l : List Octets). AnswersOrMemory (zone_answer (on_messages_by reads apex (Some l))) answer) (cut_one octets lengths ms others cut cut-too) expected)

  -- what the answer to a refusal says of the messages, and the position
  pub zone_without_soa : (apex : Labels) (ms : List Octets) (error : PrintError ZoneRefusal) → RefusesFor (on_messages_by reads apex (Some ms)) error → error_answer error ≡ NO_SOA
      → (rss : List (List RecordValue)) × AreValidBy reads ms rss × ¬ HasSoa apex (all_records_by reads ms)
  zone_without_soa apex ms (print.Refused BadHex) refuses is = absurd (omega (arith, is))
  zone_without_soa apex ms (print.Refused (Short number)) refuses is = absurd (omega (arith, is))
  zone_without_soa apex ms (print.Refused (Item number section index)) refuses is = absurd (omega (arith, is))
  zone_without_soa apex ms (print.Refused (Own NoSoa)) refuses is = because apex ms (Own NoSoa) refuses
  zone_without_soa apex ms print.Memory refuses is = absurd (omega (arith, is))

  pub zone_short : (apex : Labels) (ms : List Octets) (error : PrintError ZoneRefusal) (old new : ItemPosition) → RefusesFor (on_messages_by reads apex (Some ms)) error → new ≡ zone_position error old → error_answer error ≡ SHORT
      → IsFirstRefusedBy reads ms new.message canon.Short × (new ≡ message_position new.message)
  zone_short apex ms (print.Refused BadHex) old new refuses new-is is = absurd (omega (arith, is))
  zone_short apex ms (print.Refused (Short number)) old new refuses new-is is =
      let number-is : new.message ≡ number = ap (λ (p : ItemPosition). p.message) new-is in
      (rw number-is (because apex ms (Short number) refuses), new-is ∙ ap message_position (sym number-is))
  zone_short apex ms (print.Refused (Item number section index)) old new refuses new-is is = absurd (omega (arith, is))
  zone_short apex ms (print.Refused (Own NoSoa)) old new refuses new-is is = absurd (omega (arith, is))
  zone_short apex ms print.Memory old new refuses new-is is = absurd (omega (arith, is))

  pub zone_item : (apex : Labels) (ms : List Octets) (error : PrintError ZoneRefusal) (old new : ItemPosition) → RefusesFor (on_messages_by reads apex (Some ms)) error → new ≡ zone_position error old → error_answer error ≡ ITEM
      → IsFirstRefusedBy reads ms new.message (canon.Item new.section new.index)
  zone_item apex ms (print.Refused BadHex) old new refuses new-is is = absurd (omega (arith, is))
  zone_item apex ms (print.Refused (Short number)) old new refuses new-is is = absurd (omega (arith, is))
  zone_item apex ms (print.Refused (Item number section index)) old new refuses new-is is =
      let number-is : new.message ≡ number = ap (λ (p : ItemPosition). p.message) new-is in
      let section-is : new.section ≡ section = ap (λ (p : ItemPosition). p.section) new-is in
      let index-is : new.index ≡ index = ap (λ (p : ItemPosition). p.index) new-is in
      rw (number-is, section-is, index-is) (because apex ms (Item number section index) refuses)
  zone_item apex ms (print.Refused (Own NoSoa)) old new refuses new-is is = absurd (omega (arith, is))
  zone_item apex ms print.Memory old new refuses new-is is = absurd (omega (arith, is))
