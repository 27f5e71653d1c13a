use Rattle.std.proofs.Common.{◌∙◌, ap, arith, inl, map, subst, sym, true}
use Rattle.dns_message.specs.Several.{all_records_by}
use Rattle.dns_record.specs.FurtherFormats.{data_by}
use Rattle.dns_message.proofs.SeveralMessages.{none_valid}
use Rattle.dns_zone.specs.Zone.{members}
use Rattle.dns_zone.proofs.Members.{soa_words}
use Rattle.dns_zone.proofs.ZoneOutcomes.{on_valid_records}
use Rattle.nelgvasti.specs.Zones.{AreCut, zone_answer}
use Rattle.nelgvasti.proofs.Cutting.{cut_sum, suited}
use Rattle.nelgvasti.proofs.NameLemmas.{named, nameless}
use Rattle.nelgvasti.proofs.ZoneRefusals.{error_expected, expected_for, zone_item, zone_short, zone_without_soa}
use Rattle.nelgvasti.proofs.zone.zone_digest_of.Goals as goal
use Rattle.nelgvasti.proofs.zone.zone_digest_of.Goals.{then-lengths-gt-MOST_MESSAGES-via-then-lengths-gt-MOST_MESSAGES, then-lengths-gt-MOST_MESSAGES-via-else-lengths-gt-MOST_MESSAGES+then-not-add_up}

pub returns-in_default-clause-usage : goal.returns-in_default-clause-usage
returns-in_default-clause-usage c = λ _. inl (nameless c.args.apex.now c.in_default.ensures)

pub returns-in_default-clause-expected : goal.returns-in_default-clause-expected
returns-in_default-clause-expected c = λ labels ms has cut few. absurd (nameless c.args.apex.now c.in_default.ensures labels has.0 has.1)

pub returns-then-lengths-gt-MOST_MESSAGES-clause-expected : goal.returns-then-lengths-gt-MOST_MESSAGES-clause-expected
returns-then-lengths-gt-MOST_MESSAGES-clause-expected c = λ labels ms has cut few.
    elim c.then-lengths-gt-MOST_MESSAGES.branch [
      | then-lengths-gt-MOST_MESSAGES-via-then-lengths-gt-MOST_MESSAGES w ↦ absurd (omega (arith, w.if-lengths-gt-MOST_MESSAGES.true))
      | then-lengths-gt-MOST_MESSAGES-via-else-lengths-gt-MOST_MESSAGES+then-not-add_up w ↦
          (let clash = sym w.if-not-add_up.true ∙ w.add_up.ensures.1 (cut_sum c.args.messages.now c.args.lengths.now ms cut) in absurd cc)
    ]

pub returns-in-Ok-zone_digest_by-clause-done : goal.returns-in-Ok-zone_digest_by-clause-done
returns-in-Ok-zone_digest_by-clause-done c = λ _.
    let ms = map (λ m. m.now) c.deref.result.now in
    let cut = subst (λ l. AreCut c.args.messages.now c.args.lengths.now (map (λ m. m.now) l)) (sym c.deref.ensures.value) c.in-Ok-cut.ensures in
    let valid = none_valid (data_by c.args.formats) ms 0 c.in-Ok-zone_digest_by.ensures.valid in (
      c.in-Ok.apex,
      ms,
      valid.0,
      named c.args.apex.now c.in-Ok.apex c.in-Ok.ensures,
      cut,
      valid.1,
      (soa_words c.in-Ok.apex (all_records_by (data_by c.args.formats) ms)).0 c.in-Ok-zone_digest_by.ensures.soa,
      c.of.ensures (members c.in-Ok.apex (all_records_by (data_by c.args.formats) ms)) c.in-Ok-zone_digest_by.ensures.digest,
    )

pub returns-in-Ok-zone_digest_by-clause-expected : goal.returns-in-Ok-zone_digest_by-clause-expected
returns-in-Ok-zone_digest_by-clause-expected c = λ labels others has other few.
    let ms = map (λ m. m.now) c.deref.result.now in
    let cut = subst (λ l. AreCut c.args.messages.now c.args.lengths.now (map (λ m. m.now) l)) (sym c.deref.ensures.value) c.in-Ok-cut.ensures in
    expected_for (data_by c.args.formats) c.args.messages.now c.args.lengths.now c.args.apex.now c.in-Ok.apex ms 0 (named c.args.apex.now c.in-Ok.apex c.in-Ok.ensures) cut
    (inl (sym (ap zone_answer (on_valid_records (data_by c.args.formats) c.in-Ok.apex ms true c.in-Ok-zone_digest_by.ensures.valid c.in-Ok-zone_digest_by.ensures.soa)))) labels others has other

pub returns-clause-no_soa : goal.returns-clause-no_soa
returns-clause-no_soa c = λ is.
    let ms = map (λ m. m.now) c.deref.result.now in
    let cut = subst (λ l. AreCut c.args.messages.now c.args.lengths.now (map (λ m. m.now) l)) (sym c.deref.ensures.value) c.in-Ok-cut.ensures in
    let without = zone_without_soa (data_by c.args.formats) c.in-Ok.apex ms c.in-Err.error c.in-Err.ensures.refused (sym c.refuse_zone.ensures.answer ∙ is) in
    (c.in-Ok.apex, ms, without.0, named c.args.apex.now c.in-Ok.apex c.in-Ok.ensures, cut, without.1, without.2)

pub returns-clause-short : goal.returns-clause-short
returns-clause-short c = λ is.
    let ms = map (λ m. m.now) c.deref.result.now in
    let cut = subst (λ l. AreCut c.args.messages.now c.args.lengths.now (map (λ m. m.now) l)) (sym c.deref.ensures.value) c.in-Ok-cut.ensures in
    let short = zone_short (data_by c.args.formats) c.in-Ok.apex ms c.in-Err.error c.args.position.now c.refuse_zone.new.position c.in-Err.ensures.refused c.refuse_zone.ensures.position (sym c.refuse_zone.ensures.answer ∙ is) in
    (ms, cut, short.0, short.1)

pub returns-clause-item : goal.returns-clause-item
returns-clause-item c = λ is.
    let ms = map (λ m. m.now) c.deref.result.now in
    let cut = subst (λ l. AreCut c.args.messages.now c.args.lengths.now (map (λ m. m.now) l)) (sym c.deref.ensures.value) c.in-Ok-cut.ensures in
    (ms, cut, zone_item (data_by c.args.formats) c.in-Ok.apex ms c.in-Err.error c.args.position.now c.refuse_zone.new.position c.in-Err.ensures.refused c.refuse_zone.ensures.position (sym c.refuse_zone.ensures.answer ∙ is))

pub returns-clause-expected : goal.returns-clause-expected
returns-clause-expected c = λ labels others has other few.
    let ms = map (λ m. m.now) c.deref.result.now in
    let cut = subst (λ l. AreCut c.args.messages.now c.args.lengths.now (map (λ m. m.now) l)) (sym c.deref.ensures.value) c.in-Ok-cut.ensures in
    rw c.refuse_zone.ensures.answer (expected_for (data_by c.args.formats) c.args.messages.now c.args.lengths.now c.args.apex.now c.in-Ok.apex ms _ (named c.args.apex.now c.in-Ok.apex c.in-Ok.ensures) cut
    (error_expected (data_by c.args.formats) c.in-Ok.apex ms c.in-Err.error c.in-Err.ensures.refused) labels others has other)

pub returns-in_default-cut-clause-unsuited : goal.returns-in_default-cut-clause-unsuited
returns-in_default-cut-clause-unsuited c = λ unsuited. absurd (suited c.args.apex.now c.in-Ok.apex c.args.messages.now c.args.lengths.now (named c.args.apex.now c.in-Ok.apex c.in-Ok.ensures) (c.add_up.ensures.0 c.if-not-add_up.false) (omega (arith, c.if-lengths-gt-MOST_MESSAGES.false)) unsuited)

pub returns-in-Ok-zone_digest_by-clause-unsuited : goal.returns-in-Ok-zone_digest_by-clause-unsuited
returns-in-Ok-zone_digest_by-clause-unsuited c = λ unsuited. absurd (suited c.args.apex.now c.in-Ok.apex c.args.messages.now c.args.lengths.now (named c.args.apex.now c.in-Ok.apex c.in-Ok.ensures) (c.add_up.ensures.0 c.if-not-add_up.false) (omega (arith, c.if-lengths-gt-MOST_MESSAGES.false)) unsuited)

pub returns-clause-unsuited : goal.returns-clause-unsuited
returns-clause-unsuited c = λ unsuited. absurd (suited c.args.apex.now c.in-Ok.apex c.args.messages.now c.args.lengths.now (named c.args.apex.now c.in-Ok.apex c.in-Ok.ensures) (c.add_up.ensures.0 c.if-not-add_up.false) (omega (arith, c.if-lengths-gt-MOST_MESSAGES.false)) unsuited)
