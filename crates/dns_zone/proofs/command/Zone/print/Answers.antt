use Rattle.std.proofs.Common.{◌≡◌, ◌∙◌, List, None, Some, ap, map, subst, sym, true, ℕ}
use Rattle.std.proofs.lemmas.Result.{err_from_is_err_and}
use Rattle.dns_message.specs.Several.{all_records}
use Rattle.dns_command.specs.Outcomes.{RefusesFor}
use Rattle.dns_zone.specs.Texts.{PrintsZone, zone_refusal}
use Rattle.dns_zone.specs.Zone.{members}
use Rattle.dns_zone.proofs.ZoneOutcomes.{has_records, spelled_refusal, valid_refusal}
use Rattle.dns_zone.proofs.command.Zone.print.Goals as goal

pub returns-in_err-digest-clause-refused : goal.returns-in_err-digest-clause-refused
returns-in_err-digest-clause-refused c =
    let ms = map (λ m. m.now) c.deref-2.result.now in
    let apex = c.self.inside.apex in
    let spells = c.in_ok-messages.ensures.spelled ∙ ap (λ l. Some (map (λ m. m.items) l)) (sym c.deref.ensures.value) ∙ ap Some (sym c.in_ok-slices.ensures) ∙ ap (λ l. Some (map (λ m. m.now) l)) (sym c.deref-2.ensures.value) in
    let p = err_from_is_err_and c.from_residual-in_err-digest.result c.from_residual-in_err-digest.ensures.1 in
    rw (p.1, p.2) (subst (λ (a : List (List ℕ)). RefusesFor (zone_refusal a c.args.text.now) c.in_err-digest.field-0.0) c.self.view_is
    (subst (λ o. RefusesFor o c.in_err-digest.field-0.0) (sym (spelled_refusal apex c.args.text.now ms spells)) c.in_err-digest.ensures.refused))

pub returns-clause-printed : goal.returns-clause-printed
returns-clause-printed c =
    let ms = map (λ m. m.now) c.deref-2.result.now in
    let apex = c.self.inside.apex in
    let spells = c.in_ok-messages.ensures.spelled ∙ ap (λ l. Some (map (λ m. m.items) l)) (sym c.deref.ensures.value) ∙ ap Some (sym c.in_ok-slices.ensures) ∙ ap (λ l. Some (map (λ m. m.now) l)) (sym c.deref-2.ensures.value) in
    subst (λ (a : List (List ℕ)). PrintsZone a c.args.text.now c.in_ok-printed.printed.items) c.self.view_is
    (all_records ms, has_records apex c.args.text.now ms spells c.in_ok-digest.ensures.valid, c.in_ok-printed.ensures (members apex (all_records ms)) c.in_ok-digest.ensures.digest)

pub returns-clause-accepted : goal.returns-clause-accepted
returns-clause-accepted c =
    let ms = map (λ m. m.now) c.deref-2.result.now in
    let apex = c.self.inside.apex in
    let spells = c.in_ok-messages.ensures.spelled ∙ ap (λ l. Some (map (λ m. m.items) l)) (sym c.deref.ensures.value) ∙ ap Some (sym c.in_ok-slices.ensures) ∙ ap (λ l. Some (map (λ m. m.now) l)) (sym c.deref-2.ensures.value) in
    subst (λ (a : List (List ℕ)). zone_refusal a c.args.text.now ≡ None) c.self.view_is
    (valid_refusal apex c.args.text.now ms spells true c.in_ok-digest.ensures.valid c.in_ok-digest.ensures.soa)
