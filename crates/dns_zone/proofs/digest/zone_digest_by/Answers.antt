use Rattle.std.proofs.Common.{◌∙◌, List, false, filter, map, sym, ℕ, subst}
use Rattle.std.proofs.lemmas.Result.{err_from_is_err_and}
use Rattle.dns_message.specs.Canonical.{is_not_opt}
use Rattle.dns_message.specs.Several.{all_records_by}
use Rattle.dns_record.specs.FurtherFormats.{data_by}
use Rattle.dns_zone.specs.Digests.{IsDigestOf}
use Rattle.dns_zone.specs.Zone.{belongs}
use Rattle.dns_zone.proofs.Members.{soa_kept}
use Rattle.dns_zone.proofs.Streams.{members_kept}
use Rattle.dns_zone.proofs.ZoneOutcomes.{first_refusal_of, on_valid_records}
use Rattle.dns_zone.proofs.digest.zone_digest_by.Goals as goal

pub returns-in_err-found-clause-refused : goal.returns-in_err-found-clause-refused
returns-in_err-found-clause-refused c =
    let p = err_from_is_err_and c.from_residual.result c.from_residual.ensures.1 in
    rw (p.1, p.2) (first_refusal_of (data_by c.args.formats) c.args.apex.now (map (λ m. m.now) c.args.messages.now) _ c.in_err-found.ensures.refused)

pub returns-then-not-found-clause-refused : goal.returns-then-not-found-clause-refused
returns-then-not-found-clause-refused c =
    let ms = map (λ m. m.now) c.args.messages.now in
    let apex = c.args.apex.now in
    on_valid_records (data_by c.args.formats) apex ms false c.in_ok-found.ensures.valid
    (sym (soa_kept apex (all_records_by (data_by c.args.formats) ms)) ∙ sym c.in_ok-found.ensures.soa ∙ c.if-not-found.true)

pub returns-clause-digest : goal.returns-clause-digest
returns-clause-digest c =
    let ms = map (λ m. m.now) c.args.messages.now in
    let apex = c.args.apex.now in
    let lists = c.in_ok-order.ensures.octets (filter (belongs apex) (filter is_not_opt (all_records_by (data_by c.args.formats) ms))) c.in_ok-found.ensures.members ∙ members_kept apex (all_records_by (data_by c.args.formats) ms) in
    subst (λ (l : List (List ℕ)). IsDigestOf l c.digest_for.result) lists c.digest_for.ensures

pub returns-clause-soa : goal.returns-clause-soa
returns-clause-soa c =
    let ms = map (λ m. m.now) c.args.messages.now in
    let apex = c.args.apex.now in
    sym (soa_kept apex (all_records_by (data_by c.args.formats) ms)) ∙ sym c.in_ok-found.ensures.soa ∙ c.if-not-found.false
