use Rattle.std.proofs.Common.{Bor, ◌≡◌, ◌+◌, ◌∙◌, ◌∷◌, ◌++◌, [], List, ℕ, ap, arith, refl, drop, filter, get_or, map, subst, suc, sym, take}
use Rattle.std.proofs.lemmas.List.{get_or_default, length-map, length-take-le}
use Rattle.dns_message.specs.Canonical.{is_not_opt}
use Rattle.dns_message.specs.Messages.{ValidBy}
use Rattle.dns_message.specs.Order.{sort_key}
use Rattle.dns_message.specs.Refusals.{RefusedByOrMemory}
use Rattle.dns_message.specs.Several.{AreValidBy, all_records_by}
use Rattle.dns_message.proofs.SeveralMessages.{valid_more, valid_none}
use Rattle.dns_record.specs.FurtherFormats.{data_by}
use Rattle.dns_command.specs.Outcomes.{RefusesFor}
use Rattle.dns_command.specs.Refusals.{first_refusal_by}
use Rattle.dns_zone.specs.Zone.{belongs, has_soa}
use Rattle.dns_zone.proofs.MemberForms.{read_cover_types}
use Rattle.dns_zone.proofs.ReadSoFar.{all_taken, kept_more, members_more, next_taken, parted_at, refuses_next, soa_more}
use Rattle.dns_zone.proofs.messages.zone_records.Goals as goal

pub loop-number-init : goal.loop-number-init
loop-number-init c = record { records = []; valid = tt; members = c.new.ensures; soa = refl }

pub loop-number-preserved : goal.loop-number-preserved
loop-number-preserved c =
    let reads = data_by c.args.formats in
    let ms = map (λ m. m.now) c.args.messages.now in
    let apex = c.args.apex.now in
    let n = c.loop-number.number in
    let m : Bor (List ℕ) = get_or c.args.messages.now n (record { ref_ptr = (0, 0); now = [] }) in
    let is : m ≡ get_or c.args.messages.now n m = get_or_default c.args.messages.now n _ m c.loop-number-test.true in
    let read = c.in-Ok.ensures.read in
    let next = next_taken c.args.messages.now (λ m. m.now) n m c.loop-number-test.true is in
    let valid : ValidBy reads m.now read.0 = read.1 in
    let rss = c.loop-number.invariant.records ++ read.0 ∷ [] in
    let others = filter is_not_opt read.0 in
    let all : filter is_not_opt (all_records_by reads (take n ms)) ++ others ≡ filter is_not_opt (all_records_by reads (take (n + 1) ms)) =
    kept_more reads (take n ms) m.now read.0 others valid refl ∙ ap (λ (l : List (List ℕ)). filter is_not_opt (all_records_by reads l)) (sym next) in
    record {
      records = rss;
      valid = subst (λ (l : List (List ℕ)). AreValidBy reads l rss) (sym next) (valid_more reads (take n ms) c.loop-number.invariant.records m.now read.0 c.loop-number.invariant.valid valid);
      members = members_more apex (filter is_not_opt (all_records_by reads (take n ms))) others _ _ _ _ all (read_cover_types c.args.formats m.now read.0 valid) read.2 c.loop-number.invariant.members c.in_ok-add-in-Ok.ensures.members;
      soa = c.in_ok-add-in-Ok.ensures.soa ∙ soa_more apex (filter is_not_opt (all_records_by reads (take n ms))) others _ _ _ all read.2 c.loop-number.invariant.soa;
    }

pub returns-in-Err-clause-refused : goal.returns-in-Err-clause-refused
returns-in-Err-clause-refused c =
    let reads = data_by c.args.formats in
    let ms = map (λ m. m.now) c.args.messages.now in
    let n = c.loop-number.number in
    let m : Bor (List ℕ) = get_or c.args.messages.now n (record { ref_ptr = (0, 0); now = [] }) in
    let is : m ≡ get_or c.args.messages.now n m = get_or_default c.args.messages.now n _ m c.loop-number-test.true in
    let refused : RefusedByOrMemory reads m.now c.in-Err.error = c.in-Err.ensures.refused in
    subst (RefusesFor (first_refusal_by reads ms)) (sym c.of.ensures)
    (refuses_next reads ms (take n ms) (drop (suc n) ms) m.now c.loop-number.invariant.records n c.in-Err.error
    (parted_at c.args.messages.now (λ m. m.now) n m c.loop-number-test.true is)
    (length-take-le n ms (omega (arith, c.loop-number-test.true, length-map c.args.messages.now (λ m. m.now)))) c.loop-number.invariant.valid refused)

pub returns : goal.returns
returns c =
    let reads = data_by c.args.formats in
    let ms = map (λ m. m.now) c.args.messages.now in
    let apex = c.args.apex.now in
    let all = all_taken ms c.loop-number.number (omega (arith, c.loop-number-test.false, length-map c.args.messages.now (λ m. m.now))) in
    record {
      valid = valid_none reads ms c.loop-number.invariant.records 0 (subst (λ (l : List (List ℕ)). AreValidBy reads l c.loop-number.invariant.records) all c.loop-number.invariant.valid);
      members = c.loop-number.invariant.members ∙ ap (λ (l : List (List ℕ)). map sort_key (filter (belongs apex) (filter is_not_opt (all_records_by reads l)))) all;
      soa = c.loop-number.invariant.soa ∙ ap (λ (l : List (List ℕ)). has_soa apex (filter is_not_opt (all_records_by reads l))) all;
      refused = tt;
    }
