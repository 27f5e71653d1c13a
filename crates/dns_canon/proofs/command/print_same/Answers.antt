use Rattle.std.proofs.Common.{filter, refl, subst, sym, ◌∙◌}
use Rattle.std.proofs.lemmas.Result.{err_from_is_err_and}
use Rattle.dns_message.specs.Canonical.{is_not_opt}
use Rattle.dns_command.specs.Outcomes.{RefusesFor}
use Rattle.dns_canon.specs.ExpectedStatus.{canon_refusal}
use Rattle.dns_canon.specs.Parts.{first_text, second_text}
use Rattle.dns_canon.specs.declared.words.Command.TheVariants.{Same}
use Rattle.dns_canon.proofs.CanonRefusals.{both_accepted, first_of_two_refused, second_of_two_refused, spelled_there}
use Rattle.dns_canon.proofs.ReportedSameness.{reported}
use Rattle.dns_canon.proofs.command.print_same.Goals as goal

pub returns-in_err-first_forms-clause-refused : goal.returns-in_err-first_forms-clause-refused
returns-in_err-first_forms-clause-refused c =
    let t = c.args.text.now in
    let p = err_from_is_err_and c.from_residual-in_err-first_forms.result c.from_residual-in_err-first_forms.ensures.1 in
    let why = c.in_err-first_forms.ensures.error in
    let first = spelled_there (first_text t) _ _ c.deref.result.now c.parted.ensures.first c.deref.ensures.value c.in_ok-first_message.ensures.ok in
    let second = spelled_there (second_text t) _ _ c.in_ok-second_message.second_message.items c.parted.ensures.second refl c.in_ok-second_message.ensures.ok in
    rw (p.1, p.2) (subst (RefusesFor (canon_refusal Same t)) (sym why.2) (first_of_two_refused t _ _ first second why.0 why.1))

pub returns-in_err-second_forms-clause-refused : goal.returns-in_err-second_forms-clause-refused
returns-in_err-second_forms-clause-refused c =
    let t = c.args.text.now in
    let p = err_from_is_err_and c.from_residual-in_err-second_forms.result c.from_residual-in_err-second_forms.ensures.1 in
    let why = c.in_err-second_forms.ensures.error in
    let valid = c.in_ok-first_forms.ensures.read in
    let first = spelled_there (first_text t) _ _ c.deref.result.now c.parted.ensures.first c.deref.ensures.value c.in_ok-first_message.ensures.ok in
    let second = spelled_there (second_text t) _ _ c.deref-2.result.now c.parted.ensures.second c.deref-2.ensures.value c.in_ok-second_message.ensures.ok in
    rw (p.1, p.2) (subst (RefusesFor (canon_refusal Same t)) (sym why.2) (second_of_two_refused t _ _ first second valid.0 why.0 valid.1 why.1))

pub returns-clause-printed : goal.returns-clause-printed
returns-clause-printed c =
    let t = c.args.text.now in
    let m = c.deref.result.now in
    let n = c.deref-2.result.now in
    let first = spelled_there (first_text t) _ _ m c.parted.ensures.first c.deref.ensures.value c.in_ok-first_message.ensures.ok in
    let second = spelled_there (second_text t) _ _ n c.parted.ensures.second c.deref-2.ensures.value c.in_ok-second_message.ensures.ok in
    let valid = c.in_ok-first_forms.ensures.read in
    let also = c.in_ok-second_forms.ensures.read in
    let listed = c.in_ok-first_order.ensures.octets (filter is_not_opt valid.0) valid.2 in
    let listed-too = c.in_ok-second_order.ensures.octets (filter is_not_opt also.0) also.2 in
    let word = reported (first_text t) (second_text t) m n valid.0 also.0 _ _ c.are_same.result c.in_ok-line.line.items first second valid.1 also.1 listed listed-too
    c.are_same.ensures (λ e. c.in_ok-line.ensures.items ∙ c.sameness.ensures.same e) (λ e. c.in_ok-line.ensures.items ∙ c.sameness.ensures.different e) in
    (m, n, valid.0, also.0, first, second, valid.1, also.1, word)

pub returns-clause-accepted : goal.returns-clause-accepted
returns-clause-accepted c =
    let t = c.args.text.now in
    let m = c.deref.result.now in
    let n = c.deref-2.result.now in
    let first = spelled_there (first_text t) _ _ m c.parted.ensures.first c.deref.ensures.value c.in_ok-first_message.ensures.ok in
    let second = spelled_there (second_text t) _ _ n c.parted.ensures.second c.deref-2.ensures.value c.in_ok-second_message.ensures.ok in
    let valid = c.in_ok-first_forms.ensures.read in
    let also = c.in_ok-second_forms.ensures.read in
    both_accepted t m n first second valid.0 also.0 valid.1 also.1
