use Rattle.std.proofs.Common.{◌∙◌, List, ap, subst, sym, ℕ}
use Rattle.std.specs.Result.{IfErr}
use Rattle.std.proofs.lemmas.Result.{IfOk-weaker}
use Rattle.dns_command.specs.Outcomes.{RefusesFor}
use Rattle.dns_denial.specs.Coverage.{coverage_text}
use Rattle.dns_denial.specs.Texts.{members_refusal, members_text}
use Rattle.dns_denial.specs.declared.words.DenialCommand.{DenialCommand}
use Rattle.dns_denial.proofs.message.text_of.Goals as goal

pub returns-in-Signed : goal.returns-in-Signed
returns-in-Signed c =
    let keys = c.args.forms.now in
    let is = sym c.in-Signed.is in
    record {
      printed = IfOk-weaker c.signed_text.result _ _ (λ text e. e ∙ ap (λ (m : DenialCommand). members_text m keys) is) c.signed_text.ensures.printed;
      accepted = IfOk-weaker c.signed_text.result _ _ (λ _ e. ap (λ (m : DenialCommand). members_refusal m keys) c.in-Signed.is ∙ e) c.signed_text.ensures.accepted;
      refused = subst (λ (m : DenialCommand). IfErr c.signed_text.result (RefusesFor (members_refusal m keys))) is c.signed_text.ensures.refused;
    }

pub returns-in_ok-coverage_text-in-Covers : goal.returns-in_ok-coverage_text-in-Covers
returns-in_ok-coverage_text-in-Covers c =
    let keys = c.args.forms.now in
    record {
      printed = c.in_ok-coverage_text-in-Covers.ensures ∙ ap (λ (l : List (List ℕ)). coverage_text l keys) c.as_name.ensures ∙ ap (λ (m : DenialCommand). members_text m keys) (sym c.in-Covers.is);
      accepted = ap (λ (m : DenialCommand). members_refusal m keys) c.in-Covers.is;
      refused = tt;
    }

pub returns-in_ok-key_tags_text-in-KeyTags : goal.returns-in_ok-key_tags_text-in-KeyTags
returns-in_ok-key_tags_text-in-KeyTags c =
    let keys = c.args.forms.now in
    record {
      printed = c.in_ok-key_tags_text-in-KeyTags.ensures ∙ ap (λ (m : DenialCommand). members_text m keys) (sym c.in-KeyTags.is);
      accepted = ap (λ (m : DenialCommand). members_refusal m keys) c.in-KeyTags.is;
      refused = tt;
    }
