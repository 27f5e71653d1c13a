use Rattle.std.proofs.Common.{None, Option, ap, cond, sym, ◌∙◌}
use Rattle.std.specs.Option.{option_copied}
use Rattle.dns_denial.specs.Words.{hash_named}
use Rattle.dns_denial.specs.declared.words.DenialCommand.{DenialCommand}
use Rattle.dns_denial.proofs.WordLemmas.{four_is}
use Rattle.dns_denial.proofs.words.four_words.Goals as goal

pub returns-then-eq : goal.returns-then-eq
returns-then-eq c =
    let h = four_is c.args.args.now c.unwrap-word.result.now c.unwrap-name.result.now c.unwrap-salt.result.now c.unwrap-iterations.result.now c.requires
    (sym c.get.ensures.value ∙ ap option_copied c.unwrap-word.ensures) (sym c.get-2.ensures.value ∙ ap option_copied c.unwrap-name.ensures)
    (sym c.get-3.ensures.value ∙ ap option_copied c.unwrap-salt.ensures) (sym c.get-4.ensures.value ∙ ap option_copied c.unwrap-iterations.ensures) in
    c.hash_named.ensures ∙ sym (h ∙ ap (λ t. cond {A = Option DenialCommand} t (hash_named c.unwrap-name.result.now c.unwrap-salt.result.now c.unwrap-iterations.result.now) None) (sym c.if-eq.ensures))
