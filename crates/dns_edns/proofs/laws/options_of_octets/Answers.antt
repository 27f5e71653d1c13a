use Rattle.std.proofs.Common.{◌≡◌, ℕ, List, true, Option, Some, sym, subst, ◌∙◌}
use Rattle.std.proofs.lemmas.Bool.{and_parts}
use Rattle.dns_record.specs.InPlace.{AreOptions, FilledBy}
use Rattle.dns_record.specs.Options.{OptionSeen, is_option_data, is_options}
use Rattle.dns_record.proofs.Opted.{options_are, options_found, are_these_options}
use Rattle.dns_edns.specs.Suiting.{options_in}
use Rattle.dns_edns.proofs.Items.{all_gone_over}
use Rattle.dns_edns.proofs.laws.options_of_octets.Goals as goal

same : (a b : List OptionSeen) → ◌≡◌ {A = Option (List OptionSeen)} (Some a) (Some b) → a ≡ b
same a b e = cc

in_form : (bytes : List ℕ) → is_option_data bytes ≡ true → is_options bytes ≡ true
unfolding is_option_data
in_form bytes e = (and_parts _ _ e).1

these : (bytes : List ℕ) (o : AreOptions bytes) → o.options ≡ options_in bytes
these bytes o = same o.options (options_in bytes) (sym (options_found bytes o) ∙ all_gone_over bytes (in_form bytes (are_these_options bytes o)))

pub returns-clause-spelled : goal.returns-clause-spelled
returns-clause-spelled c = all_gone_over

pub returns-clause-filled : goal.returns-clause-filled
returns-clause-filled c = λ bytes e. let o = options_are bytes e in subst (λ (l : List OptionSeen). FilledBy l bytes) (these bytes o) o.filled

pub returns-clause-read : goal.returns-clause-read
returns-clause-read c = λ bytes options short filled.
    let o : AreOptions bytes = record { options = options; filled = filled; short = short } in (are_these_options bytes o, sym (these bytes o))
