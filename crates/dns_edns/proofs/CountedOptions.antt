-- Options that are read one by one.
use Rattle.std.proofs.Common.{◌≡◌, ℕ, zero, suc, ◌<◌, true, List, [], ◌∷◌, length, Option, Some, None, refl, ap, ◌∙◌, arith}
use Rattle.dns_wire.specs.Steps.{◌>>=◌}
use Rattle.dns_record.specs.Options.{OptionSeen, option, options_within, options_of, are_some, is_options}
use Rattle.dns_record.proofs.Opted.{option_shorter}
use Rattle.dns_record.proofs.TestedOctets.{options_start, options_step}

abbrev then_options : (List ℕ → Option (List OptionSeen)) → Option (OptionSeen × List ℕ) → Option (List OptionSeen)
then_options more read = ◌>>=◌ {B = List OptionSeen} read (λ first. ◌>>=◌ {B = List OptionSeen} (more first.1) (λ others. Some (first.0 ∷ others)))

-- more steps than octets change nothing
pub steps_enough : (steps others : ℕ) (bytes : List ℕ) → length bytes < steps → length bytes < others → options_within steps bytes ≡ options_within others bytes
unfolding options_within
steps_enough zero others bytes enough also = absurd (omega arith)
steps_enough (suc steps) zero bytes enough also = absurd (omega arith)
steps_enough (suc steps) (suc others) [] enough also = refl
steps_enough (suc steps) (suc others) (x ∷ bytes) enough also = by (option (x ∷ bytes)) refl (λ rest h k. steps_enough steps others rest h k) where
  by : (read : Option (OptionSeen × List ℕ)) → option (x ∷ bytes) ≡ read → ((rest : List ℕ) → length rest < steps → length rest < others → options_within steps rest ≡ options_within others rest)
      → then_options (options_within steps) read ≡ then_options (options_within others) read
  by None e again = refl
  by (Some (found, rest)) e again =
      let less = option_shorter (x ∷ bytes) found rest e in
      ap (λ (read : Option (List OptionSeen)). ◌>>=◌ {B = List OptionSeen} read (λ later. Some (found ∷ later))) (again rest (omega arith) (omega arith))

-- what is left of options is options
pub options_after : (bytes : List ℕ) (found : OptionSeen) (rest : List ℕ) → is_options bytes ≡ true → option bytes ≡ Some (found, rest) → is_options rest ≡ true
unfolding is_options options_of
options_after bytes found rest are e =
    let some : 0 < length bytes = omega (arith, option_shorter bytes found rest e) in
    let left = options_step bytes bytes found rest (options_start bytes) some e in
    ap are_some (steps_enough (suc (length rest)) left.steps rest (omega arith) left.enough) ∙ left.same ∙ are
