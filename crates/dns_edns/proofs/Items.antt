-- Options that are gone over.
use Rattle.std.proofs.Common.{◌≡◌, ℕ, zero, suc, ◌≤◌, true, List, [], ◌∷◌, length, Option, Some, None, refl, sym, ap, ◌∙◌, arith}
use Rattle.dns_wire.specs.Steps.{◌>>=◌}
use Rattle.dns_record.specs.Options.{OptionSeen, option, options_within, options_of, are_some, is_options}
use Rattle.dns_record.proofs.Opted.{option_shorter}
use Rattle.dns_record.proofs.Stepped.{Stepped, stepped}
use Rattle.std.specs.Prelude.{map}
use Rattle.dns_edns.specs.Suiting.{Suited, suited, item_of, or_unchanged, items_in, then_options, options_up_to, options_in}

-- more steps than octets change nothing
enough_steps : (steps others : ℕ) (bytes : List ℕ) → length bytes ≤ steps → length bytes ≤ others → options_up_to steps bytes ≡ options_up_to others bytes
unfolding options_up_to
enough_steps zero zero bytes enough also = refl
enough_steps zero (suc others) [] enough also = refl
enough_steps zero (suc others) (x ∷ more) enough also = absurd (omega arith)
enough_steps (suc steps) zero [] enough also = refl
enough_steps (suc steps) zero (x ∷ more) enough also = absurd (omega arith)
enough_steps (suc steps) (suc others) bytes enough also = by (option bytes) refl (λ rest h k. enough_steps steps others rest h k) where
  by : (read : Option (OptionSeen × List ℕ)) → option bytes ≡ read → ((rest : List ℕ) → length rest ≤ steps → length rest ≤ others → options_up_to steps rest ≡ options_up_to others rest)
      → then_options (λ more. options_up_to steps more) read ≡ then_options (λ more. options_up_to others more) read
  by None e again = refl
  by (Some (found, rest)) e again =
      let less = option_shorter bytes found rest e in
      ap (λ (l : List OptionSeen). found ∷ l) (again rest (omega arith) (omega arith))

pub first_option : (bytes : List ℕ) (found : OptionSeen) (rest : List ℕ) → option bytes ≡ Some (found, rest) → options_in bytes ≡ found ∷ options_in rest
unfolding options_in options_up_to
first_option [] found rest e = absurd cc
first_option (x ∷ more) found rest e =
    let less = option_shorter (x ∷ more) found rest e in
    ap (then_options (λ (l : List ℕ). options_up_to (length more) l)) e
    ∙ ap (λ (l : List OptionSeen). found ∷ l) (enough_steps (length more) (length rest) rest (omega arith) (omega arith))

pub no_option : (bytes : List ℕ) → option bytes ≡ None → options_in bytes ≡ []
unfolding options_in options_up_to
no_option [] e = refl
no_option (x ∷ more) e = ap (then_options (λ (l : List ℕ). options_up_to (length more) l)) e

pub first_item : (bytes : List ℕ) (found : OptionSeen) (rest : List ℕ) (what : Option Suited) → option bytes ≡ Some (found, rest) → suited found.code found.content ≡ what → items_in bytes ≡ or_unchanged found what ∷ items_in rest
first_item bytes found rest what e is =
    ap (map item_of) (first_option bytes found rest e) ∙ ap (λ (w : Option Suited). or_unchanged found w ∷ items_in rest) is

pub no_item : (bytes : List ℕ) → option bytes ≡ None → items_in bytes ≡ []
no_item bytes e = ap (map item_of) (no_option bytes e)

some_is : {x y : List OptionSeen} → ◌≡◌ {A = Option (List OptionSeen)} (Some x) (Some y) → x ≡ y
some_is e = cc

spelled_are : (steps : ℕ) (bytes : List ℕ) (found : List OptionSeen) → options_within steps bytes ≡ Some found → options_in bytes ≡ found
unfolding options_within
spelled_are zero bytes found e = absurd cc
spelled_are (suc steps) [] found e = no_option [] refl ∙ some_is e
spelled_are (suc steps) (x ∷ bytes) found e =
    let s : Stepped (option (x ∷ bytes)) (λ first. ◌>>=◌ {B = List OptionSeen} (options_within steps first.1) (λ others. Some (first.0 ∷ others))) found = stepped _ _ _ e in
    let t : Stepped (options_within steps s.value.1) (λ others. Some (s.value.0 ∷ others)) found = stepped _ _ _ s.later in
    first_option (x ∷ bytes) s.value.0 s.value.1 s.first ∙ ap (λ (l : List OptionSeen). s.value.0 ∷ l) (spelled_are steps s.value.1 t.value t.first) ∙ some_is t.later

-- if all the octets are options, they are those that are gone over
pub all_gone_over : (bytes : List ℕ) → is_options bytes ≡ true → options_of bytes ≡ Some (options_in bytes)
unfolding is_options options_of
all_gone_over bytes are = by (options_of bytes) refl are where
  by : (read : Option (List OptionSeen)) → options_of bytes ≡ read → are_some read ≡ true → options_of bytes ≡ Some (options_in bytes)
  by None e h = absurd cc
  by (Some found) e h = e ∙ ap (λ (l : List OptionSeen). Some l) (sym (spelled_are (suc (length bytes)) bytes found e))
