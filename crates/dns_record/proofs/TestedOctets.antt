-- Strings, options and windows that are read one by one: what is left of a test.
use Rattle.std.proofs.Common.{◌≡◌, ℕ, zero, suc, ◌+◌, ◌<◌, ◌≤◌, true, false, ltb, List, [], ◌∷◌, length, Option, Some, None, refl, sym, ap, ◌∙◌, arith}
use Rattle.std.proofs.lemmas.Bool.{le-ltb, lt-ltb}
use Rattle.std.proofs.lemmas.List.{length-append}
use Rattle.dns_wire.specs.Steps.{◌>>=◌}
use Rattle.dns_record.specs.CharacterStrings.{character_string, after_string, character_strings_within, is_character_strings, is_txt_data}
use Rattle.dns_record.specs.Options.{OptionSeen, option, options_within, options_of, are_some, is_options}
use Rattle.dns_record.specs.TypeBitMaps.{Window, window, windows_within, windows_of, is_some, is_bitmap}
use Rattle.dns_record.proofs.Opted.{option_shorter}
use Rattle.dns_record.proofs.Places.{text_spelled}

-- ---- strings

pub text_shorter : (bytes found rest : List ℕ) → character_string bytes ≡ Some (found, rest) → length rest < length bytes
text_shorter bytes found rest e = omega (arith, ap length (text_spelled bytes found rest e), length-append found rest)

-- what is left answers for the whole
pub record CharacterStringsLeft (bytes rest : List ℕ) : Type 0 where
  pub steps : ℕ
  pub enough : length rest < steps
  pub same : character_strings_within steps rest ≡ is_txt_data bytes

pub character_strings_start : (bytes : List ℕ) → 0 < length bytes → length bytes ≤ 65535 → CharacterStringsLeft bytes bytes
unfolding is_txt_data is_character_strings
character_strings_start [] some few = absurd (omega arith)
character_strings_start (x ∷ bytes) some few =
    let short : ltb 65535 (length (x ∷ bytes)) ≡ false = le-ltb _ _ few in
    record { steps = suc (length (x ∷ bytes)); enough = omega arith; same = rw short refl }

pub character_strings_done : (bytes rest : List ℕ) → CharacterStringsLeft bytes rest → length rest ≡ 0 → is_txt_data bytes ≡ true
unfolding character_strings_within
character_strings_done bytes [] left e = by left.steps left.enough left.same where
  by : (steps : ℕ) → 0 < steps → character_strings_within steps [] ≡ is_txt_data bytes → is_txt_data bytes ≡ true
  by zero some same = absurd (omega arith)
  by (suc steps) some same = sym same
character_strings_done bytes (x ∷ rest) left e = absurd (omega arith)

pub character_strings_bad : (bytes rest : List ℕ) → CharacterStringsLeft bytes rest → 0 < length rest → character_string rest ≡ None → is_txt_data bytes ≡ false
unfolding character_strings_within
character_strings_bad bytes [] left some e = absurd (omega arith)
character_strings_bad bytes (x ∷ rest) left some e = by left.steps left.enough left.same where
  by : (steps : ℕ) → length (x ∷ rest) < steps → character_strings_within steps (x ∷ rest) ≡ is_txt_data bytes → is_txt_data bytes ≡ false
  by zero enough same = absurd (omega arith)
  by (suc steps) enough same = sym same ∙ ap (after_string (λ more. character_strings_within steps more)) e

pub character_strings_step : (bytes rest found later : List ℕ) → CharacterStringsLeft bytes rest → 0 < length rest → character_string rest ≡ Some (found, later) → CharacterStringsLeft bytes later
unfolding character_strings_within
character_strings_step bytes [] found later left some e = absurd (omega arith)
character_strings_step bytes (x ∷ rest) found later left some e = by left.steps left.enough left.same where
  by : (steps : ℕ) → length (x ∷ rest) < steps → character_strings_within steps (x ∷ rest) ≡ is_txt_data bytes → CharacterStringsLeft bytes later
  by zero enough same = absurd (omega arith)
  by (suc steps) enough same =
      let less = text_shorter (x ∷ rest) found later e in
      record { steps = steps; enough = omega arith; same = sym (ap (after_string (λ more. character_strings_within steps more)) e) ∙ same }

-- no string, and more octets than a size can say
pub none_read : (bytes : List ℕ) → length bytes ≡ 0 → is_txt_data bytes ≡ false
unfolding is_txt_data is_character_strings
none_read [] e = refl
none_read (x ∷ bytes) e = absurd (omega arith)

pub many_read : (bytes : List ℕ) → 65535 < length bytes → is_txt_data bytes ≡ false
unfolding is_txt_data
many_read bytes many = rw (lt-ltb 65535 (length bytes) many) refl

-- ---- options

-- what is left answers for the whole
pub record OptionsLeft (bytes rest : List ℕ) : Type 0 where
  pub steps : ℕ
  pub enough : length rest < steps
  pub same : are_some (options_within steps rest) ≡ is_options bytes

-- the others are options if all are
others_are : (o : OptionSeen) (read : Option (List OptionSeen)) → are_some (◌>>=◌ {B = List OptionSeen} read (λ others. Some (o ∷ others))) ≡ are_some read
others_are o None = refl
others_are o (Some others) = refl

pub options_start : (bytes : List ℕ) → OptionsLeft bytes bytes
unfolding is_options options_of
options_start bytes = record { steps = suc (length bytes); enough = omega arith; same = refl }

pub options_done : (bytes rest : List ℕ) → OptionsLeft bytes rest → length rest ≡ 0 → is_options bytes ≡ true
unfolding options_within
options_done bytes [] left e = by left.steps left.enough left.same where
  by : (steps : ℕ) → 0 < steps → are_some (options_within steps []) ≡ is_options bytes → is_options bytes ≡ true
  by zero some same = absurd (omega arith)
  by (suc steps) some same = sym same
options_done bytes (x ∷ rest) left e = absurd (omega arith)

abbrev then_options : (List ℕ → Option (List OptionSeen)) → Option (OptionSeen × List ℕ) → Option (List OptionSeen)
then_options more read = ◌>>=◌ {B = List OptionSeen} read (λ first. ◌>>=◌ {B = List OptionSeen} (more first.1) (λ others. Some (first.0 ∷ others)))

pub options_bad : (bytes rest : List ℕ) → OptionsLeft bytes rest → 0 < length rest → option rest ≡ None → is_options bytes ≡ false
unfolding options_within
options_bad bytes [] left some e = absurd (omega arith)
options_bad bytes (x ∷ rest) left some e = by left.steps left.enough left.same where
  by : (steps : ℕ) → length (x ∷ rest) < steps → are_some (options_within steps (x ∷ rest)) ≡ is_options bytes → is_options bytes ≡ false
  by zero enough same = absurd (omega arith)
  by (suc steps) enough same = sym same ∙ ap (λ (o : Option (OptionSeen × List ℕ)). are_some (then_options (options_within steps) o)) e

pub options_step : (bytes rest : List ℕ) (found : OptionSeen) (later : List ℕ) → OptionsLeft bytes rest → 0 < length rest → option rest ≡ Some (found, later) → OptionsLeft bytes later
unfolding options_within
options_step bytes [] found later left some e = absurd (omega arith)
options_step bytes (x ∷ rest) found later left some e = by left.steps left.enough left.same where
  by : (steps : ℕ) → length (x ∷ rest) < steps → are_some (options_within steps (x ∷ rest)) ≡ is_options bytes → OptionsLeft bytes later
  by zero enough same = absurd (omega arith)
  by (suc steps) enough same =
      let less = option_shorter (x ∷ rest) found later e in
      let read : are_some (options_within (suc steps) (x ∷ rest)) ≡ are_some (options_within steps later) = ap (λ (o : Option (OptionSeen × List ℕ)). are_some (then_options (options_within steps) o)) e ∙ others_are found (options_within steps later) in
      record { steps = steps; enough = omega arith; same = sym read ∙ same }

-- ---- windows

pub record WindowsLeft (bytes : List ℕ) (least : ℕ) (rest : List ℕ) : Type 0 where
  pub steps : ℕ
  pub enough : length rest < steps
  pub same : is_some (windows_within steps least rest) ≡ is_bitmap bytes

pub windows_start : (bytes : List ℕ) → WindowsLeft bytes 0 bytes
unfolding is_bitmap windows_of
windows_start bytes = record { steps = suc (length bytes); enough = omega arith; same = refl }

pub windows_done : (bytes : List ℕ) (least : ℕ) (rest : List ℕ) → WindowsLeft bytes least rest → length rest ≡ 0 → is_bitmap bytes ≡ true
unfolding windows_within
windows_done bytes least [] left e = by left.steps left.enough left.same where
  by : (steps : ℕ) → 0 < steps → is_some (windows_within steps least []) ≡ is_bitmap bytes → is_bitmap bytes ≡ true
  by zero some same = absurd (omega arith)
  by (suc steps) some same = sym same
windows_done bytes least (x ∷ rest) left e = absurd (omega arith)

abbrev then_windows : (ℕ → List ℕ → Option (List Window)) → Option (Window × List ℕ) → Option (List Window)
then_windows more read = ◌>>=◌ {A = Window × List ℕ} {B = List Window} read (λ first. ◌>>=◌ {A = List Window} {B = List Window} (more (suc first.0.number) first.1) (λ others. Some (first.0 ∷ others)))

some_others : (w : Window) (others : Option (List Window)) → is_some (◌>>=◌ {A = List Window} {B = List Window} others (λ ws. Some (w ∷ ws))) ≡ is_some others
some_others w None = refl
some_others w (Some others) = refl

pub windows_bad : (bytes : List ℕ) (least : ℕ) (rest : List ℕ) → WindowsLeft bytes least rest → 0 < length rest → window least rest ≡ None → is_bitmap bytes ≡ false
unfolding windows_within
windows_bad bytes least [] left some e = absurd (omega arith)
windows_bad bytes least (x ∷ rest) left some e = by left.steps left.enough left.same where
  by : (steps : ℕ) → length (x ∷ rest) < steps → is_some (windows_within steps least (x ∷ rest)) ≡ is_bitmap bytes → is_bitmap bytes ≡ false
  by zero enough same = absurd (omega arith)
  by (suc steps) enough same = sym same ∙ ap (λ (read : Option (Window × List ℕ)). is_some (then_windows (windows_within steps) read)) e

pub windows_step : (bytes : List ℕ) (least : ℕ) (rest : List ℕ) (w : Window) (later : List ℕ) → WindowsLeft bytes least rest → 0 < length rest → length later < length rest → window least rest ≡ Some (w, later) → WindowsLeft bytes (w.number + 1) later
unfolding windows_within
windows_step bytes least [] w later left some less e = absurd (omega arith)
windows_step bytes least (x ∷ rest) w later left some less e = by left.steps left.enough left.same where
  by : (steps : ℕ) → length (x ∷ rest) < steps → is_some (windows_within steps least (x ∷ rest)) ≡ is_bitmap bytes → WindowsLeft bytes (w.number + 1) later
  by zero enough same = absurd (omega arith)
  by (suc steps) enough same =
      let after : w.number + 1 ≡ suc w.number = omega arith in
      record {
        steps = steps;
        enough = omega (arith, enough, less);
        same = ap (λ (n : ℕ). is_some (windows_within steps n later)) after
            ∙ sym (some_others w (windows_within steps (suc w.number) later))
            ∙ sym (ap (λ (read : Option (Window × List ℕ)). is_some (then_windows (windows_within steps) read)) e)
            ∙ same;
      }
