-- Options one after another, as a test and in words.
use Rattle.std.proofs.Common.{◌≡◌, ℕ, zero, suc, ◌+◌, ◌<◌, ◌^◌, Bool, true, false, not, cond, ltb, List, [], ◌∷◌, ◌++◌, length, take, drop, Option, Some, None, refl, sym, ap, subst, ◌∙◌, arith}
use Rattle.std.specs.Prelude.{◌&&◌}
use Rattle.std.specs.Int.{w16, from_be_bytes}
use Rattle.std.proofs.lemmas.Bool.{le-ltb, ltb-false}
use Rattle.std.proofs.lemmas.List.{take_at, drop_at, take-append-drop, length-append, length-take}
use Rattle.std.proofs.lemmas.Option.{some_pair_parts}
use Rattle.dns_wire.specs.Reading.{number, octets}
use Rattle.dns_wire.specs.Steps.{◌>>=◌}
use Rattle.dns_record.specs.InPlace.{AreOptions, FilledBy}
use Rattle.dns_record.specs.Options.{OptionSeen, option, options_within, options_of, are_some, is_options, is_option_data}
use Rattle.dns_record.proofs.Places.{octets_spelled, octets_read}
use Rattle.dns_record.proofs.Stepped.{Stepped, stepped}

-- ---- numbers of two octets

record IsNumber (bytes : List ℕ) (n : ℕ) (rest : List ℕ) : Type 0 where
  digits : List ℕ
  spelled : bytes ≡ digits ++ rest
  two : length digits ≡ 2
  is : n ≡ from_be_bytes w16 digits

number_is : (bytes : List ℕ) (n : ℕ) (rest : List ℕ) → number w16 bytes ≡ Some (n, rest) → IsNumber bytes n rest
number_is bytes n rest e = by (ltb (length bytes) 2) refl e where
  by : (b : Bool) → ltb (length bytes) 2 ≡ b → cond {A = Option (ℕ × List ℕ)} b None (Some (from_be_bytes w16 (take 2 bytes), drop 2 bytes)) ≡ Some (n, rest) → IsNumber bytes n rest
  by true few h = absurd cc
  by false few h =
      let same = some_pair_parts (from_be_bytes w16 (take 2 bytes)) n (drop 2 bytes) rest h in
      record {
        digits = take 2 bytes;
        spelled = sym (take-append-drop 2 bytes) ∙ ap (λ (l : List ℕ). take 2 bytes ++ l) same.1;
        two = omega (arith, length-take 2 bytes, ltb-false _ _ few);
        is = sym same.0;
      }

number_again : (digits rest : List ℕ) → length digits ≡ 2 → number w16 (digits ++ rest) ≡ Some (from_be_bytes w16 digits, rest)
number_again digits rest two =
    let fits : ltb (length (digits ++ rest)) 2 ≡ false = le-ltb _ _ (omega (arith, length-append digits rest, two)) in
    rw (fits, take_at digits rest 2 two, drop_at digits rest 2 two) refl

-- ---- an option

record IsOption (bytes : List ℕ) (o : OptionSeen) (rest : List ℕ) : Type 0 where
  code : List ℕ
  size : List ℕ
  spelled : bytes ≡ code ++ (size ++ (o.content ++ rest))
  code_two : length code ≡ 2
  size_two : length size ≡ 2
  code_is : o.code ≡ from_be_bytes w16 code
  size_is : length o.content ≡ from_be_bytes w16 size

abbrev these : ℕ → List ℕ → OptionSeen
these code content = record { code = code; content = content }

option_is : (bytes : List ℕ) (o : OptionSeen) (rest : List ℕ) → option bytes ≡ Some (o, rest) → IsOption bytes o rest
option_is bytes o rest e =
    let s : Stepped (number w16 bytes) (λ code. ◌>>=◌ {B = OptionSeen × List ℕ} (number w16 code.1) (λ size. ◌>>=◌ {B = OptionSeen × List ℕ} (octets size.0 size.1) (λ content. Some (these code.0 content.0, content.1)))) (o, rest) = stepped _ _ _ e in
    let t : Stepped (number w16 s.value.1) (λ size. ◌>>=◌ {B = OptionSeen × List ℕ} (octets size.0 size.1) (λ content. Some (these s.value.0 content.0, content.1))) (o, rest) = stepped _ _ _ s.later in
    let u : Stepped (octets t.value.0 t.value.1) (λ content. Some (these s.value.0 content.0, content.1)) (o, rest) = stepped _ _ _ t.later in
    let code = number_is bytes s.value.0 s.value.1 s.first in
    let size = number_is s.value.1 t.value.0 t.value.1 t.first in
    let content = octets_spelled t.value.0 t.value.1 u.value.0 u.value.1 u.first in
    let same = some_pair_parts (these s.value.0 u.value.0) o u.value.1 rest u.later in
    let here : IsOption bytes (these s.value.0 u.value.0) u.value.1 = record {
      code = code.digits;
      size = size.digits;
      spelled = code.spelled ∙ ap (λ (l : List ℕ). code.digits ++ l) (size.spelled ∙ ap (λ (l : List ℕ). size.digits ++ l) content.1);
      code_two = code.two;
      size_two = size.two;
      code_is = code.is;
      size_is = content.0 ∙ size.is;
    } in
    subst (λ (p : OptionSeen). IsOption bytes p rest) same.0 (subst (λ (l : List ℕ). IsOption bytes (these s.value.0 u.value.0) l) same.1 here)

option_again : (o : OptionSeen) (code size rest : List ℕ) → length code ≡ 2 → length size ≡ 2 → o.code ≡ from_be_bytes w16 code → length o.content ≡ from_be_bytes w16 size
    → option (code ++ (size ++ (o.content ++ rest))) ≡ Some (o, rest)
option_again o code size rest two too is sized =
    let first = number_again code (size ++ (o.content ++ rest)) two in
    let second = number_again size (o.content ++ rest) too in
    let third : octets (from_be_bytes w16 size) (o.content ++ rest) ≡ Some (o.content, rest) = octets_read (from_be_bytes w16 size) o.content rest sized in
    rw (first, second, third) (ap (λ (n : ℕ). Some (these n o.content, rest)) (sym is))

-- ---- options one after another

filled : (steps : ℕ) (bytes : List ℕ) (found : List OptionSeen) → options_within steps bytes ≡ Some found → FilledBy found bytes
unfolding options_within
filled zero bytes found e = absurd cc
filled (suc steps) [] found e = by found cc where
  by : (found : List OptionSeen) → found ≡ [] → FilledBy found []
  by [] h = refl
  by (o ∷ os) h = absurd cc
filled (suc steps) (b ∷ bytes) found e =
    let s : Stepped (option (b ∷ bytes)) (λ first. ◌>>=◌ {B = List OptionSeen} (options_within steps first.1) (λ others. Some (first.0 ∷ others))) found = stepped _ _ _ e in
    let t : Stepped (options_within steps s.value.1) (λ others. Some (s.value.0 ∷ others)) found = stepped _ _ _ s.later in
    let o = option_is (b ∷ bytes) s.value.0 s.value.1 s.first in
    let same : s.value.0 ∷ t.value ≡ found = some_is t.later in
    subst (λ (l : List OptionSeen). FilledBy l (b ∷ bytes)) same
    (o.code, o.size, s.value.1, o.spelled, o.code_two, o.size_two, o.code_is, o.size_is, filled steps s.value.1 t.value t.first) where
      some_is : {x y : List OptionSeen} → ◌≡◌ {A = Option (List OptionSeen)} (Some x) (Some y) → x ≡ y
      some_is h = cc

some_octet : (code rest : List ℕ) → length code ≡ 2 → (b : ℕ) × (bytes : List ℕ) × (code ++ rest ≡ b ∷ bytes)
some_octet [] rest two = absurd (omega arith)
some_octet (b ∷ code) rest two = (b, code ++ rest, refl)

within : (found : List OptionSeen) (steps : ℕ) (bytes : List ℕ) → FilledBy found bytes → length bytes < steps → options_within steps bytes ≡ Some found
unfolding options_within
within found zero bytes is enough = absurd (omega arith)
within [] (suc steps) bytes is enough = ap (options_within (suc steps)) is
within (o ∷ others) (suc steps) bytes (code, size, rest, spelled, two, too, is, sized, later) enough =
    let some = some_octet code (size ++ (o.content ++ rest)) two in
    let whole : bytes ≡ some.0 ∷ some.1 = spelled ∙ some.2 in
    let read : option (some.0 ∷ some.1) ≡ Some (o, rest) = ap option (sym some.2) ∙ option_again o code size rest two too is sized in
    let long : length bytes ≡ 4 + (length o.content + length rest) = omega (arith, ap length spelled, length-append code (size ++ (o.content ++ rest)), length-append size (o.content ++ rest), length-append o.content rest, two, too) in
    let more : options_within steps rest ≡ Some others = within others steps rest later (omega (arith, enough, long)) in
    ap (options_within (suc steps)) whole ∙ rw (read, more) refl

pub options_are : (bytes : List ℕ) → is_option_data bytes ≡ true → AreOptions bytes
unfolding is_option_data is_options options_of
options_are bytes e =
    let parts = both (not (ltb 65535 (length bytes))) (are_some (options_within (suc (length bytes)) bytes)) e in
    by (options_within (suc (length bytes)) bytes) refl parts.1 (few (ltb 65535 (length bytes)) refl parts.0) where
      both : (a b : Bool) → (a && b) ≡ true → (a ≡ true) × (b ≡ true)
      both true b h = (refl, h)
      both false b h = absurd cc

      few : (b : Bool) → ltb 65535 (length bytes) ≡ b → not b ≡ true → length bytes < 2 ^ 16
      few true le h = absurd cc
      few false le h = omega (arith, ltb-false 65535 (length bytes) le)

      by : (read : Option (List OptionSeen)) → options_within (suc (length bytes)) bytes ≡ read → are_some read ≡ true → length bytes < 2 ^ 16 → AreOptions bytes
      by None is h short = absurd cc
      by (Some found) is h short = record { options = found; filled = filled (suc (length bytes)) bytes found is; short = short }

pub options_found : (bytes : List ℕ) (o : AreOptions bytes) → options_of bytes ≡ Some o.options
unfolding options_of
options_found bytes o = within o.options (suc (length bytes)) bytes o.filled (omega arith)

pub are_these_options : (bytes : List ℕ) → AreOptions bytes → is_option_data bytes ≡ true
unfolding is_option_data is_options
are_these_options bytes o =
    let few : ltb 65535 (length bytes) ≡ false = le-ltb _ _ (omega (arith, o.short)) in
    let good : are_some (options_of bytes) ≡ true = ap are_some (options_found bytes o) in
    rw (few, good) refl

-- what is after an option is shorter
pub option_shorter : (bytes : List ℕ) (found : OptionSeen) (rest : List ℕ) → option bytes ≡ Some (found, rest) → length rest < length bytes
option_shorter bytes found rest e =
    let o = option_is bytes found rest e in
    omega (arith, ap length o.spelled, length-append o.code (o.size ++ (found.content ++ rest)), length-append o.size (found.content ++ rest), length-append found.content rest, o.code_two, o.size_two)
