-- What the table of further types has.
use Rattle.std.proofs.Common.{◌≡◌, ℕ, Bool, true, false, cond, List, [], ◌∷◌, Some, refl, sym, subst}
use Rattle.std.specs.Prelude.{◌&&◌, ◌==◌, not, Option, None, ⊤}
use Rattle.std.specs.Cmp.{first_so, second_so}
use Rattle.std.proofs.lemmas.Bool.{eqb-true}
use Rattle.dns_record.specs.Kinds.{Kind}
use Rattle.dns_record.specs.Formats.{format_under}
use Rattle.dns_record.specs.Types.{is_lowercased, opt_number}
use Rattle.dns_record.specs.FurtherFormats.{further_by, further_formats}
use Rattle.dns_message.proofs.JoinedFields.{all_usual}
use Rattle.dns_record.specs.declared.formats.Formats.{Formats}
use Rattle.dns_record.specs.declared.formats.Formats.TheVariants.{Usual, Listed}

-- ---- the table

-- a further type is none of the usual ones whose names are in lowercase, and not OPT
abbrev pub Allowed : Option (List Kind) → ℕ → Type 0
Allowed None rtype = ⊤
Allowed (Some kinds) rtype = (is_lowercased rtype ≡ false) × ((rtype == opt_number) ≡ false) × (all_usual kinds ≡ true)

abbrev is_allowed : ℕ × List Kind → Bool
is_allowed (rtype, kinds) = not (is_lowercased rtype) && (not (rtype == opt_number) && all_usual kinds)

abbrev all_allowed : List (ℕ × List Kind) → Bool
all_allowed [] = true
all_allowed (first ∷ others) = is_allowed first && all_allowed others

negated : (b : Bool) → not b ≡ true → b ≡ false
negated true e = absurd cc
negated false e = refl

allowed_first : (number : ℕ) (kinds : List Kind) → is_allowed (number, kinds) ≡ true → Allowed (Some kinds) number
allowed_first number kinds e =
    let last = second_so (not (is_lowercased number)) (not (number == opt_number) && all_usual kinds) e in (
      negated (is_lowercased number) (first_so (not (is_lowercased number)) (not (number == opt_number) && all_usual kinds) e),
      negated (number == opt_number) (first_so (not (number == opt_number)) (all_usual kinds) last),
      second_so (not (number == opt_number)) (all_usual kinds) last,
    )

one_of_two : (b : Bool) (kinds : List Kind) (later : Option (List Kind)) (rtype number : ℕ) → (rtype == number) ≡ b → Allowed (Some kinds) number → Allowed later rtype → Allowed (cond b (Some kinds) later) rtype
one_of_two true kinds later rtype number is here there = subst (λ (n : ℕ). Allowed (Some kinds) n) (sym (eqb-true rtype number is)) here
one_of_two false kinds later rtype number is here there = there

allowed_under : (table : List (ℕ × List Kind)) (rtype : ℕ) → all_allowed table ≡ true → Allowed (format_under table rtype) rtype
allowed_under [] rtype e = tt
allowed_under (first ∷ others) rtype e =
    one_of_two (rtype == first.0) first.1 (format_under others rtype) rtype first.0 refl (allowed_first first.0 first.1 (first_so (is_allowed first) (all_allowed others) e)) (allowed_under others rtype (second_so (is_allowed first) (all_allowed others) e))

pub allowed_by : (formats : Formats) (rtype : ℕ) → Allowed (further_by formats rtype) rtype
allowed_by Usual rtype = tt
allowed_by Listed rtype = allowed_under further_formats rtype refl
