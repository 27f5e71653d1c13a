-- What a test shows of each RDATA format of the table, and of octets without an RDATA format, it shows of the RDATA format of any number.
use Rattle.std.proofs.Common.{◌≡◌, ℕ, Bool, true, false, cond, List, [], ◌∷◌, Option, Some}
use Rattle.std.specs.Prelude.{◌==◌, ◌&&◌, unwrap_or}
use Rattle.std.specs.Cmp.{first_so, second_so}
use Rattle.dns_record.specs.Kinds.{Kind}
use Rattle.dns_record.specs.Formats.{rdata_formats, format_under, rdata_format, format_unknown}

-- the test passes each RDATA format
abbrev pub each_format : (List Kind → Bool) → List (ℕ × List Kind) → Bool
each_format good [] = true
each_format good (first ∷ others) = good first.1 && each_format good others

chosen_good : (good : List Kind → Bool) (b : Bool) (kinds : List Kind) (later : Option (List Kind)) → good kinds ≡ true → good (unwrap_or later format_unknown) ≡ true → good (unwrap_or (cond b (Some kinds) later) format_unknown) ≡ true
chosen_good good true kinds later here there = here
chosen_good good false kinds later here there = there

found_good : (good : List Kind → Bool) (table : List (ℕ × List Kind)) (rtype : ℕ) → each_format good table ≡ true → good format_unknown ≡ true → good (unwrap_or (format_under table rtype) format_unknown) ≡ true
found_good good [] rtype each unknown = unknown
found_good good (first ∷ others) rtype each unknown = chosen_good good (rtype == first.0) first.1 (format_under others rtype) (first_so _ _ each) (found_good good others rtype (second_so _ _ each) unknown)

pub of_each_format : (good : List Kind → Bool) → (each_format good rdata_formats && good format_unknown) ≡ true → (rtype : ℕ) → good (rdata_format rtype) ≡ true
of_each_format good e rtype = found_good good rdata_formats rtype (first_so _ _ e) (second_so _ _ e)
