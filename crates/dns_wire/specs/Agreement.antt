-- How far two lists of octets agree, ignoring ASCII case (RFC 4343 section 3).
use Rattle.std.specs.Prelude.{◌≡◌, ℕ, ◌++◌, length, reverse}
use Rattle.std.specs.Char.{eq_ignore_ascii_case}
use Rattle.std.specs.List.{common_prefix_len}
use Rattle.std.specs.Str.{str_to_ascii_lowercase}
use Rattle.dns_wire.specs.Octets.{Octets}

-- how many octets agree from the first on
abbrev pub agreeing_prefix : Octets → Octets → ℕ
agreeing_prefix xs ys = common_prefix_len eq_ignore_ascii_case xs ys

-- how many octets agree from the last back
abbrev pub agreeing_end : Octets → Octets → ℕ
agreeing_end xs ys = agreeing_prefix (reverse xs) (reverse ys)

-- the same in words: both end in that many octets, which are the same in lowercase
pub record EndAlike (xs ys : Octets) (count : ℕ) : Type 0 where
  pub before : Octets
  pub before_other : Octets
  pub end : Octets
  pub other : Octets
  pub first_is : xs ≡ before ++ end
  pub second_is : ys ≡ before_other ++ other
  pub long : length end ≡ count
  pub alike : str_to_ascii_lowercase end ≡ str_to_ascii_lowercase other
