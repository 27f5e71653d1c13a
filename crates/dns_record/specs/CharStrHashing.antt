-- What a character string feeds a hasher. Strings that are the same, ignoring ASCII case, feed it the same octets.
use Rattle.std.specs.Prelude.{◌≡◌, ℕ, List, [], ◌∷◌, true}
use Rattle.std.specs.Cmp.Lexicographic.{bytes_decides}
use Rattle.std.specs.Str.{str_to_ascii_lowercase}
use Rattle.std.proofs.Common.{ap}
use Rattle.dns_record.specs.CharStrs.{charstr_wire, same_charstr}

-- one write: the number of the octets, and the octets in lowercase
abbrev pub charstr_writes : List ℕ → List (List ℕ)
charstr_writes octets = charstr_wire (str_to_ascii_lowercase octets) ∷ []

-- strings that are the same are fed alike
pub same_charstrs_alike : (a b : List ℕ) → same_charstr a b ≡ true → charstr_writes a ≡ charstr_writes b
same_charstrs_alike a b e = ap (λ (l : List ℕ). charstr_wire l ∷ []) ((bytes_decides (str_to_ascii_lowercase a) (str_to_ascii_lowercase b)).0 e)
