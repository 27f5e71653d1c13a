-- A text in two parts, at its first LF.
use Rattle.std.specs.Prelude.{◌≡◌, ◌≢◌, ◌⊎◌, ◌==◌, if◌then◌else◌, [], ◌∷◌, ◌++◌}
use Rattle.std.specs.List.{AllByRecursion}
use Rattle.dns_wire.specs.Octets.{Octets}
use Rattle.dns_text.specs.Hexadecimal.{trim}

-- what comes before the first LF; if there is none, the whole text
unfoldable pub before_lf : Octets → Octets
before_lf [] = []
before_lf (b ∷ rest) = if b == 10 then [] else b ∷ before_lf rest

-- what comes after the first LF; if there is none, nothing
unfoldable pub after_lf : Octets → Octets
after_lf [] = []
after_lf (b ∷ rest) = if b == 10 then rest else after_lf rest

-- the texts of the two messages in a text; whitespace at its end does not count
abbrev pub first_text : Octets → Octets
first_text text = before_lf (trim text)

abbrev pub second_text : Octets → Octets
second_text text = after_lf (trim text)

-- ---- in other words

-- there is no LF in the text
abbrev pub HasNoLF : Octets → Type 0
HasNoLF text = AllByRecursion (λ b. b ≢ 10) text

-- one LF is between the parts, and none in the first; or there is none in the text, which is the first, and the second is empty
abbrev pub HasParts : Octets → Octets → Octets → Type 0
HasParts text first second = (HasNoLF first × (text ≡ first ++ 10 ∷ second)) ⊎ (HasNoLF text × (first ≡ text) × (second ≡ []))
