-- Labels that are the same, ignoring ASCII case.
use Rattle.std.proofs.Common.{◌≡◌, ℕ, ◌≤◌, Bool, true, false, List, [], ◌∷◌, ◌++◌, length, Option, Some, None, refl, sym, ap, ◌∙◌, arith}
use Rattle.std.specs.Prelude.{map, ◌&&◌, nat_lt}
use Rattle.std.specs.Char.{to_ascii_lowercase}
use Rattle.std.specs.Str.{str_eq_ignore_ascii_case, str_to_ascii_lowercase}
use Rattle.std.specs.Cmp.Lexicographic.{bytes_decides}
use Rattle.std.proofs.lemmas.Bool.{ltb-true}
use Rattle.std.proofs.lemmas.List.{length-append, length-map}
use lib.Pointwise.{pointwise_long}
use Rattle.dns_wire.specs.Compression.{labels_alike, reads_as}
use Rattle.dns_wire.specs.Names.{labels_wire, wire, lowered}
use Rattle.dns_wire.specs.Pointers.{short_name}
use Rattle.dns_wire.proofs.Walk.{wire_long}

-- ---- texts

and_parts : (a b : Bool) → (a && b) ≡ true → (a ≡ true) × (b ≡ true)
and_parts true b e = (refl, e)
and_parts false b e = absurd cc

text_lowered : (a b : List ℕ) → str_eq_ignore_ascii_case a b ≡ true → str_to_ascii_lowercase b ≡ str_to_ascii_lowercase a
text_lowered a b e = sym ((bytes_decides (map to_ascii_lowercase a) (map to_ascii_lowercase b)).0 e)

lowered_text : (a b : List ℕ) → str_to_ascii_lowercase b ≡ str_to_ascii_lowercase a → str_eq_ignore_ascii_case a b ≡ true
lowered_text a b e = (bytes_decides (map to_ascii_lowercase a) (map to_ascii_lowercase b)).1 (sym e)

text_long : (a b : List ℕ) → str_eq_ignore_ascii_case a b ≡ true → length a ≡ length b
text_long a b e = sym (length-map a to_ascii_lowercase) ∙ ap length (sym (text_lowered a b e)) ∙ length-map b to_ascii_lowercase

-- ---- labels

pub alike_self : (labels : List (List ℕ)) → labels_alike labels labels ≡ true
alike_self [] = refl
alike_self (label ∷ labels) = rw (lowered_text label label refl) (alike_self labels)

pub alike_prefix : (prefix xs ys : List (List ℕ)) → labels_alike xs ys ≡ true → labels_alike (prefix ++ xs) (prefix ++ ys) ≡ true
alike_prefix [] xs ys e = e
alike_prefix (label ∷ prefix) xs ys e = rw (lowered_text label label refl) (alike_prefix prefix xs ys e)

-- there are as many
pub alike_count : (xs ys : List (List ℕ)) → labels_alike xs ys ≡ true → length xs ≡ length ys
alike_count xs ys e = pointwise_long str_eq_ignore_ascii_case xs ys e

-- they take as many octets
pub alike_long : (xs ys : List (List ℕ)) → labels_alike xs ys ≡ true → length (labels_wire xs) ≡ length (labels_wire ys)
alike_long [] [] e = refl
alike_long [] (y ∷ ys) e = absurd cc
alike_long (x ∷ xs) [] e = absurd cc
alike_long (x ∷ xs) (y ∷ ys) e =
    let p = and_parts (str_eq_ignore_ascii_case x y) (labels_alike xs ys) e in
    omega (arith, text_long x y p.0, alike_long xs ys p.1, length-append x (labels_wire xs), length-append y (labels_wire ys))

-- they are equal when lowered
pub alike_lowered : (xs ys : List (List ℕ)) → labels_alike xs ys ≡ true → lowered ys ≡ lowered xs
alike_lowered [] [] e = refl
alike_lowered [] (y ∷ ys) e = absurd cc
alike_lowered (x ∷ xs) [] e = absurd cc
alike_lowered (x ∷ xs) (y ∷ ys) e =
    let p = and_parts (str_eq_ignore_ascii_case x y) (labels_alike xs ys) e in
    let first = text_lowered x y p.0 in
    let others = alike_lowered xs ys p.1 in
    cc

pub lowered_alike : (xs ys : List (List ℕ)) → lowered ys ≡ lowered xs → labels_alike xs ys ≡ true
lowered_alike [] [] e = refl
lowered_alike [] (y ∷ ys) e = absurd cc
lowered_alike (x ∷ xs) [] e = absurd cc
lowered_alike (x ∷ xs) (y ∷ ys) e =
    let first : str_to_ascii_lowercase y ≡ str_to_ascii_lowercase x = cc in
    let others : lowered ys ≡ lowered xs = cc in
    rw (lowered_text x y first) (lowered_alike xs ys others)

-- ---- the limit of 255 octets on what is read

abbrev pub Found : Type 0
Found = Option (List (List ℕ) × ℕ)

unalike : (xs ys : List (List ℕ)) → (labels_alike xs ys ≡ true → ⊥) → labels_alike xs ys ≡ false
unalike xs ys differ = by (labels_alike xs ys) refl where
  by : (b : Bool) → labels_alike xs ys ≡ b → labels_alike xs ys ≡ false
  by true e = absurd (differ e)
  by false e = e

-- it changes nothing for a name, which is as long as what is alike
pub short_reads : (labels : List (List ℕ)) (read : Found) → length (wire labels) ≤ 255 → reads_as labels (short_name read) ≡ reads_as labels read
short_reads labels None short = refl
short_reads labels (Some (there, end)) short = by (nat_lt 255 (length (wire there))) refl where
  by : (b : Bool) → nat_lt 255 (length (wire there)) ≡ b → reads_as labels (short_name (Some (there, end))) ≡ labels_alike labels there
  by true e = rw e (sym (unalike labels there (λ alike. let over = ltb-true 255 (length (wire there)) e in omega (arith, over, short, alike_long labels there alike, wire_long labels, wire_long there))))
  by false e = rw e refl

-- and what is not alike without it is not alike with it
pub short_differs : (labels : List (List ℕ)) (read : Found) → reads_as labels read ≡ false → reads_as labels (short_name read) ≡ false
short_differs labels None differ = refl
short_differs labels (Some (there, end)) differ = by (nat_lt 255 (length (wire there))) refl where
  by : (b : Bool) → nat_lt 255 (length (wire there)) ≡ b → reads_as labels (short_name (Some (there, end))) ≡ false
  by true e = rw e refl
  by false e = rw e differ
