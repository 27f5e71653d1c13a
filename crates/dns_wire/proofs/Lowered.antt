-- Names in lowercase.
use Rattle.std.proofs.Common.{◌≡◌, ℕ, List, [], ◌∷◌, ◌++◌, length, refl, sym, ap, ◌∙◌, append_assoc, arith}
use Rattle.std.specs.List.{AllByRecursion}
use Rattle.std.specs.Char.{to_ascii_lowercase}
use Rattle.std.specs.Str.{str_to_ascii_lowercase}
use Rattle.std.proofs.lemmas.Str.Ascii.{lowercase_is}
use Rattle.std.proofs.lemmas.List.{map-append, length-map, append-nil, length-append}
use Rattle.std.proofs.lemmas.Option.{some_pair_parts}
use Rattle.dns_wire.specs.Names.{labels_wire, wire, IsLabel, IsName, plain_name, lowered}
use Rattle.dns_wire.proofs.Walk.{plain_wire, wire_long}

-- lowercase letters change no length octet, since 63 is less than `A`
pub lower_wire : (labels : List (List ℕ)) → AllByRecursion IsLabel labels → str_to_ascii_lowercase (wire labels) ≡ wire (lowered labels)
lower_wire [] is = refl
lower_wire (label ∷ labels) is =
    let low : to_ascii_lowercase (length label) ≡ length (str_to_ascii_lowercase label) = (lowercase_is (length label)).1 (omega (arith, is.0.1)) ∙ sym (length-map label to_ascii_lowercase) in
    let body : str_to_ascii_lowercase (label ++ labels_wire labels ++ 0 ∷ []) ≡ str_to_ascii_lowercase label ++ labels_wire (lowered labels) ++ 0 ∷ [] =
    ap str_to_ascii_lowercase (append_assoc label (labels_wire labels) (0 ∷ [])) ∙ map-append to_ascii_lowercase label (wire labels) ∙ ap (λ (l : List ℕ). str_to_ascii_lowercase label ++ l) (lower_wire labels is.1) ∙ sym (append_assoc (str_to_ascii_lowercase label) (labels_wire (lowered labels)) (0 ∷ [])) in
    rw (low, body) refl

-- they change no length
pub lowered_long : (labels : List (List ℕ)) → length (wire (lowered labels)) ≡ length (wire labels)
lowered_long [] = refl
lowered_long (label ∷ labels) = omega (arith, lowered_long labels, length-map label to_ascii_lowercase, wire_long labels, wire_long (label ∷ labels), wire_long (lowered labels), wire_long (lowered (label ∷ labels)), length-append label (labels_wire labels), length-append (str_to_ascii_lowercase label) (labels_wire (lowered labels)))

sizes_lowered : (labels : List (List ℕ)) → AllByRecursion IsLabel labels → AllByRecursion IsLabel (lowered labels)
sizes_lowered [] is = tt
sizes_lowered (label ∷ labels) is = ((omega (arith, is.0.0, length-map label to_ascii_lowercase), omega (arith, is.0.1, length-map label to_ascii_lowercase)), sizes_lowered labels is.1)

pub name_lowered : (labels : List (List ℕ)) → IsName labels → IsName (lowered labels)
name_lowered labels is = record { sizes = sizes_lowered labels is.sizes; size = omega (arith, is.size, lowered_long labels) }

-- the octets of a name begin no other name's
pub wire_parts : (a b : List (List ℕ)) (x y : List ℕ) → IsName a → IsName b → wire a ++ x ≡ wire b ++ y → (a ≡ b) × (x ≡ y)
wire_parts a b x y is js e = some_pair_parts a b x y (sym (plain_wire a x is.sizes is.size) ∙ ap plain_name e ∙ plain_wire b y js.sizes js.size)

-- equal octets are one name's
pub wire_one : (a b : List (List ℕ)) → IsName a → IsName b → wire a ≡ wire b → a ≡ b
wire_one a b is js e = (wire_parts a b [] [] is js (append-nil (wire a) ∙ e ∙ sym (append-nil (wire b)))).0
