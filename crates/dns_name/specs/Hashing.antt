-- What a name feeds a hasher. Names that are the same, ignoring ASCII case, feed it the same octets.
use Rattle.std.specs.Prelude.{◌≡◌, ℕ, List, [], ◌∷◌, true, reverse}
use Rattle.std.specs.Ordering.{is_eq}
use Rattle.std.specs.declared.cmp.Ordering.TheVariants.{Equal}
use Rattle.std.specs.Cmp.{Equal-is}
use Rattle.std.specs.FinMap.{nat_cmp-IsAntisymmetric, slice_cmp-IsAntisymmetric}
use Rattle.std.proofs.Common.{sym, ap, ◌∙◌}
use Rattle.std.proofs.lemmas.List.{reverse-reverse}
use Rattle.dns_wire.specs.Names.{wire, lowered}
use Rattle.dns_wire.specs.Reversed.{reversed_wire}
use Rattle.dns_name.specs.Order.{key, key_cmp}

-- one write: the octets of the name in lowercase
abbrev pub name_writes : List (List ℕ) → List (List ℕ)
name_writes labels = wire (lowered labels) ∷ []

-- one write: the octets of the name in lowercase, from the root on
abbrev pub reversed_writes : List (List ℕ) → List (List ℕ)
reversed_writes labels = reversed_wire (lowered labels) ∷ []

-- equal keys are of names that are equal when lowered
pub lowered_from_keys : (a b : List (List ℕ)) → key_cmp (key a) (key b) ≡ Equal → lowered a ≡ lowered b
lowered_from_keys a b e =
    sym (reverse-reverse (lowered a)) ∙ ap reverse (slice_cmp-IsAntisymmetric (slice_cmp-IsAntisymmetric nat_cmp-IsAntisymmetric) (key a) (key b) e) ∙ reverse-reverse (lowered b)

-- names that are the same are fed alike
pub same_names_alike : (a b : List (List ℕ)) → is_eq (key_cmp (key a) (key b)) ≡ true → name_writes a ≡ name_writes b
same_names_alike a b e = ap (λ (labels : List (List ℕ)). wire labels ∷ []) (lowered_from_keys a b ((Equal-is (key_cmp (key a) (key b))).0 e))

pub same_reversed_alike : (a b : List (List ℕ)) → is_eq (key_cmp (key a) (key b)) ≡ true → reversed_writes a ≡ reversed_writes b
same_reversed_alike a b e = ap (λ (labels : List (List ℕ)). reversed_wire labels ∷ []) (lowered_from_keys a b ((Equal-is (key_cmp (key a) (key b))).0 e))
