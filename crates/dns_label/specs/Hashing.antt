-- What a label feeds a hasher. Labels that are the same, ignoring ASCII case, feed it the same octets.
use Rattle.std.specs.Prelude.{◌≡◌, ℕ, List, [], ◌∷◌, true}
use Rattle.std.specs.Ordering.{is_eq}
use Rattle.std.specs.declared.cmp.Ordering.TheVariants.{Equal}
use Rattle.std.specs.Cmp.{Equal-is}
use Rattle.std.specs.FinMap.{nat_cmp-IsAntisymmetric, slice_cmp-IsAntisymmetric}
use Rattle.std.specs.Str.{str_to_ascii_lowercase}
use Rattle.std.proofs.Common.{ap}
use Rattle.dns_label.specs.Labels.{label_wire}
use Rattle.dns_label.specs.Order.{label_cmp}

-- one write: the label's octets in lowercase
abbrev pub label_writes : List ℕ → List (List ℕ)
label_writes contents = label_wire (str_to_ascii_lowercase contents) ∷ []

-- labels that are the same are equal in lowercase
pub lowered_from_order : (a b : List ℕ) → label_cmp a b ≡ Equal → str_to_ascii_lowercase a ≡ str_to_ascii_lowercase b
lowered_from_order a b e = slice_cmp-IsAntisymmetric nat_cmp-IsAntisymmetric (str_to_ascii_lowercase a) (str_to_ascii_lowercase b) e

-- labels that are the same are fed alike
pub same_labels_alike : (a b : List ℕ) → is_eq (label_cmp a b) ≡ true → label_writes a ≡ label_writes b
same_labels_alike a b e = ap (λ (l : List ℕ). label_wire l ∷ []) (lowered_from_order a b ((Equal-is (label_cmp a b)).0 e))
