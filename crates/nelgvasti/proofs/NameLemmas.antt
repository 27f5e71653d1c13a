-- Names that are given as octets, and numbers for orders.
use Rattle.std.proofs.Common.{◌≡◌, ℕ, ℤ, List, Some, None, refl, sym, ap, ◌∙◌, to_z, of_z, w32}
use Rattle.std.specs.declared.cmp.Ordering.{Ordering}
use Rattle.std.specs.declared.cmp.Ordering.TheVariants.{Less, Equal, Greater}
use Rattle.dns_wire.specs.Names.{plain_name}
use Rattle.dns_wire.specs.Reading.{all_of}
use Rattle.dns_wire.proofs.Spelled.{labels_of_wire, name_octets}
use Rattle.nelgvasti.specs.Calls.{HasName, HasNoName, order_number}

pub named : (bytes : List ℕ) (labels : List (List ℕ)) → all_of (plain_name bytes) ≡ Some labels → HasName bytes labels
named bytes labels read = name_octets bytes labels read

pub nameless : (bytes : List ℕ) → all_of (plain_name bytes) ≡ None → HasNoName bytes
nameless bytes none = λ labels is e. (let clash = sym none ∙ ap (λ (l : List ℕ). all_of (plain_name l)) e ∙ (labels_of_wire labels is).0 in absurd cc)

-- a number for an order fits 32 bits
pub number_kept : (order : Ordering) (number : ℤ) → number ≡ order_number order → to_z w32 (of_z w32 number) ≡ order_number order
number_kept order number is = ap (λ (z : ℤ). to_z w32 (of_z w32 z)) is ∙ by order where
  by : (order : Ordering) → to_z w32 (of_z w32 (order_number order)) ≡ order_number order
  by Less = refl
  by Equal = refl
  by Greater = refl
