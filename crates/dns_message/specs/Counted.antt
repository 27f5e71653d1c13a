-- Which items of a message are counted, and in what order (RFC 1035 section 4.1.1).
use Rattle.std.specs.Prelude.{◌≡◌, ◌⊎◌, ℕ, ◌+◌, ◌*◌, ◌<◌, ◌≤◌, List, ◌∷◌, ◌++◌}
use Rattle.std.specs.Int.{w16}
use Rattle.dns_message.specs.Messages.{Slot, slot_section, slot_index}
use Rattle.dns_wire.specs.Octets.{Octets}
use Rattle.dns_record.specs.InPlace.{NumberAt}

-- There are four sections, and the index is below the section's count, which is in the header as a number of 16 bits: the
-- first of the four after four octets.
pub record IsCounted (m : Octets) (section index : ℕ) : Type 0 where
  pub four : section ≤ 3
  pub count : ℕ
  pub occurs : NumberAt m (4 + 2 * section) w16 count (4 + 2 * section + 2)
  pub below : index < count

-- an item is earlier than another: in a section before, or in the same section at a smaller index
abbrev pub IsEarlier : Slot → Slot → Type 0
IsEarlier x y =
    (slot_section x < slot_section y) ⊎ ((slot_section x ≡ slot_section y) × (slot_index x < slot_index y))

-- x is in the list somewhere before y
abbrev pub ComesBefore : {X : Type 0} → X → X → List X → Type 0
ComesBefore {X} x y xs = (prefix middle back : List X) × (xs ≡ prefix ++ x ∷ (middle ++ y ∷ back))
