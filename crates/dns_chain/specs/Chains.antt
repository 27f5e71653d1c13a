-- Chains of pointers: compression pointers that lead to pointers (RFC 1035 section 4.1.4). Places are those of the octets after the header.
use Rattle.std.specs.Prelude.{◌≡◌, ℕ, ◌+◌, ◌<◌, length, min, slice_index, Some}
use Rattle.dns_wire.specs.Octets.{Octets, Places}
use Rattle.dns_wire.specs.declared.name_cursor.LabelType.TheVariants.{Pointer}
use Rattle.dns_wire.specs.declared.sizes.TheConstants.{LAST_PLACE}
use Rattle.dns_wire.specs.Pointers.{label_type_at}

-- From the place on there are pointers alone, each at the target of the one before it, and the last leads to `final`. Of no pointer it is the
-- place itself.
pub data Leads (contents : Octets) : ℕ → ℕ → Type 0 where
  stays : {at : ℕ} → Leads contents at at
  leads : {at target final : ℕ} → label_type_at contents at at ≡ Some (Pointer target) → Leads contents target final → Leads contents at final

-- the final target of a place: pointers lead there from the place, and no pointer is there
pub record IsFinal (contents : Octets) (at final : ℕ) : Type 0 where
  pub reached : Leads contents at final
  pub last : (target : ℕ) → ¬ (label_type_at contents final final ≡ Some (Pointer target))

-- each place up to the length of the table has its final target there
abbrev pub AreFinal : Octets → Places → Type 0
AreFinal contents targets = (at : ℕ) → at < length targets → IsFinal contents at (slice_index targets at)

-- the table of final targets: one for each place of the contents to which the 14 bits of a pointer can lead
pub record AreFinalTargets (contents : Octets) (targets : Places) : Type 0 where
  pub count : length targets ≡ min (length contents) (LAST_PLACE + 1)
  pub final : AreFinal contents targets
