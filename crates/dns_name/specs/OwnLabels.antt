-- A name's own labels: those before its root or its first pointer (RFC 1035 section 4.1.4).
use Rattle.std.specs.Prelude.{◌≡◌, ◌<◌, ◌≤◌, ◌+◌, ◌⊎◌, ℕ, [], ◌∷◌, ◌++◌, drop, length, take, Option, Some, None}
use Rattle.dns_wire.specs.Octets.{Octets, Labels}
use Rattle.dns_wire.specs.Names.{labels_wire}
use Rattle.dns_wire.specs.Pointers.{label_type_at}
use Rattle.dns_wire.specs.declared.name_cursor.LabelType.TheVariants.{Root, Label, Pointer}
use Rattle.dns_name.specs.declared.own_labels.OwnLabels.{OwnLabels}

-- The labels from a place on of the segment that begins at start, one after the other, as far as the place of the label type after them.
pub data LabelsFrom (contents : Octets) (start : ℕ) : ℕ → Labels → ℕ → Type 0 where
  no_more : {at : ℕ} → LabelsFrom contents start at [] at
  one_more : {at size stop : ℕ} {others : Labels} → label_type_at contents start at ≡ Some (Label size) → LabelsFrom contents start (at + 1 + size) others stop → LabelsFrom contents start at (take size (drop (at + 1) contents) ∷ others) stop

-- the root ends the labels, or a pointer to the target does, and what is at the name's place ends after it
abbrev pub EndsAs : Octets → ℕ → ℕ → ℕ → Option ℕ → Type 0
EndsAs contents start stop end None = (label_type_at contents start stop ≡ Some Root) × (end ≡ stop + 1)
EndsAs contents start stop end (Some target) = (label_type_at contents start stop ≡ Some (Pointer target)) × (end ≡ stop + 2)

-- these are the name's own labels, and their octets are in the buffer after those that were there before
pub record AreCopied (contents : Octets) (start before : ℕ) (old new : Octets) (own : OwnLabels) (labels : Labels) : Type 0 where
  pub stop : ℕ
  pub there : LabelsFrom contents start start labels stop
  pub ends : EndsAs contents start stop own.end own.target
  pub size : own.size ≡ before + length (labels_wire labels)
  pub short : own.size < 255
  pub octets : take own.size new ≡ take before old ++ labels_wire labels

-- after these labels there is no label type, or a label that leaves no room for the root
pub record AreCutShort (contents : Octets) (start before : ℕ) (labels : Labels) : Type 0 where
  pub stop : ℕ
  pub there : LabelsFrom contents start start labels stop
  pub short : before + length (labels_wire labels) < 255
  pub ends : (label_type_at contents start stop ≡ None) ⊎ ((size : ℕ) × (label_type_at contents start stop ≡ Some (Label size)) × (255 ≤ before + length (labels_wire labels) + 1 + size))
