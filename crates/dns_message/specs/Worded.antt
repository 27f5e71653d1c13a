-- The reading of a message in words.
use Rattle.dns_wire.specs.Octets.{Octets}
use Rattle.dns_wire.specs.declared.sizes.TheConstants.{HEADER_SIZE}
use Rattle.std.specs.Prelude.{◌≡◌, ℕ, ◌≤◌, ◌<◌, List, [], ◌∷◌, ◌++◌, length, drop}
use Rattle.dns_record.specs.InPlace.{QuestionAt, RecordAt}
use Rattle.dns_message.specs.Messages.{Item, counted_slots, Slot, slot_section}
use Rattle.dns_message.specs.Messages.Item.{QuestionItem, RecordItem}

-- an item of a section goes from a place up to an end: in section 0 a question, and in the later ones a record
abbrev pub ItemAt : ℕ → Octets → ℕ → Item → ℕ → Type 0
ItemAt section contents at (QuestionItem q) end = (section ≡ 0) × QuestionAt contents at q end
ItemAt section contents at (RecordItem r) end = (0 < section) × RecordAt contents at r end

-- the items of these places come one after another, from a place up to another
abbrev pub ItemsAt : Octets → List Slot → ℕ → List Item → ℕ → Type 0
ItemsAt contents [] at items end = (items ≡ []) × (end ≡ at)
ItemsAt contents (slot ∷ slots) at items end =
    (item : Item) × (next : ℕ) × (others : List Item) × ItemAt (slot_section slot) contents at item next × (items ≡ item ∷ others) × ItemsAt contents slots next others end

-- no item of a section is at a place
abbrev pub NoItemAt : ℕ → Octets → ℕ → Type 0
NoItemAt section contents at = (item : Item) (end : ℕ) → ¬ ItemAt section contents at item end

-- the items that are counted before this one come one after another, and at its place there is none
pub record FailsAt (m : Octets) (section index place : ℕ) : Type 0 where
  pub header : HEADER_SIZE ≤ length m
  pub before : List Slot
  pub after : List Slot
  pub counted : counted_slots m ≡ before ++ (section, index) ∷ after
  pub items : List Item
  pub read : ItemsAt (drop HEADER_SIZE m) before 0 items place
  pub unread : NoItemAt section (drop HEADER_SIZE m) place

-- all counted items come one after another, and end at a place
pub record ReadsWhole (m : Octets) (items : List Item) (end : ℕ) : Type 0 where
  pub header : HEADER_SIZE ≤ length m
  pub read : ItemsAt (drop HEADER_SIZE m) (counted_slots m) 0 items end
