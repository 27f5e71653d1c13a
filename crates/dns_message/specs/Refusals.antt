-- Why messages have no canonical list.
use Rattle.dns_wire.specs.Octets.{Octets}
use Rattle.dns_wire.specs.declared.sizes.TheConstants.{HEADER_SIZE}
use Rattle.std.specs.Prelude.{ℕ, ◌+◌, ◌<◌, List, [], ◌∷◌, length, Option, Some, None}
use Rattle.dns_wire.specs.Pointers.{name_at}
use Rattle.dns_record.specs.Data.{data_in}
use Rattle.dns_record.specs.FurtherFormats.{DataReading}
use Rattle.dns_message.specs.Messages.{Reading, BadBy}
use Rattle.dns_message.specs.Messages.Reading.{Short as TooShort, Stopped, Whole}
use Rattle.dns_message.specs.declared.canon_error.CanonError.{CanonError}
use Rattle.dns_message.specs.declared.canon_error.CanonError.TheVariants.{Short, Item, Memory}

-- the message is refused so, whatever memory there is
abbrev pub RefusedBy : DataReading → Octets → CanonError → Type 0
RefusedBy reads m Short = length m < HEADER_SIZE
RefusedBy reads m (Item section index) = BadBy reads m section index
RefusedBy reads m Memory = ⊥

abbrev pub RefusedAs : Octets → CanonError → Type 0
RefusedAs = RefusedBy (data_in name_at)

-- the message is refused so, or memory ran out
abbrev pub RefusedByOrMemory : DataReading → Octets → CanonError → Type 0
RefusedByOrMemory reads m Memory = Unit {0}
RefusedByOrMemory reads m error = RefusedBy reads m error

abbrev pub RefusedOrMemory : Octets → CanonError → Type 0
RefusedOrMemory = RefusedByOrMemory (data_in name_at)

-- of readings one after another the first that is not whole, by its number, and why; messages count from a number
abbrev pub first_refused : ℕ → List Reading → Option (ℕ × CanonError)
first_refused number [] = None
first_refused number (TooShort ∷ later) = Some (number, Short)
first_refused number (Stopped items section index place ∷ later) = Some (number, Item section index)
first_refused number (Whole items end ∷ later) = first_refused (number + 1) later
