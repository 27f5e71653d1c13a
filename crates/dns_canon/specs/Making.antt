-- A message in which the records of `make` are built.
use Rattle.dns_wire.specs.declared.sizes.TheConstants.{HEADER_SIZE}
use Rattle.std.specs.Prelude.{◌≡◌, ℕ, List, [], length, map, IsFalse}
use Rattle.dns_wire.specs.Compression.{FitsIn}
use Rattle.dns_wire.specs.Layout.{list_writes}
use Rattle.dns_message.specs.Building.{Draft, drafted, count_in, has_later}
use Rattle.dns_message.specs.Built.{built}
use Rattle.dns_message.specs.Canonical.{lowercase_names}
use Rattle.dns_message.specs.Messages.{Item, message_reading, records_among}
use Rattle.dns_message.specs.Messages.Reading.{Whole}
use Rattle.dns_canon.specs.Generated.{generated}

-- The first that many records are the answers in a buffer of 65,535 octets, and nothing else is in it: their octets are those that are
-- built one after another, and the message is read whole as them, except for ASCII case where it does not count.
pub record HasMade (count : ℕ) (draft : Draft) : Type 0 where
  pub header : length draft.header ≡ HEADER_SIZE
  pub last : IsFalse (has_later 1 draft.header)
  pub counted : count_in 1 draft.header ≡ count
  pub size : draft.size ≡ 65535
  pub octets : list_writes built (generated count) [] [] ≡ (draft.contents, draft.places)
  pub known : FitsIn draft.places draft.contents
  pub items : List Item
  pub read : message_reading (drafted draft) ≡ Whole items (length draft.contents)
  pub alike : map lowercase_names (records_among items) ≡ map lowercase_names (generated count)
