-- Data after the number of their octets, in a message: they are written after zeros, over which their number is written.
use Rattle.std.specs.Prelude.{◌<◌, ◌^◌, ◌++◌, length}
use Rattle.std.specs.Int.{Width, byte_len, to_be_bytes}
use Rattle.dns_wire.specs.Octets.{Octets, Places}
use Rattle.dns_wire.specs.Compression.{CompressedWrite, written_octets, places_afterwards}
use Rattle.dns_num.specs.Prefixed.{sized}

-- zeros, as many as the number has octets
abbrev pub zeros : Width → Octets
zeros w = to_be_bytes w 0

-- what is compressed after zeros, after the number of its octets
abbrev pub sized_compressed_writes : Width → CompressedWrite → CompressedWrite
sized_compressed_writes w writes contents places = (
  sized w (written_octets (writes (contents ++ zeros w) places)),
  places_afterwards (writes (contents ++ zeros w) places),
)

-- the octets are no more than the number can say, and all that is prefixed in them fits
abbrev pub sized_fits : Width → (Octets → Places → Type 0) → CompressedWrite → Octets → Places → Type 0
sized_fits w fits writes contents places = (length (written_octets (writes (contents ++ zeros w) places)) < 256 ^ byte_len w) × fits (contents ++ zeros w) places
