-- What is seen of a window.
use Rattle.dns_record.specs.TypeBitMaps.{Window}
use Rattle.dns_nsec.specs.declared.window.Window.{Window as WindowView}

-- its number and its octets of bits
abbrev pub window_seen : WindowView → Window
window_seen w = record { number = w.number; bits = w.bits.now }
