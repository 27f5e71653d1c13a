-- What is after the first of several options or windows.
use Rattle.std.specs.Prelude.{◌≡◌, ◌<◌, ℕ, length, Option, Some, None}
use Rattle.dns_wire.specs.Octets.{Octets}
use Rattle.dns_record.specs.Options.{OptionSeen}
use Rattle.dns_record.specs.TypeBitMaps.{Window}
use denote.Ref.{Bor}

abbrev pub AfterOption : Option (OptionSeen × Octets) → Option (Bor Octets) → Type 0
AfterOption read None = read ≡ None
AfterOption read (Some rest) = (found : OptionSeen) × (read ≡ Some (found, rest.now))

-- after a window, of which the number is given, there are fewer octets
abbrev pub AfterWindow : Octets → Option (Window × Octets) → Option (ℕ × Bor Octets) → Type 0
AfterWindow bytes read None = read ≡ None
AfterWindow bytes read (Some (number, rest)) = (found : Window) × (read ≡ Some (found, rest.now)) × (found.number ≡ number) × (length rest.now < length bytes)
