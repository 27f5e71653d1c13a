use Rattle.dns_wire.proofs.RecordedPlaces.{places_stay, each_recorded, no_other_recorded}
use Rattle.dns_wire.proofs.compression.laws.recorded_places.Goals as goal

pub returns : goal.returns
returns c = record { stay = places_stay; each = each_recorded; no_other = no_other_recorded }
