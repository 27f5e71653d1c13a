use Rattle.dns_wire.proofs.RisingPlaces.{places_take}
use Rattle.dns_wire.proofs.RunLemmas.{fits_take}
use Rattle.dns_wire.proofs.compression.compressor.NameCompressor.truncate.Goals as goal

pub invariant_of-self : goal.invariant_of-self
invariant_of-self c = rw c.truncate.ensures.items (places_take _ _ c.self.invariant)

pub returns-clause-fits : goal.returns-clause-fits
returns-clause-fits c = λ contents fits. rw c.truncate.ensures.items (fits_take contents c.self.inside.recorded.items c.args.len (rw c.self.view_is fits))
