-- Addresses of clients.
use Rattle.dns_wire.specs.Octets.{Octets}
use Rattle.dns_edns.specs.declared.address.Address.{Address}
use Rattle.dns_edns.specs.declared.address.Address.TheVariants.{V4, V6}

-- the octets of an address, as they are sent
abbrev pub address_octets : Address → Octets
address_octets (V4 octets) = octets
address_octets (V6 octets) = octets
