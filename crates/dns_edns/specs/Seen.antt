-- What is seen of values whose fields are their own.
use Rattle.dns_wire.specs.Octets.{Octets}
use Rattle.dns_edns.specs.declared.cookie.Cookie.{Cookie}

-- the octets of a client cookie and of the server cookie after it
abbrev pub cookie_octets : Cookie → Octets
cookie_octets v = v.slice.now
