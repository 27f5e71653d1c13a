-- What types and classes of records are called in text: their names, or a word and their number (RFC 3597 section 5).
use Rattle.std.specs.Prelude.{ℕ, List, [], ◌∷◌, ◌++◌, ◌==◌, codes, decimal, if◌then◌else◌}
use Rattle.dns_wire.specs.Octets.{Octets}

-- the text that a table has for a number, and if it has none another
abbrev pub text_in : List (ℕ × Octets) → Octets → ℕ → Octets
text_in [] other number = other
text_in ((known, text) ∷ more) other number = if number == known then text else text_in more other number

-- the types that have a name here (IANA, Resource Record (RR) TYPEs)
abbrev pub type_names : List (ℕ × Octets)
type_names =
    (1, codes "A") ∷ (2, codes "NS") ∷ (5, codes "CNAME") ∷ (6, codes "SOA") ∷ (12, codes "PTR") ∷ (13, codes "HINFO")
    ∷ (15, codes "MX") ∷ (16, codes "TXT") ∷ (17, codes "RP") ∷ (28, codes "AAAA") ∷ (33, codes "SRV") ∷ (39, codes "DNAME")
    ∷ (41, codes "OPT") ∷ (43, codes "DS") ∷ (46, codes "RRSIG") ∷ (47, codes "NSEC") ∷ (48, codes "DNSKEY")
    ∷ (50, codes "NSEC3") ∷ (51, codes "NSEC3PARAM") ∷ (59, codes "CDS") ∷ (60, codes "CDNSKEY") ∷ (63, codes "ZONEMD")
    ∷ (250, codes "TSIG") ∷ []

-- a type's name, else TYPE and its number in decimal
unfoldable pub type_text : ℕ → Octets
type_text number = text_in type_names (codes "TYPE" ++ decimal number) number

-- the classes that have a name here (IANA, DNS CLASSes)
abbrev pub class_names : List (ℕ × Octets)
class_names = (1, codes "IN") ∷ (3, codes "CH") ∷ []

-- a class's name, else CLASS and its number in decimal
unfoldable pub class_text : ℕ → Octets
class_text number = text_in class_names (codes "CLASS" ++ decimal number) number
