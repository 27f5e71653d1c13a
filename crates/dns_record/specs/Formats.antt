-- The one table of record data: which kinds of fields the data of each type have.
use Rattle.std.specs.Prelude.{ℕ, List, [], ◌∷◌, Bool, Option, Some, None, unwrap_or, is_some, ◌==◌, if◌then◌else◌}
use Rattle.std.specs.Int.{w16, w32}
use Rattle.dns_record.specs.Kinds.{Kind}
use Rattle.dns_record.specs.Kinds.Kind.{Byte, Number, FixedOctets, CompressibleName, UncompressedName, CharacterString, CountedOctets, CharacterStrings, Options, TypeBitMaps, NonEmptyTypeBitMaps, Rest}

-- A (RFC 1035 section 3.4.1): an address
abbrev pub format_a : List Kind
format_a = FixedOctets 4 ∷ []

-- NS, CNAME and PTR (RFC 1035 sections 3.3.11, 3.3.1 and 3.3.12): a name
abbrev pub format_name : List Kind
format_name = CompressibleName ∷ []

-- SOA (RFC 1035 section 3.3.13): the server and the mailbox; serial, refresh, retry, expire, minimum
abbrev pub format_soa : List Kind
format_soa = CompressibleName ∷ CompressibleName ∷ Number w32 ∷ Number w32 ∷ Number w32 ∷ Number w32 ∷ Number w32 ∷ []

-- HINFO (RFC 1035 section 3.3.2): processor and system
abbrev pub format_hinfo : List Kind
format_hinfo = CharacterString ∷ CharacterString ∷ []

-- MX (RFC 1035 section 3.3.9): preference, and the exchange
abbrev pub format_mx : List Kind
format_mx = Number w16 ∷ CompressibleName ∷ []

-- TXT (RFC 1035 section 3.3.14): strings
abbrev pub format_txt : List Kind
format_txt = CharacterStrings ∷ []

-- RP (RFC 1183 section 2.2): a mailbox, and where texts are
abbrev pub format_rp : List Kind
format_rp = CompressibleName ∷ CompressibleName ∷ []

-- AAAA (RFC 3596 section 2.2): an address
abbrev pub format_aaaa : List Kind
format_aaaa = FixedOctets 16 ∷ []

-- SRV (RFC 2782): priority, weight, port, and the target
abbrev pub format_srv : List Kind
format_srv = Number w16 ∷ Number w16 ∷ Number w16 ∷ UncompressedName ∷ []

-- DNAME (RFC 6672 section 2.1): a name
abbrev pub format_dname : List Kind
format_dname = UncompressedName ∷ []

-- OPT (RFC 6891 section 6.1.2): options
abbrev pub format_opt : List Kind
format_opt = Options ∷ []

-- DS (RFC 4034 section 5.1) and CDS (RFC 7344 section 3.1): key tag, algorithm, type of the digest, and the digest
abbrev pub format_ds : List Kind
format_ds = Number w16 ∷ Byte ∷ Byte ∷ Rest ∷ []

-- RRSIG (RFC 4034 section 3.1): type covered, algorithm, labels, original TTL, expiration, inception, key tag, the signer,
-- and the signature
abbrev pub format_rrsig : List Kind
format_rrsig = Number w16 ∷ Byte ∷ Byte ∷ Number w32 ∷ Number w32 ∷ Number w32 ∷ Number w16 ∷ UncompressedName ∷ Rest ∷ []

-- NSEC (RFC 4034 section 4.1): the next name, and the types of the owner
abbrev pub format_nsec : List Kind
format_nsec = UncompressedName ∷ NonEmptyTypeBitMaps ∷ []

-- DNSKEY (RFC 4034 section 2.1) and CDNSKEY (RFC 7344 section 3.2): flags, protocol, algorithm, and the key
abbrev pub format_dnskey : List Kind
format_dnskey = Number w16 ∷ Byte ∷ Byte ∷ Rest ∷ []

-- NSEC3 (RFC 5155 section 3.2): hash algorithm, flags, iterations, salt, the next owner's hash, and types
abbrev pub format_nsec3 : List Kind
format_nsec3 = Byte ∷ Byte ∷ Number w16 ∷ CountedOctets ∷ CountedOctets ∷ TypeBitMaps ∷ []

-- NSEC3PARAM (RFC 5155 section 4.2): hash algorithm, flags, iterations, and salt
abbrev pub format_nsec3param : List Kind
format_nsec3param = Byte ∷ Byte ∷ Number w16 ∷ CountedOctets ∷ []

-- ZONEMD (RFC 8976 section 2.2): serial, scheme, hash algorithm, and the digest
abbrev pub format_zonemd : List Kind
format_zonemd = Number w32 ∷ Byte ∷ Byte ∷ Rest ∷ []

-- the data of a type without its own RDATA format are octets (RFC 3597 section 3)
abbrev pub format_unknown : List Kind
format_unknown = Rest ∷ []

-- the types that have an RDATA format, by their numbers (IANA, DNS Resource Record (RR) TYPEs), in the order in which the choice among
-- all data types has them
abbrev pub rdata_formats : List (ℕ × List Kind)
rdata_formats =
    (1, format_a)
    ∷ (2, format_name)
    ∷ (5, format_name)
    ∷ (6, format_soa)
    ∷ (12, format_name)
    ∷ (13, format_hinfo)
    ∷ (15, format_mx)
    ∷ (16, format_txt)
    ∷ (17, format_rp)
    ∷ (33, format_srv)
    ∷ (28, format_aaaa)
    ∷ (39, format_dname)
    ∷ (41, format_opt)
    ∷ (43, format_ds)
    ∷ (46, format_rrsig)
    ∷ (47, format_nsec)
    ∷ (48, format_dnskey)
    ∷ (50, format_nsec3)
    ∷ (51, format_nsec3param)
    ∷ (59, format_ds)
    ∷ (60, format_dnskey)
    ∷ (63, format_zonemd)
    ∷ []

-- the RDATA format of a number
abbrev pub format_under : List (ℕ × List Kind) → ℕ → Option (List Kind)
format_under [] rtype = None
format_under ((number, format) ∷ others) rtype = if rtype == number then Some format else format_under others rtype

-- whether a type has an RDATA format
abbrev pub has_rdata_format : ℕ → Bool
has_rdata_format rtype = is_some (format_under rdata_formats rtype)

-- the RDATA format of a type number
abbrev pub rdata_format : ℕ → List Kind
rdata_format rtype = unwrap_or (format_under rdata_formats rtype) format_unknown
