-- Types of records by their number.
use Rattle.std.specs.Prelude.{ℕ, Bool, ◌==◌, ◌||◌}

-- the types whose names count without regard to ASCII case: NS, CNAME, SOA, PTR, MX, RP, SRV, DNAME and RRSIG (RFC 4034
-- section 6.2, RFC 6840 section 5.1)
abbrev pub is_lowercased : ℕ → Bool
is_lowercased rtype = rtype == 2 || rtype == 5 || rtype == 6 || rtype == 12 || rtype == 15 || rtype == 17 || rtype == 33 || rtype == 39 || rtype == 46

-- the number of the type OPT (RFC 6891 section 6.1.1)
abbrev pub opt_number : ℕ
opt_number = 41
