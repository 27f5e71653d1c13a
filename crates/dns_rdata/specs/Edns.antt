-- EDNS records: the root, the number of OPT, and what is in place of class and time to live (RFC 6891 section 6.1.2).
use Rattle.dns_wire.specs.Octets.{Octets}
use Rattle.dns_record.specs.Types.{opt_number}
use Rattle.std.specs.Prelude.{◌≡◌, ℕ, [], ◌∷◌, ◌++◌, drop, take, Option, Some, None, Bool, nat_eq, if◌then◌else◌}
use Rattle.std.specs.Cmp.Lexicographic.{pointwise}
use Rattle.std.specs.Fn.{Shared}
use Rattle.std.specs.Int.{w16, to_be_bytes}
use denote.Ref.{Bor}
use Rattle.dns_num.specs.Prefixed.{prefixed, sized}
use Rattle.dns_wire.specs.Reading.{octet, number}
use Rattle.dns_wire.specs.Steps.{◌>>=◌}
use Rattle.dns_edns.specs.Flags.{flag_bits}
use Rattle.dns_rdata.specs.declared.edns_record.EdnsRecord.{EdnsRecord}

-- ---- what is seen

pub record EdnsOf (D : Type 0) : Type 0 where
  pub payload : ℕ
  pub ext_rcode : ℕ
  pub version : ℕ
  pub flags : ℕ
  pub content : D

-- the numbers, and the data as they are seen
abbrev pub edns_seen : {D S : Type 0} → (D → S) → EdnsRecord D → EdnsOf S
edns_seen content r = record {
  payload = r.max_udp_payload.value;
  ext_rcode = r.ext_rcode;
  version = r.version;
  flags = flag_bits r.flags;
  content = content r.content;
}

-- ---- on the wire

-- the root, and the number of OPT
abbrev pub edns_fixed_header : Octets
edns_fixed_header = 0 ∷ 0 ∷ opt_number ∷ []

-- the octets after the root and the number, if they begin with these
abbrev pub after_fixed_header : Octets → Option Octets
after_fixed_header bytes = if pointwise nat_eq (take 3 bytes) edns_fixed_header then Some (drop 3 bytes) else None

-- after a size of payload and a part of the response code: a version, flags, and data after the number of their octets
unfoldable pub edns_after_rcode : {D : Type 0} → (Octets → Option (D × Octets)) → ℕ → ℕ → Octets → Option (EdnsOf D × Octets)
edns_after_rcode content payload ext_rcode bytes = do
  (version, after_version) ← octet bytes
  (flags, after_flags) ← number w16 after_version
  (body, after_body) ← prefixed w16 content after_flags
  Some (record { payload = payload; ext_rcode = ext_rcode; version = version; flags = flags; content = body }, after_body)

-- the root and the number of OPT, a size of payload, a part of the response code, and what comes after it
unfoldable pub edns_at : {D : Type 0} → (Octets → Option (D × Octets)) → Octets → Option (EdnsOf D × Octets)
edns_at content bytes = do
  rest ← after_fixed_header bytes
  (payload, after_payload) ← number w16 rest
  (ext_rcode, after_rcode) ← octet after_payload
  edns_after_rcode content payload ext_rcode after_rcode

-- the octets, if these are those of the data
abbrev pub edns_octets : {D : Type 0} → EdnsRecord D → Octets → Octets
edns_octets r octets =
    edns_fixed_header ++ (to_be_bytes w16 r.max_udp_payload.value ++ ((r.ext_rcode ∷ []) ++ ((r.version ∷ []) ++ (to_be_bytes w16 (flag_bits r.flags) ++ sized w16 octets))))

-- ---- comparison

-- the four fields before the data are the same
abbrev pub SamePrefix : {D E : Type 0} → EdnsRecord D → EdnsRecord E → Type 0
SamePrefix a b = (a.max_udp_payload ≡ b.max_udp_payload) × (a.ext_rcode ≡ b.ext_rcode) × (a.version ≡ b.version) × (a.flags ≡ b.flags)

-- a function may be called at references to these two
abbrev pub TakesTwo : {F D E : Type 0} → Shared F (Bor D × (Bor E × Unit {0})) Bool → F → D → E → Type 0
TakesTwo {F} {D} {E} g f x y = (p : Bor D) (q : Bor E) → p.now ≡ x → q.now ≡ y → g.pre f (p, (q, tt))

-- and may answer so
pub record AnswersTwo {F D E : Type 0} (g : Shared F (Bor D × (Bor E × Unit {0})) Bool) (f : F) (x : D) (y : E) (answer : Bool) : Type 0 where
  pub first : Bor D
  pub second : Bor E
  pub shows : (first.now ≡ x) × (second.now ≡ y)
  pub met : g.post f (first, (second, tt)) answer
