-- EDNS records in the form of records (RFC 6891 sections 6.1.2 and 6.1.3).
use Rattle.dns_wire.specs.Octets.{Octets, Labels}
use Rattle.dns_record.specs.Types.{opt_number}
use Rattle.std.specs.Prelude.{◌≡◌, ℕ, ◌+◌, ◌*◌, ◌/◌, ◌%◌, ◌^◌, [], ◌∷◌, Option, Some, None, Bool, true, false, ◌&&◌, ◌==◌, if◌then◌else◌}
use Rattle.dns_record.specs.Options.{is_option_data}
use Rattle.dns_record.specs.declared.record.Record.{Record}
use Rattle.dns_wire.specs.Steps.{◌>>=◌}
use Rattle.dns_edns.specs.Flags.{flag_bits}
use Rattle.dns_edns.specs.declared.opt.Opt.{Opt as OptData}
use Rattle.dns_rdata.specs.Edns.{EdnsOf}
use Rattle.dns_rdata.specs.declared.edns_record.EdnsRecord.{EdnsRecord}
use Rattle.dns_rdata.specs.declared.record_data.RecordData.{RecordData}
use Rattle.dns_rdata.specs.declared.record_data.RecordData.TheVariants.{Opt, Unknown}

-- the part of the response code, the version and the flags, as the four octets of a time to live
abbrev pub edns_ttl : ℕ → ℕ → ℕ → ℕ
edns_ttl ext_rcode version flags = ext_rcode * 2 ^ 24 + version * 2 ^ 16 + flags

-- a record with this owner has the fields and the data of an EDNS record
pub record IsFormOf {O N : Type 0} (root : O) (edns : EdnsRecord OptData) (form : Record O (RecordData N)) : Type 0 where
  pub owner : form.rname ≡ root
  pub rtype : form.rtype.code.value ≡ opt_number
  pub class : form.rclass.code ≡ edns.max_udp_payload
  pub ttl : form.ttl.value.value ≡ edns_ttl edns.ext_rcode edns.version (flag_bits edns.flags)
  pub content : form.rdata ≡ Opt edns.content

-- the octets of the options that data have: OPT data, and unknown data with the number of OPT that are options
abbrev pub octets_of_options : {N : Type 0} → RecordData N → Option Octets
octets_of_options (Opt v) = Some v.slice.now
octets_of_options (Unknown rtype v) = if (rtype.code.value == opt_number) && is_option_data v.octets.now then Some v.octets.now else None
octets_of_options v = None

-- whether a name is the root
abbrev pub is_root : Labels → Bool
is_root [] = true
is_root (label ∷ labels) = false

-- the EDNS record whose fields are this class and this time to live
abbrev pub edns_fields : ℕ → ℕ → Octets → EdnsOf Octets
edns_fields class ttl octets = record { payload = class; ext_rcode = ttl / 2 ^ 24; version = (ttl / 2 ^ 16) % 2 ^ 8; flags = ttl % 2 ^ 16; content = octets }

-- the EDNS record that a record with these parts is: its owner is the root, its type is OPT, and its data have options
abbrev pub edns_of_parts : {N : Type 0} → Bool → ℕ → ℕ → ℕ → RecordData N → Option (EdnsOf Octets)
edns_of_parts root rtype class ttl rdata = do
  octets ← if root && (rtype == opt_number) then octets_of_options rdata else None
  Some (edns_fields class ttl octets)

-- the EDNS record that a record is
abbrev pub edns_in : {N : Type 0} → Record Labels (RecordData N) → Option (EdnsOf Octets)
edns_in form = edns_of_parts (is_root form.rname) form.rtype.code.value form.rclass.code.value form.ttl.value.value form.rdata
