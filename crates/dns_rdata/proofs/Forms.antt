-- EDNS records in the form of records.
use Rattle.std.proofs.Common.{◌≡◌, ℕ, ◌/◌, ◌%◌, ◌^◌, ◌<◌, List, [], Some, refl, arith}
use Rattle.dns_edns.specs.Flags.{flag_bits}
use Rattle.dns_edns.specs.declared.opt.Opt.{Opt as OptData}
use Rattle.dns_record.specs.declared.record.Record.{Record}
use Rattle.dns_rdata.specs.Edns.{edns_seen}
use Rattle.dns_rdata.specs.EdnsForms.{IsFormOf, edns_ttl, edns_in}
use Rattle.dns_rdata.specs.declared.edns_record.EdnsRecord.{EdnsRecord}
use Rattle.dns_rdata.specs.declared.record_data.RecordData.{RecordData}

-- the fields are in the four octets apart
parts : (a b c : ℕ) → a < 2 ^ 8 → b < 2 ^ 8 → c < 2 ^ 16 → (edns_ttl a b c / 2 ^ 24 ≡ a) × ((edns_ttl a b c / 2 ^ 16) % 2 ^ 8 ≡ b) × (edns_ttl a b c % 2 ^ 16 ≡ c)
parts a b c a-fits b-fits c-fits = (omega arith, omega arith, omega arith)

pub come_back : {N : Type 0} (edns : EdnsRecord OptData) (form : Record (List (List ℕ)) (RecordData N)) → edns.ext_rcode < 2 ^ 8 → edns.version < 2 ^ 8 → flag_bits edns.flags < 2 ^ 16 → IsFormOf [] edns form → edns_in form ≡ Some (edns_seen (λ options. options.slice.now) edns)
come_back edns form ext version flags is =
    let p = parts edns.ext_rcode edns.version (flag_bits edns.flags) ext version flags in
    rw (is.owner, is.rtype, is.content, is.class, is.ttl, p.0, p.1, p.2) refl
