use Rattle.std.proofs.Common.{◌≡◌, false, refl, rules}
use Rattle.dns_record.specs.Formats.{has_rdata_format}
use Rattle.dns_edns.specs.Types.{opt_fields}
use Rattle.dns_nsec.specs.Types.{nsec_fields, nsec3_fields, nsec3param_fields}
use Rattle.dns_rdata.specs.Plain.{no_compressible}
use Rattle.dns_rdata.specs.declared.record_data.RecordData.TheVariants.{Opt, Nsec, Nsec3, Nsec3Param}
use Rattle.dns_rdata.proofs.UncompressedData.{plain_made, plain_refused, plain_is_not, compressible_types, unknown_read}
use Rattle.dns_rdata.proofs.plain_data.read_denial.Goals as goal

pub returns-in-Ok : goal.returns-in-Ok
returns-in-Ok g c = plain_made Nsec nsec_fields 47 c.args.rtype.code.value c.args.bytes.now c.in-Ok.value (search rules) refl (refl, (refl, tt)) c.in-Ok.ensures

pub returns-in-Err : goal.returns-in-Err
returns-in-Err g c = plain_refused 47 c.args.rtype.code.value c.args.bytes.now (search rules) refl c.in-Err.ensures

pub returns-in-Ok-parse_bytes : goal.returns-in-Ok-parse_bytes
returns-in-Ok-parse_bytes g c = plain_made Nsec3 nsec3_fields 50 c.args.rtype.code.value c.args.bytes.now c.in-Ok-parse_bytes.value (search rules) refl (refl, (refl, tt)) c.in-Ok-parse_bytes.ensures

pub returns-in-Err-parse_bytes : goal.returns-in-Err-parse_bytes
returns-in-Err-parse_bytes g c = plain_refused 50 c.args.rtype.code.value c.args.bytes.now (search rules) refl c.in-Err-parse_bytes.ensures

pub returns-in-Ok-parse_bytes-2 : goal.returns-in-Ok-parse_bytes-2
returns-in-Ok-parse_bytes-2 g c = plain_made Nsec3Param nsec3param_fields 51 c.args.rtype.code.value c.args.bytes.now c.in-Ok-parse_bytes-2.value (search rules) refl (refl, (refl, tt)) c.in-Ok-parse_bytes-2.ensures

pub returns-in-Err-parse_bytes-2 : goal.returns-in-Err-parse_bytes-2
returns-in-Err-parse_bytes-2 g c = plain_refused 51 c.args.rtype.code.value c.args.bytes.now (search rules) refl c.in-Err-parse_bytes-2.ensures

pub returns-in-Ok-parse_bytes-3 : goal.returns-in-Ok-parse_bytes-3
returns-in-Ok-parse_bytes-3 g c = plain_made Opt (λ v. opt_fields v.slice.now) 41 c.args.rtype.code.value c.args.bytes.now c.in-Ok-parse_bytes-3.value (search rules) refl (refl, (refl, tt)) c.in-Ok-parse_bytes-3.ensures

pub returns-in-Err-parse_bytes-3 : goal.returns-in-Err-parse_bytes-3
returns-in-Err-parse_bytes-3 g c = plain_refused 41 c.args.rtype.code.value c.args.bytes.now (search rules) refl c.in-Err-parse_bytes-3.ensures

pub returns-in_default : goal.returns-in_default
returns-in_default g c =
    let n = c.args.rtype.code.value in
    let not-ns = plain_is_not n 2 c.requires.plain compressible_types.0 in
    let not-cname = plain_is_not n 5 c.requires.plain compressible_types.1 in
    let not-soa = plain_is_not n 6 c.requires.plain compressible_types.2 in
    let not-ptr = plain_is_not n 12 c.requires.plain compressible_types.3 in
    let not-mx = plain_is_not n 15 c.requires.plain compressible_types.4 in
    let not-rp = plain_is_not n 17 c.requires.plain compressible_types.5 in
    let none : has_rdata_format n ≡ false = search rules in
    (unknown_read no_compressible n c.args.bytes.now none, (refl, none))
