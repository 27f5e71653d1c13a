use Rattle.std.proofs.Common.{refl, rules}
use Rattle.dns_sec.specs.Types.{ds_fields, cds_fields, rrsig_fields, dnskey_fields, cdnskey_fields, zonemd_fields}
use Rattle.dns_rdata.specs.declared.record_data.RecordData.TheVariants.{Ds, Rrsig, DNSKey, Cds, CDNSKey, ZoneMD}
use Rattle.dns_rdata.proofs.UncompressedData.{plain_made, plain_refused}
use Rattle.dns_rdata.proofs.plain_data.read_signed.Goals as goal

pub returns-in-Ok : goal.returns-in-Ok
returns-in-Ok g c = plain_made Ds ds_fields 43 c.args.rtype.code.value c.args.bytes.now c.in-Ok.value (search rules) refl (refl, (refl, tt)) c.in-Ok.ensures

pub returns-in-Err : goal.returns-in-Err
returns-in-Err g c = plain_refused 43 c.args.rtype.code.value c.args.bytes.now (search rules) refl c.in-Err.ensures

pub returns-in-Ok-parse_bytes : goal.returns-in-Ok-parse_bytes
returns-in-Ok-parse_bytes g c = plain_made Rrsig rrsig_fields 46 c.args.rtype.code.value c.args.bytes.now c.in-Ok-parse_bytes.value (search rules) refl (refl, (refl, tt)) c.in-Ok-parse_bytes.ensures

pub returns-in-Err-parse_bytes : goal.returns-in-Err-parse_bytes
returns-in-Err-parse_bytes g c = plain_refused 46 c.args.rtype.code.value c.args.bytes.now (search rules) refl c.in-Err-parse_bytes.ensures

pub returns-in-Ok-parse_bytes-2 : goal.returns-in-Ok-parse_bytes-2
returns-in-Ok-parse_bytes-2 g c = plain_made DNSKey dnskey_fields 48 c.args.rtype.code.value c.args.bytes.now c.in-Ok-parse_bytes-2.value (search rules) refl (refl, (refl, tt)) c.in-Ok-parse_bytes-2.ensures

pub returns-in-Err-parse_bytes-2 : goal.returns-in-Err-parse_bytes-2
returns-in-Err-parse_bytes-2 g c = plain_refused 48 c.args.rtype.code.value c.args.bytes.now (search rules) refl c.in-Err-parse_bytes-2.ensures

pub returns-in-Ok-parse_bytes-3 : goal.returns-in-Ok-parse_bytes-3
returns-in-Ok-parse_bytes-3 g c = plain_made Cds cds_fields 59 c.args.rtype.code.value c.args.bytes.now c.in-Ok-parse_bytes-3.value (search rules) refl (refl, (refl, tt)) c.in-Ok-parse_bytes-3.ensures

pub returns-in-Err-parse_bytes-3 : goal.returns-in-Err-parse_bytes-3
returns-in-Err-parse_bytes-3 g c = plain_refused 59 c.args.rtype.code.value c.args.bytes.now (search rules) refl c.in-Err-parse_bytes-3.ensures

pub returns-in-Ok-parse_bytes-4 : goal.returns-in-Ok-parse_bytes-4
returns-in-Ok-parse_bytes-4 g c = plain_made CDNSKey cdnskey_fields 60 c.args.rtype.code.value c.args.bytes.now c.in-Ok-parse_bytes-4.value (search rules) refl (refl, (refl, tt)) c.in-Ok-parse_bytes-4.ensures

pub returns-in-Err-parse_bytes-4 : goal.returns-in-Err-parse_bytes-4
returns-in-Err-parse_bytes-4 g c = plain_refused 60 c.args.rtype.code.value c.args.bytes.now (search rules) refl c.in-Err-parse_bytes-4.ensures

pub returns-in-Ok-parse_bytes-5 : goal.returns-in-Ok-parse_bytes-5
returns-in-Ok-parse_bytes-5 g c = plain_made ZoneMD (zonemd_fields (λ digest. digest.now)) 63 c.args.rtype.code.value c.args.bytes.now c.in-Ok-parse_bytes-5.value (search rules) refl (refl, (refl, tt)) c.in-Ok-parse_bytes-5.ensures

pub returns-in-Err-parse_bytes-5 : goal.returns-in-Err-parse_bytes-5
returns-in-Err-parse_bytes-5 g c = plain_refused 63 c.args.rtype.code.value c.args.bytes.now (search rules) refl c.in-Err-parse_bytes-5.ensures
