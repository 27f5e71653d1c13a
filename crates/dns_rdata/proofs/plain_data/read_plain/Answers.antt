use Rattle.std.proofs.Common.{refl, rules}
use Rattle.dns_plain.specs.Types.{a_fields, hinfo_fields, txt_fields, srv_fields, aaaa_fields, dname_fields}
use Rattle.dns_rdata.specs.declared.record_data.RecordData.TheVariants.{A, HInfo, Txt, Srv, Aaaa, DName}
use Rattle.dns_rdata.proofs.UncompressedData.{plain_made, plain_refused}
use Rattle.dns_rdata.proofs.plain_data.read_plain.Goals as goal

pub returns-in-Ok : goal.returns-in-Ok
returns-in-Ok g c = plain_made A a_fields 1 c.args.rtype.code.value c.args.bytes.now c.in-Ok.value (search rules) refl (refl, (refl, tt)) c.in-Ok.ensures

pub returns-in-Err : goal.returns-in-Err
returns-in-Err g c = plain_refused 1 c.args.rtype.code.value c.args.bytes.now (search rules) refl c.in-Err.ensures

pub returns-in-Ok-parse_bytes : goal.returns-in-Ok-parse_bytes
returns-in-Ok-parse_bytes g c = plain_made HInfo hinfo_fields 13 c.args.rtype.code.value c.args.bytes.now c.in-Ok-parse_bytes.value (search rules) refl (refl, (refl, tt)) c.in-Ok-parse_bytes.ensures

pub returns-in-Err-parse_bytes : goal.returns-in-Err-parse_bytes
returns-in-Err-parse_bytes g c = plain_refused 13 c.args.rtype.code.value c.args.bytes.now (search rules) refl c.in-Err-parse_bytes.ensures

pub returns-in-Ok-parse_bytes-2 : goal.returns-in-Ok-parse_bytes-2
returns-in-Ok-parse_bytes-2 g c = plain_made Txt (λ v. txt_fields v.slice.now) 16 c.args.rtype.code.value c.args.bytes.now c.in-Ok-parse_bytes-2.value (search rules) refl (refl, (refl, tt)) c.in-Ok-parse_bytes-2.ensures

pub returns-in-Err-parse_bytes-2 : goal.returns-in-Err-parse_bytes-2
returns-in-Err-parse_bytes-2 g c = plain_refused 16 c.args.rtype.code.value c.args.bytes.now (search rules) refl c.in-Err-parse_bytes-2.ensures

pub returns-in-Ok-parse_bytes-3 : goal.returns-in-Ok-parse_bytes-3
returns-in-Ok-parse_bytes-3 g c = plain_made Srv srv_fields 33 c.args.rtype.code.value c.args.bytes.now c.in-Ok-parse_bytes-3.value (search rules) refl (refl, (refl, tt)) c.in-Ok-parse_bytes-3.ensures

pub returns-in-Err-parse_bytes-3 : goal.returns-in-Err-parse_bytes-3
returns-in-Err-parse_bytes-3 g c = plain_refused 33 c.args.rtype.code.value c.args.bytes.now (search rules) refl c.in-Err-parse_bytes-3.ensures

pub returns-in-Ok-parse_bytes-4 : goal.returns-in-Ok-parse_bytes-4
returns-in-Ok-parse_bytes-4 g c = plain_made Aaaa aaaa_fields 28 c.args.rtype.code.value c.args.bytes.now c.in-Ok-parse_bytes-4.value (search rules) refl (refl, (refl, tt)) c.in-Ok-parse_bytes-4.ensures

pub returns-in-Err-parse_bytes-4 : goal.returns-in-Err-parse_bytes-4
returns-in-Err-parse_bytes-4 g c = plain_refused 28 c.args.rtype.code.value c.args.bytes.now (search rules) refl c.in-Err-parse_bytes-4.ensures

pub returns-in-Ok-parse_bytes-5 : goal.returns-in-Ok-parse_bytes-5
returns-in-Ok-parse_bytes-5 g c = plain_made DName dname_fields 39 c.args.rtype.code.value c.args.bytes.now c.in-Ok-parse_bytes-5.value (search rules) refl (refl, (refl, tt)) c.in-Ok-parse_bytes-5.ensures

pub returns-in-Err-parse_bytes-5 : goal.returns-in-Err-parse_bytes-5
returns-in-Err-parse_bytes-5 g c = plain_refused 39 c.args.rtype.code.value c.args.bytes.now (search rules) refl c.in-Err-parse_bytes-5.ensures
