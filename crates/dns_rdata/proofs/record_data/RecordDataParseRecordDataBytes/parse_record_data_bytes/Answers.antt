use Rattle.std.proofs.Common.{refl, rules}
use Rattle.dns_basic.specs.Types.{ns_fields, cname_fields, soa_fields, ptr_fields, mx_fields, rp_fields}
use Rattle.dns_record.specs.Data.{data_as}
use Rattle.dns_rdata.specs.declared.record_data.RecordData.TheVariants.{Ns, CName, Soa, Ptr, Mx, Rp}
use Rattle.dns_rdata.proofs.UncompressedData.{compressible_given, compressible_refused, compressible_read, uncompressed_unless_compressible, plain_read}
use Rattle.dns_rdata.proofs.record_data.RecordDataParseRecordDataBytes.parse_record_data_bytes.Goals as goal

pub returns-in-Ok : goal.returns-in-Ok
returns-in-Ok g c =
    let r = compressible_given g.N.ParseBytes.seen Ns ns_fields 2 c.args.rtype.code.value (λ n. data_as g.N.ParseBytes.reads n c.args.bytes.now) _ c.in-Ok.value (search rules) (compressible_read g.N.ParseBytes.reads 2 c.args.bytes.now) (refl, (refl, tt)) c.in-Ok.ensures in
    record { exact = r.0; typed = r.1 }

pub returns-in-Err : goal.returns-in-Err
returns-in-Err g c =
    record { exact = compressible_refused 2 c.args.rtype.code.value (λ n. data_as g.N.ParseBytes.reads n c.args.bytes.now) _ (search rules) (compressible_read g.N.ParseBytes.reads 2 c.args.bytes.now) c.in-Err.ensures; typed = tt }

pub returns-in-Ok-parse_bytes : goal.returns-in-Ok-parse_bytes
returns-in-Ok-parse_bytes g c =
    let r = compressible_given g.N.ParseBytes.seen CName cname_fields 5 c.args.rtype.code.value (λ n. data_as g.N.ParseBytes.reads n c.args.bytes.now) _ c.in-Ok-parse_bytes.value (search rules) (compressible_read g.N.ParseBytes.reads 5 c.args.bytes.now) (refl, (refl, tt)) c.in-Ok-parse_bytes.ensures in
    record { exact = r.0; typed = r.1 }

pub returns-in-Err-parse_bytes : goal.returns-in-Err-parse_bytes
returns-in-Err-parse_bytes g c =
    record { exact = compressible_refused 5 c.args.rtype.code.value (λ n. data_as g.N.ParseBytes.reads n c.args.bytes.now) _ (search rules) (compressible_read g.N.ParseBytes.reads 5 c.args.bytes.now) c.in-Err-parse_bytes.ensures; typed = tt }

pub returns-in-Ok-parse_bytes-2 : goal.returns-in-Ok-parse_bytes-2
returns-in-Ok-parse_bytes-2 g c =
    let r = compressible_given g.N.ParseBytes.seen Soa soa_fields 6 c.args.rtype.code.value (λ n. data_as g.N.ParseBytes.reads n c.args.bytes.now) _ c.in-Ok-parse_bytes-2.value (search rules) (compressible_read g.N.ParseBytes.reads 6 c.args.bytes.now) (refl, (refl, tt)) c.in-Ok-parse_bytes-2.ensures in
    record { exact = r.0; typed = r.1 }

pub returns-in-Err-parse_bytes-2 : goal.returns-in-Err-parse_bytes-2
returns-in-Err-parse_bytes-2 g c =
    record { exact = compressible_refused 6 c.args.rtype.code.value (λ n. data_as g.N.ParseBytes.reads n c.args.bytes.now) _ (search rules) (compressible_read g.N.ParseBytes.reads 6 c.args.bytes.now) c.in-Err-parse_bytes-2.ensures; typed = tt }

pub returns-in-Ok-parse_bytes-3 : goal.returns-in-Ok-parse_bytes-3
returns-in-Ok-parse_bytes-3 g c =
    let r = compressible_given g.N.ParseBytes.seen Ptr ptr_fields 12 c.args.rtype.code.value (λ n. data_as g.N.ParseBytes.reads n c.args.bytes.now) _ c.in-Ok-parse_bytes-3.value (search rules) (compressible_read g.N.ParseBytes.reads 12 c.args.bytes.now) (refl, (refl, tt)) c.in-Ok-parse_bytes-3.ensures in
    record { exact = r.0; typed = r.1 }

pub returns-in-Err-parse_bytes-3 : goal.returns-in-Err-parse_bytes-3
returns-in-Err-parse_bytes-3 g c =
    record { exact = compressible_refused 12 c.args.rtype.code.value (λ n. data_as g.N.ParseBytes.reads n c.args.bytes.now) _ (search rules) (compressible_read g.N.ParseBytes.reads 12 c.args.bytes.now) c.in-Err-parse_bytes-3.ensures; typed = tt }

pub returns-in-Ok-parse_bytes-4 : goal.returns-in-Ok-parse_bytes-4
returns-in-Ok-parse_bytes-4 g c =
    let r = compressible_given g.N.ParseBytes.seen Mx mx_fields 15 c.args.rtype.code.value (λ n. data_as g.N.ParseBytes.reads n c.args.bytes.now) _ c.in-Ok-parse_bytes-4.value (search rules) (compressible_read g.N.ParseBytes.reads 15 c.args.bytes.now) (refl, (refl, tt)) c.in-Ok-parse_bytes-4.ensures in
    record { exact = r.0; typed = r.1 }

pub returns-in-Err-parse_bytes-4 : goal.returns-in-Err-parse_bytes-4
returns-in-Err-parse_bytes-4 g c =
    record { exact = compressible_refused 15 c.args.rtype.code.value (λ n. data_as g.N.ParseBytes.reads n c.args.bytes.now) _ (search rules) (compressible_read g.N.ParseBytes.reads 15 c.args.bytes.now) c.in-Err-parse_bytes-4.ensures; typed = tt }

pub returns-in-Ok-parse_bytes-5 : goal.returns-in-Ok-parse_bytes-5
returns-in-Ok-parse_bytes-5 g c =
    let r = compressible_given g.N.ParseBytes.seen Rp rp_fields 17 c.args.rtype.code.value (λ n. data_as g.N.ParseBytes.reads n c.args.bytes.now) _ c.in-Ok-parse_bytes-5.value (search rules) (compressible_read g.N.ParseBytes.reads 17 c.args.bytes.now) (refl, (refl, tt)) c.in-Ok-parse_bytes-5.ensures in
    record { exact = r.0; typed = r.1 }

pub returns-in-Err-parse_bytes-5 : goal.returns-in-Err-parse_bytes-5
returns-in-Err-parse_bytes-5 g c =
    record { exact = compressible_refused 17 c.args.rtype.code.value (λ n. data_as g.N.ParseBytes.reads n c.args.bytes.now) _ (search rules) (compressible_read g.N.ParseBytes.reads 17 c.args.bytes.now) c.in-Err-parse_bytes-5.ensures; typed = tt }

pub read_plain-requires : goal.read_plain-requires
read_plain-requires g c = uncompressed_unless_compressible c.args.rtype.code.value (search rules)

pub returns-in_default : goal.returns-in_default
returns-in_default g c =
    let r = plain_read g.N.ParseBytes.seen g.N.ParseBytes.reads c.args.rtype.code.value c.args.bytes.now c.read_plain.result (uncompressed_unless_compressible c.args.rtype.code.value (search rules)) c.read_plain.ensures in
    record { exact = r.0; typed = r.1 }
