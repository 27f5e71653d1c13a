use Rattle.std.proofs.Common.{◌≡◌, ◌-◌, take, drop, length, refl, arith, rules, length-drop}
use Rattle.std.proofs.lemmas.List.{take_all}
use Rattle.dns_basic.specs.Types.{ns_fields, cname_fields, soa_fields, ptr_fields, mx_fields, rp_fields}
use Rattle.dns_record.specs.Data.{data_in}
use Rattle.dns_rdata.specs.declared.record_data.RecordData.TheVariants.{Ns, CName, Soa, Ptr, Mx, Rp}
use Rattle.dns_rdata.proofs.UncompressedData.{compressible_given, compressible_refused, compressible_placed, uncompressed_unless_compressible, seen_placed, none_placed, plain_read}
use Rattle.dns_rdata.proofs.record_data.RecordDataParseRecordData.parse_record_data.Goals as goal

pub returns-in-Ok : goal.returns-in-Ok
returns-in-Ok g c =
    let r = compressible_given g.N.ParseBytes.seen Ns ns_fields 2 c.args.rtype.code.value (λ n. data_in g.N.ParseBytes.reads_at n c.args.contents.now c.args.start) _ c.in-Ok.value (search rules) (compressible_placed g.N.ParseBytes.reads_at 2 c.args.contents.now c.args.start) (refl, (refl, tt)) c.in-Ok.ensures in
    record { exact = r.0; typed = r.1 }

pub returns-in-Err : goal.returns-in-Err
returns-in-Err g c =
    record { exact = compressible_refused 2 c.args.rtype.code.value (λ n. data_in g.N.ParseBytes.reads_at n c.args.contents.now c.args.start) _ (search rules) (compressible_placed g.N.ParseBytes.reads_at 2 c.args.contents.now c.args.start) c.in-Err.ensures; typed = tt }

pub returns-in-Ok-parse_message_bytes : goal.returns-in-Ok-parse_message_bytes
returns-in-Ok-parse_message_bytes g c =
    let r = compressible_given g.N.ParseBytes.seen CName cname_fields 5 c.args.rtype.code.value (λ n. data_in g.N.ParseBytes.reads_at n c.args.contents.now c.args.start) _ c.in-Ok-parse_message_bytes.value (search rules) (compressible_placed g.N.ParseBytes.reads_at 5 c.args.contents.now c.args.start) (refl, (refl, tt)) c.in-Ok-parse_message_bytes.ensures in
    record { exact = r.0; typed = r.1 }

pub returns-in-Err-parse_message_bytes : goal.returns-in-Err-parse_message_bytes
returns-in-Err-parse_message_bytes g c =
    record { exact = compressible_refused 5 c.args.rtype.code.value (λ n. data_in g.N.ParseBytes.reads_at n c.args.contents.now c.args.start) _ (search rules) (compressible_placed g.N.ParseBytes.reads_at 5 c.args.contents.now c.args.start) c.in-Err-parse_message_bytes.ensures; typed = tt }

pub returns-in-Ok-parse_message_bytes-2 : goal.returns-in-Ok-parse_message_bytes-2
returns-in-Ok-parse_message_bytes-2 g c =
    let r = compressible_given g.N.ParseBytes.seen Soa soa_fields 6 c.args.rtype.code.value (λ n. data_in g.N.ParseBytes.reads_at n c.args.contents.now c.args.start) _ c.in-Ok-parse_message_bytes-2.value (search rules) (compressible_placed g.N.ParseBytes.reads_at 6 c.args.contents.now c.args.start) (refl, (refl, tt)) c.in-Ok-parse_message_bytes-2.ensures in
    record { exact = r.0; typed = r.1 }

pub returns-in-Err-parse_message_bytes-2 : goal.returns-in-Err-parse_message_bytes-2
returns-in-Err-parse_message_bytes-2 g c =
    record { exact = compressible_refused 6 c.args.rtype.code.value (λ n. data_in g.N.ParseBytes.reads_at n c.args.contents.now c.args.start) _ (search rules) (compressible_placed g.N.ParseBytes.reads_at 6 c.args.contents.now c.args.start) c.in-Err-parse_message_bytes-2.ensures; typed = tt }

pub returns-in-Ok-parse_message_bytes-3 : goal.returns-in-Ok-parse_message_bytes-3
returns-in-Ok-parse_message_bytes-3 g c =
    let r = compressible_given g.N.ParseBytes.seen Ptr ptr_fields 12 c.args.rtype.code.value (λ n. data_in g.N.ParseBytes.reads_at n c.args.contents.now c.args.start) _ c.in-Ok-parse_message_bytes-3.value (search rules) (compressible_placed g.N.ParseBytes.reads_at 12 c.args.contents.now c.args.start) (refl, (refl, tt)) c.in-Ok-parse_message_bytes-3.ensures in
    record { exact = r.0; typed = r.1 }

pub returns-in-Err-parse_message_bytes-3 : goal.returns-in-Err-parse_message_bytes-3
returns-in-Err-parse_message_bytes-3 g c =
    record { exact = compressible_refused 12 c.args.rtype.code.value (λ n. data_in g.N.ParseBytes.reads_at n c.args.contents.now c.args.start) _ (search rules) (compressible_placed g.N.ParseBytes.reads_at 12 c.args.contents.now c.args.start) c.in-Err-parse_message_bytes-3.ensures; typed = tt }

pub returns-in-Ok-parse_message_bytes-4 : goal.returns-in-Ok-parse_message_bytes-4
returns-in-Ok-parse_message_bytes-4 g c =
    let r = compressible_given g.N.ParseBytes.seen Mx mx_fields 15 c.args.rtype.code.value (λ n. data_in g.N.ParseBytes.reads_at n c.args.contents.now c.args.start) _ c.in-Ok-parse_message_bytes-4.value (search rules) (compressible_placed g.N.ParseBytes.reads_at 15 c.args.contents.now c.args.start) (refl, (refl, tt)) c.in-Ok-parse_message_bytes-4.ensures in
    record { exact = r.0; typed = r.1 }

pub returns-in-Err-parse_message_bytes-4 : goal.returns-in-Err-parse_message_bytes-4
returns-in-Err-parse_message_bytes-4 g c =
    record { exact = compressible_refused 15 c.args.rtype.code.value (λ n. data_in g.N.ParseBytes.reads_at n c.args.contents.now c.args.start) _ (search rules) (compressible_placed g.N.ParseBytes.reads_at 15 c.args.contents.now c.args.start) c.in-Err-parse_message_bytes-4.ensures; typed = tt }

pub returns-in-Ok-parse_message_bytes-5 : goal.returns-in-Ok-parse_message_bytes-5
returns-in-Ok-parse_message_bytes-5 g c =
    let r = compressible_given g.N.ParseBytes.seen Rp rp_fields 17 c.args.rtype.code.value (λ n. data_in g.N.ParseBytes.reads_at n c.args.contents.now c.args.start) _ c.in-Ok-parse_message_bytes-5.value (search rules) (compressible_placed g.N.ParseBytes.reads_at 17 c.args.contents.now c.args.start) (refl, (refl, tt)) c.in-Ok-parse_message_bytes-5.ensures in
    record { exact = r.0; typed = r.1 }

pub returns-in-Err-parse_message_bytes-5 : goal.returns-in-Err-parse_message_bytes-5
returns-in-Err-parse_message_bytes-5 g c =
    record { exact = compressible_refused 17 c.args.rtype.code.value (λ n. data_in g.N.ParseBytes.reads_at n c.args.contents.now c.args.start) _ (search rules) (compressible_placed g.N.ParseBytes.reads_at 17 c.args.contents.now c.args.start) c.in-Err-parse_message_bytes-5.ensures; typed = tt }

pub read_plain-requires : goal.read_plain-requires
read_plain-requires g c = uncompressed_unless_compressible c.args.rtype.code.value (search rules)

pub returns-in_default : goal.returns-in_default
returns-in_default g c =
    record {
      exact = none_placed g.N.ParseBytes.reads_at c.args.rtype.code.value c.args.contents.now c.args.start (uncompressed_unless_compressible c.args.rtype.code.value (search rules)) (search rules);
      typed = tt;
    }

pub returns-in_default-2 : goal.returns-in_default-2
returns-in_default-2 g c =
    let n = c.args.rtype.code.value in
    let plain = uncompressed_unless_compressible n (search rules) in
    let trailing = drop c.args.start c.args.contents.now in
    let all : take (length c.args.contents.now - c.args.start) trailing ≡ trailing = take_all _ trailing (omega (arith, length-drop c.args.start c.args.contents.now)) in
    let r = plain_read g.N.ParseBytes.seen g.N.ParseBytes.reads n trailing c.read_plain.result plain (rw all at c.read_plain.ensures) in
    record {
      exact = rw (seen_placed g.N.ParseBytes.reads_at g.N.ParseBytes.reads n c.args.contents.now c.args.start plain (search rules)) r.0;
      typed = r.1;
    }
