use Rattle.std.proofs.Common.{◌≡◌, ◌+◌, ◌-◌, ◌∙◌, [], Some, None, arith, drop, length, sym, take, take_all}
use Rattle.std.proofs.lemmas.List.{length-drop}
use Rattle.std.proofs.lemmas.Result.{err_from_is_err_and}
use Rattle.dns_wire.specs.Reading.{AreOctets, octets}
use Rattle.dns_record.specs.Records.{octets_of_parts}
use Rattle.dns_record.proofs.PartsOfOctets.{class_of, few_no_parts, no_data_no_parts, parts_read, parts_written, short_data, size_of, ttl_of, type_of}
use Rattle.dns_record.proofs.unparsed_parts.UnparsedPartsReadPlainValue.read_plain.Goals as goal

pub returns-in_default-clause-exact : goal.returns-in_default-clause-exact
returns-in_default-clause-exact c = few_no_parts c.args.bytes.now (omega (arith, c.in_default.len_below))

pub returns-in_err-octets-clause-exact : goal.returns-in_err-octets-clause-exact
returns-in_err-octets-clause-exact c =
    let none : octets (10 + size_of c.args.bytes.now) c.args.bytes.now ≡ None = rw (c.from.ensures, c.from_be_bytes-size.ensures) at c.in_err-octets.ensures in
    let p = err_from_is_err_and c.from_residual.result c.from_residual.ensures.1 in
    rw p.1 (no_data_no_parts c.args.bytes.now none (omega (arith, c.in-len10-up.len_at_least)))

pub invariant_of-parts-clause-short : goal.invariant_of-parts-clause-short
invariant_of-parts-clause-short c =
    let found : octets (10 + size_of c.args.bytes.now) c.args.bytes.now ≡ Some (c.in_ok-octets.octets.now, c.in_ok-octets.rest.now) = rw (c.from.ensures, c.from_be_bytes-size.ensures) at c.in_ok-octets.ensures in
    short_data c.args.bytes.now c.in_ok-octets.octets.now c.in_ok-octets.rest.now found (omega (arith, c.from_be_bytes-size.type_inv, c.from_be_bytes-size.ensures))

pub invariant_of-parts-clause-whole : goal.invariant_of-parts-clause-whole
invariant_of-parts-clause-whole c =
    let body = c.in_ok-octets.octets.now in
    let found : octets (10 + size_of c.args.bytes.now) c.args.bytes.now ≡ Some (c.in_ok-octets.octets.now, c.in_ok-octets.rest.now) = rw (c.from.ensures, c.from_be_bytes-size.ensures) at c.in_ok-octets.ensures in
    let fits : AreOctets c.args.bytes.now = λ i. (let fits = c.type_inv.bytes i in omega (arith, fits)) in
    let rtype : c.from-2.result.code.value ≡ type_of c.args.bytes.now = c.from-2.ensures ∙ c.from_be_bytes.ensures in
    let class : c.from-3.result.code.value ≡ class_of c.args.bytes.now = c.from-3.ensures ∙ c.from_be_bytes-2.ensures in
    let ttl : c.from-4.result.value.value ≡ ttl_of c.args.bytes.now = c.from-4.ensures ∙ c.from_be_bytes-3.ensures in
    let whole : take (length body - 10) (drop 10 body) ≡ drop 10 body = take_all _ _ (omega (arith, length-drop 10 body)) in
    parts_written c.args.bytes.now body c.in_ok-octets.rest.now fits found ∙ (λ i. octets_of_parts [] (sym rtype i) (sym class i) (sym ttl i) (sym whole i))

pub returns-clause-exact : goal.returns-clause-exact
returns-clause-exact c =
    let body = c.in_ok-octets.octets.now in
    let found : octets (10 + size_of c.args.bytes.now) c.args.bytes.now ≡ Some (c.in_ok-octets.octets.now, c.in_ok-octets.rest.now) = rw (c.from.ensures, c.from_be_bytes-size.ensures) at c.in_ok-octets.ensures in
    let rtype : c.from-2.result.code.value ≡ type_of c.args.bytes.now = c.from-2.ensures ∙ c.from_be_bytes.ensures in
    let class : c.from-3.result.code.value ≡ class_of c.args.bytes.now = c.from-3.ensures ∙ c.from_be_bytes-2.ensures in
    let ttl : c.from-4.result.value.value ≡ ttl_of c.args.bytes.now = c.from-4.ensures ∙ c.from_be_bytes-3.ensures in
    let whole : take (length body - 10) (drop 10 body) ≡ drop 10 body = take_all _ _ (omega (arith, length-drop 10 body)) in
    parts_read c.args.bytes.now body c.in_ok-octets.rest.now found ∙ (λ i. Some (record { rtype = sym rtype i; class = sym class i; ttl = sym ttl i; content = sym whole i }, c.in_ok-octets.rest.now))
