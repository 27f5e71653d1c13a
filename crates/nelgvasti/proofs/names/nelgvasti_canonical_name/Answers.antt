use Rattle.std.proofs.Common.{◌∙◌, ◌≤◌, arith, length, sym}
use Rattle.dns_wire.specs.Names.{lowered, name_labels, wire}
use Rattle.dns_wire.proofs.Lowered.{lowered_long}
use Rattle.nelgvasti.proofs.Filled.{filled}
use Rattle.nelgvasti.proofs.NameLemmas.{named, nameless}
use Rattle.nelgvasti.proofs.names.nelgvasti_canonical_name.Goals as goal

pub returns-in_default-clause-usage : goal.returns-in_default-clause-usage
returns-in_default-clause-usage c = λ _. nameless c.args.name.now c.in_default.ensures

pub returns-then-out-len-clause-too_small : goal.returns-then-out-len-clause-too_small
returns-then-out-len-clause-too_small c = λ _.
    let labels = name_labels c.in-Ok.name.slice.now in
    let long = lowered_long labels in
    (labels, named c.args.name.now labels c.in-Ok.ensures, omega (arith, c.len.ensures.wire, c.len-2.ensures.wire), c.len.ensures.wire ∙ sym long)

pub unwrap-requires : goal.unwrap-requires
unwrap-requires c =
    let labels = name_labels c.in-Ok.name.slice.now in
    let long = lowered_long labels in
    let room : length (wire (lowered labels)) ≤ length c.args.out.now = omega (arith, c.len-2.ensures.wire, c.if-out-len.false) in
    (filled (wire (lowered labels)) c.args.out.now c.build_lowercased_at.new.bytes c.build_lowercased_at.result room c.build_lowercased_at.ensures).0

pub returns-clause-done : goal.returns-clause-done
returns-clause-done c = λ _.
    let labels = name_labels c.in-Ok.name.slice.now in
    let long = lowered_long labels in
    let room : length (wire (lowered labels)) ≤ length c.args.out.now = omega (arith, c.len-2.ensures.wire, c.if-out-len.false) in
    let fills = (filled (wire (lowered labels)) c.args.out.now c.build_lowercased_at.new.bytes c.build_lowercased_at.result room c.build_lowercased_at.ensures).1 in
    (labels, named c.args.name.now labels c.in-Ok.ensures, fills, c.len.ensures.wire ∙ sym long)
