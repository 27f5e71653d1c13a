use Rattle.std.proofs.Common.{◌++◌, ◌∷◌, [], ap, append-nil, arith, false, length, sym, take, true, ◌∙◌}
use Rattle.std.proofs.lemmas.List.{length-take}
use Rattle.dns_name.specs.Order.{key}
use Rattle.dns_record.specs.Seen.{parts_seen}
use Rattle.dns_message.proofs.LastOwners.{lowered_key, owner_labels}
use Rattle.dns_record.specs.FieldKinds.{row_of}
use Rattle.dns_record.specs.FurtherFormats.{further_by}
use Rattle.dns_message.proofs.FurtherFormatLemmas.{allowed_by}
use Rattle.dns_message.proofs.JoinedFields.{joined_are}
use Rattle.dns_message.proofs.Octets.{octets_up_to}
use Rattle.dns_message.proofs.PartsAdded.{added_by, cased_in_place_by, cased_octets, cased_usual, numbers_before, opt_added, parts_after, placed_octets, plain_added, long_by, refused_by}
use Rattle.dns_message.proofs.form_reader.push_data.Goals as goal

-- ---- no name in lowercase

pub returns-then-not-are_fields-clause-adds : goal.returns-then-not-are_fields-clause-adds
returns-then-not-are_fields-clause-adds c = λ labels has.
    let parts = c.args.parts.now in
    let rtype = parts.rtype.code.value in
    let further = further_by c.args.formats rtype in
    let low = sym c.kinds-lowercase.ensures.lowercase ∙ c.if-not-lowercase.true in
    let usual = cased_usual further rtype low in
    let row = c.kinds-lowercase.ensures.kinds ∙ ap row_of usual.0 in
    cased_in_place_by further c.args.names.now parts.rdata.now rtype c.args.end low c.requires.within c.requires.placed
    ∙ joined_are rtype _ parts.rdata.now false row usual.1 (placed_octets c.args.names.now _ c.args.end c.requires.octets c.requires.placed) c.if-not-are_fields.ensures

pub returns-then-eq-clause-adds : goal.returns-then-eq-clause-adds
returns-then-eq-clause-adds c = λ labels has.
    let parts = c.args.parts.now in
    let rtype = parts.rtype.code.value in
    let further = further_by c.args.formats rtype in
    let low = sym c.kinds-lowercase.ensures.lowercase ∙ c.if-not-lowercase.true in
    let usual = cased_usual further rtype low in
    let row = c.kinds-lowercase.ensures.kinds ∙ ap row_of usual.0 in
    let are = placed_octets c.args.names.now parts.rdata.now c.args.end c.requires.octets c.requires.placed in
    let found = joined_are rtype _ parts.rdata.now true row usual.1 are c.if-not-are_fields.ensures in
    let read = found.1 in
    let added = opt_added labels (parts_seen parts) found.0 c.args.forms.now read (sym c.eq.ensures ∙ c.if-eq.true) in
    (added.0, cased_in_place_by further c.args.names.now parts.rdata.now rtype c.args.end low c.requires.within c.requires.placed ∙ added.1, added.2)

pub returns-then-not-lowercase-clause-adds : goal.returns-then-not-lowercase-clause-adds
returns-then-not-lowercase-clause-adds c = λ labels has.
    let parts = c.args.parts.now in
    let rtype = parts.rtype.code.value in
    let further = further_by c.args.formats rtype in
    let low = sym c.kinds-lowercase.ensures.lowercase ∙ c.if-not-lowercase.true in
    let usual = cased_usual further rtype low in
    let row = c.kinds-lowercase.ensures.kinds ∙ ap row_of usual.0 in
    let are = placed_octets c.args.names.now parts.rdata.now c.args.end c.requires.octets c.requires.placed in
    let found = joined_are rtype _ parts.rdata.now true row usual.1 are c.if-not-are_fields.ensures in
    let read = found.1 in
    let owner = ap key (c.owner.ensures ∙ owner_labels c.args.room.now.owner labels has) ∙ lowered_key labels in
    let whole = append-nil c.octets.result.now ∙ c.octets.ensures in
    let after = parts_after rtype parts.rclass.code.value parts.ttl.value.value _ parts.rdata.now whole in
    let added = plain_added labels (parts_seen parts) found.0 parts.rdata.now c.args.forms.now _ read (sym c.eq.ensures ∙ c.if-eq.false) (cased_octets parts.rtype.code.value parts.rdata.now found.0 are read usual.1)
    (c.in_ok-push_canonical.ensures
    ∙ (λ i. c.args.forms.now ++ record { owner = owner i; class = parts.rclass.code.value; rtype = parts.rtype.code.value; octets = after.1 i; ttl = parts.ttl.value.value } ∷ [])) in
    (added.0, cased_in_place_by further c.args.names.now parts.rdata.now rtype c.args.end low c.requires.within c.requires.placed ∙ added.1, added.2)

pub push_canonical-requires-clause-rdata : goal.push_canonical-requires-clause-rdata
push_canonical-requires-clause-rdata c =
    let parts = c.args.parts.now in
    (parts_after parts.rtype.code.value parts.rclass.code.value parts.ttl.value.value _ parts.rdata.now (append-nil c.octets.result.now ∙ c.octets.ensures)).0

pub push_canonical-requires-clause-short : goal.push_canonical-requires-clause-short
push_canonical-requires-clause-short c = omega (arith, ap length (append-nil c.octets.result.now ∙ c.octets.ensures), c.args.parts.now.short)

-- ---- names in lowercase

pub push_canonical-requires-2-clause-rdata : goal.push_canonical-requires-2-clause-rdata
push_canonical-requires-2-clause-rdata c =
    let parts = c.args.parts.now in
    (parts_after parts.rtype.code.value parts.rclass.code.value parts.ttl.value.value (c.numbers-first.result ++ c.deref.result.now) c.deref.result.now (numbers_before c.numbers-first.result parts.rtype.code.value parts.rclass.code.value parts.ttl.value.value _ c.deref.result.now c.numbers-first.ensures (omega (arith, c.len-2.ensures, ap length c.deref.ensures.value)))).0

pub push_canonical-requires-2-clause-short : goal.push_canonical-requires-2-clause-short
push_canonical-requires-2-clause-short c =
    let parts = c.args.parts.now in
    omega (arith, ap length (numbers_before c.numbers-first.result parts.rtype.code.value parts.rclass.code.value parts.ttl.value.value _ c.deref.result.now c.numbers-first.ensures (omega (arith, c.len-2.ensures, ap length c.deref.ensures.value))), c.if-len-gt-MAX_DATA_SIZE.false, c.len.ensures, ap length c.deref.ensures.value)

pub returns-then-not-branch-clause-adds : goal.returns-then-not-branch-clause-adds
returns-then-not-branch-clause-adds c = λ labels has.
    let rtype = c.args.parts.now.rtype.code.value in
    refused_by rtype _ (take c.args.end c.args.names.now) _ [] (octets_up_to c.args.end c.args.names.now c.requires.octets) (further_by c.args.formats rtype) (allowed_by c.args.formats rtype) c.kinds-lowercase.ensures.kinds
    (rw c.if-not-branch.true at c.in_ok-push_fields.ensures.put)

pub returns-then-len-gt-MAX_DATA_SIZE-clause-adds : goal.returns-then-len-gt-MAX_DATA_SIZE-clause-adds
returns-then-len-gt-MAX_DATA_SIZE-clause-adds c = λ labels has.
    let rtype = c.args.parts.now.rtype.code.value in
    long_by rtype _ (take c.args.end c.args.names.now) _ c.push_fields.new.rdata.items (octets_up_to c.args.end c.args.names.now c.requires.octets) (further_by c.args.formats rtype) (allowed_by c.args.formats rtype)
    (omega (arith, length-take c.args.end c.args.names.now, c.args.parts.now.short, c.requires.placed.0)) c.kinds-lowercase.ensures.kinds
    (omega (arith, c.if-len-gt-MAX_DATA_SIZE.true, c.len.ensures))
    (rw (c.if-not-branch.false, c.clear.ensures.items) at c.in_ok-push_fields.ensures.put)

pub returns-clause-adds : goal.returns-clause-adds
returns-clause-adds c = λ labels has.
    let parts = c.args.parts.now in
    let rtype = parts.rtype.code.value in
    let put = rw (c.if-not-branch.false, c.clear.ensures.items) at c.in_ok-push_fields.ensures.put in
    let owner = ap key (c.owner-2.ensures ∙ owner_labels c.args.room.now.owner labels has) ∙ lowered_key labels in
    let low = sym c.kinds-lowercase.ensures.lowercase ∙ c.if-not-lowercase.false in
    let after = parts_after rtype parts.rclass.code.value parts.ttl.value.value (c.numbers-first.result ++ c.deref.result.now) c.deref.result.now (numbers_before c.numbers-first.result parts.rtype.code.value parts.rclass.code.value parts.ttl.value.value _ c.deref.result.now c.numbers-first.ensures (omega (arith, c.len-2.ensures, ap length c.deref.ensures.value))) in
    added_by labels (parts_seen parts) _ (take c.args.end c.args.names.now) _ c.push_fields.new.rdata.items c.args.forms.now _ (octets_up_to c.args.end c.args.names.now c.requires.octets)
    (further_by c.args.formats rtype) (allowed_by c.args.formats rtype) low c.kinds-lowercase.ensures.kinds put (omega (arith, c.if-len-gt-MAX_DATA_SIZE.false, c.len.ensures))
    (c.in_ok-push_canonical-2.ensures
    ∙ (λ i. c.args.forms.now ++ record { owner = owner i; class = parts.rclass.code.value; rtype = parts.rtype.code.value; octets = (after.1 ∙ c.deref.ensures.value) i; ttl = parts.ttl.value.value } ∷ []))
