use Rattle.std.proofs.Common.{◌∙◌, subst, sym}
use Rattle.dns_wire.specs.Reading.{AreOctets}
use Rattle.dns_record.specs.FurtherFormats.{data_by}
use Rattle.dns_record.specs.Seen.{parts_seen}
use Rattle.dns_message.specs.Owners.{WasRead}
use Rattle.dns_message.specs.declared.last_owner.LastOwner.{LastOwner}
use Rattle.dns_message.proofs.FormsAdded.{data_adds, data_adds_none}
use Rattle.dns_message.proofs.OwnerFirst.{no_owner_no_record, no_parts_no_record, parts_there}
use Rattle.dns_message.proofs.UnparsedRecords.{data_are_at}
use Rattle.dns_message.proofs.form_reader.push_record.Goals as goal

pub returns-in_default-clause-adds : goal.returns-in_default-clause-adds
returns-in_default-clause-adds c = no_owner_no_record (data_by c.args.formats) c.args.names.now c.args.start (rw c.in_default.is at c.in_ok-at.ensures.read)

pub returns-in_default-split_message_bytes-clause-adds : goal.returns-in_default-split_message_bytes-clause-adds
returns-in_default-split_message_bytes-clause-adds c =
    let owner = (rw c.in-Some.is at c.in_ok-at.ensures.read).1 in
    let there = c.contents.ensures.value ∙ c.in_ok-at.ensures.unchanged in
    no_parts_no_record (data_by c.args.formats) c.args.names.now c.args.start c.in-Some.at owner.0 owner.1 (rw there at c.in_default-split_message_bytes.ensures.exact)

pub push_data-requires-clause-placed : goal.push_data-requires-clause-placed
push_data-requires-clause-placed c =
    data_are_at c.read.new.names c.in-Some.at (parts_seen c.in-Ok.parts) c.in-Ok.end (rw c.contents.ensures.value at c.in-Ok.ensures.exact)

pub push_data-requires-clause-octets : goal.push_data-requires-clause-octets
push_data-requires-clause-octets c = subst AreOctets c.contents.ensures.value c.contents.ensures.octets

pub returns-then-is_read-clause-adds : goal.returns-then-is_read-clause-adds
returns-then-is_read-clause-adds c =
    let names = c.args.names.now in
    let parts = c.in-Ok.parts in
    let owner = (rw c.in-Some.is at c.in_ok-at.ensures.read).1 in
    let there = c.contents.ensures.value ∙ c.in_ok-at.ensures.unchanged in
    let read = parts_there (data_by c.args.formats) names c.args.start c.in-Some.at owner.0 owner.1 (parts_seen parts) c.in-Ok.end (rw there at c.in-Ok.ensures.exact) in
    data_adds (data_by c.args.formats) names c.args.start owner.0 (parts_seen parts) c.in-Ok.end c.args.forms.now _ _ _ read (rw c.in_ok-at.ensures.unchanged at (c.in_ok-is_read.ensures.adds owner.0 owner.2)) c.if-is_read.true

pub returns-else-is_read-clause-adds : goal.returns-else-is_read-clause-adds
returns-else-is_read-clause-adds c =
    let names = c.args.names.now in
    let parts = c.in-Ok.parts in
    let owner = (rw c.in-Some.is at c.in_ok-at.ensures.read).1 in
    let there = c.contents.ensures.value ∙ c.in_ok-at.ensures.unchanged in
    let read = parts_there (data_by c.args.formats) names c.args.start c.in-Some.at owner.0 owner.1 (parts_seen parts) c.in-Ok.end (rw there at c.in-Ok.ensures.exact) in
    data_adds_none (data_by c.args.formats) names c.args.start owner.0 (parts_seen parts) c.in-Ok.end c.args.forms.now _ _ _ read (rw c.in_ok-at.ensures.unchanged at (c.in_ok-is_read.ensures.adds owner.0 owner.2)) c.if-is_read.false

pub returns-then-is_read-clause-owner : goal.returns-then-is_read-clause-owner
returns-then-is_read-clause-owner c =
    let known = (rw c.in-Some.is at c.in_ok-at.ensures.read).0 in
    subst (λ (o : LastOwner). WasRead c.args.names.now o) (sym c.in_ok-is_read.ensures.owner) known
