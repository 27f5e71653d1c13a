use Rattle.std.proofs.Common.{◌∙◌, ap, ap₂, arith, sym, drop, map, refl, subst, ℕ, [], Some}
use Rattle.dns_wire.specs.Octets.{Octets}
use Rattle.dns_record.specs.FurtherFormats.{data_by}
use Rattle.dns_message.specs.Messages.{item_by}
use Rattle.dns_message.specs.Order.{sort_key}
use Rattle.dns_message.specs.Owners.{WasRead}
use Rattle.dns_message.specs.Parsing.{parsed_message, next_start}
use Rattle.dns_message.proofs.Adding.{placed}
use Rattle.dns_message.proofs.Chained.{read_none, read_more, read_fails, read_all}
use Rattle.dns_message.proofs.FormsAdded.{form_adds}
use Rattle.dns_message.proofs.form_reader.read_into.Goals as goal

pub loop-position-init : goal.loop-position-init
loop-position-init c = record {
  read = ([], read_none (data_by c.args.formats) c.args.message.now c.in-Ok.parser [] c.in-Ok.ensures.message c.in-Ok.ensures.start refl, c.in_ok-forms.ensures);
  names = c.new-names.ensures ∙ c.contents-contents.ensures ∙ ap (λ (l : Octets). drop 12 l) (c.message.ensures ∙ c.in-Ok.ensures.message.1);
  owner = λ some. absurd (omega (arith, some, c.forget.ensures));
}

pub returns-in_default-pushed-clause-refused : goal.returns-in_default-pushed-clause-refused
returns-in_default-pushed-clause-refused c =
    let so = c.loop-position.invariant in
    let there = so.names ∙ ap (λ (l : Octets). drop 12 l) (sym so.read.1.of_message) in
    read_fails (data_by c.args.formats) c.args.message.now c.loop-position.parser c.in-Some.position.section c.in-Some.position.index so.read.0 so.read.1 c.in-Some.ensures.none
    (ap₂ (λ (l : Octets) (n : ℕ). item_by (data_by c.args.formats) c.in-Some.position.section l n) (sym there) (sym c.offset-start.ensures) ∙ (rw c.in_default-pushed.is at c.in_ok-pushed.ensures.adds))

pub loop-position-preserved : goal.loop-position-preserved
loop-position-preserved c =
    let so = c.loop-position.invariant in
    let section = c.in-Some.position.section in
    let end = c.in-Some-pushed.end in
    let more = form_adds (data_by c.args.formats) section c.loop-position.names c.offset-start.result so.read.0 c.loop-position.forms c.push_item.new.forms end so.read.2 (rw c.in-Some-pushed.is at c.in_ok-pushed.ensures.adds) in
    record {
      read = (
        more.0,
        read_more (data_by c.args.formats) c.args.message.now c.loop-position.parser c.pass.new.self section c.in-Some.position.index end so.read.0 more.0 so.read.1 c.pass.ensures
            (placed (data_by c.args.formats) section c.loop-position.names (parsed_message c.loop-position.parser) c.offset-start.result (next_start c.loop-position.parser) so.read.0 more.0 (Some end)
            (so.names ∙ ap (λ (l : Octets). drop 12 l) (sym so.read.1.of_message)) c.offset-start.ensures more.1),
        more.2,
      );
      names = c.push_item.ensures.names ∙ so.names;
      owner = subst (λ (l : Octets). WasRead l c.push_item.new.room.owner) (sym c.push_item.ensures.names) (rw c.in-Some-pushed.is at c.in_ok-pushed.ensures.owner);
    }

pub returns-clause-read : goal.returns-clause-read
returns-clause-read c =
    let so = c.loop-position.invariant in
    let all = read_all (data_by c.args.formats) c.args.message.now c.loop-position.parser so.read.0 so.read.1 c.in_default-coming.ensures.none in
    (all.0, all.1, so.read.2 ∙ ap (map sort_key) all.2)
