use Rattle.std.proofs.Common.{arith, refl, ◌∙◌}
use Rattle.std.proofs.lemmas.List.{length-take}
use Rattle.dns_message.proofs.LowercasedFields.{kept_more, kept_none, named_more, read_all}
use Rattle.dns_message.proofs.lowercase_fields.push_fields.Goals as goal

pub loop-kind-init : goal.loop-kind-init
loop-kind-init c = record { names = refl; room = c.requires.room; read = kept_none _ _ _ _ (omega (arith, length-take c.args.end c.args.names.now, c.requires.within)) }

pub loop-kind-preserved-then-not-is_name : goal.loop-kind-preserved-then-not-is_name
loop-kind-preserved-then-not-is_name c =
    let so = c.loop-kind.invariant in
    record {
      names = so.names;
      room = so.room;
      read = kept_more _ _ _ _ c.loop-kind.kind-index c.loop-kind.copied c.loop-kind.at c.loop-kind.rdata.items _ _ so.read c.loop-kind-test.true refl c.in-Some.next (rw c.contents.ensures.value at c.in-Some.ensures);
    }

pub loop-kind-preserved : goal.loop-kind-preserved
loop-kind-preserved c =
    let so = c.loop-kind.invariant in
    record {
      names = c.in_ok-next.ensures.unchanged ∙ so.names;
      room = c.in_ok-next.ensures.room;
      read = named_more _ _ _ _ c.loop-kind.kind-index c.loop-kind.copied c.loop-kind.at c.loop-kind.rdata.items _ _ so.read c.loop-kind-test.true refl c.in-Some-2.next c.push_name.new.rdata.items
          (rw (so.names, c.in-Some-2.is, c.in_ok-push_between.ensures, c.contents.ensures.value) at c.in_ok-next.ensures.put);
    }

pub returns-clause-put : goal.returns-clause-put
returns-clause-put c =
    let so = c.loop-kind.invariant in
    rw (c.in_ok-push_between-2.ensures, c.contents.ensures.value)
    (read_all _ _ _ _ c.loop-kind.kind-index _ _ c.args.end _ so.read.2 (omega (arith, c.loop-kind-test.false)) (omega (arith, length-take c.args.end c.args.names.now, c.requires.within)) refl)
