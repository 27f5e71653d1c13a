use Rattle.std.proofs.Common.{◌≡◌, subst, true, arith, take_all}
use Rattle.std.specs.List.{All}
use Rattle.std.proofs.lemmas.List.Elements.{All-more}
use Rattle.dns_message.specs.Canonical.{is_not_opt}
use Rattle.dns_message.specs.Messages.{RecordValue}
use Rattle.dns_message.proofs.collapsed_records.none_is_opt.Goals as goal

pub loop-record-preserved : goal.loop-record-preserved
loop-record-preserved c =
    All-more (λ (r : RecordValue). is_not_opt r ≡ true) c.args.records.now c.loop-record.record-index c.record-item.result c.loop-record-test.true c.loop-record.invariant
    (subst (λ (r : RecordValue). is_not_opt r ≡ true) c.record-item.is c.rtype.ensures.not_opt)

pub returns : goal.returns
returns c =
    subst (All (λ (r : RecordValue). is_not_opt r ≡ true)) (take_all c.loop-record.record-index c.args.records.now (omega (arith, c.loop-record-test.false))) c.loop-record.invariant
