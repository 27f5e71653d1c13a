use Rattle.std.proofs.Common.{List, filter, map, sym}
use Rattle.std.proofs.lemmas.Result.{IfOk-weaker}
use Rattle.dns_message.specs.Canonical.{is_not_opt}
use Rattle.dns_message.specs.Order.{collapsed, octets_of_key}
use Rattle.dns_normal.specs.Answers.{AreRecordsOf}
use Rattle.dns_normal.specs.Normal.{normal_form}
use Rattle.dns_normal.proofs.NormalForms.{left_well}
use Rattle.dns_normal.proofs.NormalOutcomes.{accepted_size}
use Rattle.dns_normal.proofs.message.form_of.Goals as goal

pub answers_message-requires : goal.answers_message-requires
answers_message-requires c =
    let read = c.requires in (
      collapsed (filter is_not_opt read.0),
      (left_well read.0 read.1, sym (c.in_ok-order.ensures.octets (filter is_not_opt read.0) read.2)),
    )

pub returns-clause-formed : goal.returns-clause-formed
returns-clause-formed c = λ rs well is.
    let are : AreRecordsOf (map octets_of_key c.in_ok-order.order) (collapsed (filter is_not_opt rs)) = (left_well rs well, sym (c.in_ok-order.ensures.octets (filter is_not_opt rs) is)) in
    c.answers_message.ensures.built (collapsed (filter is_not_opt rs)) are

pub returns-clause-accepted : goal.returns-clause-accepted
returns-clause-accepted c = λ rs well is.
    let are : AreRecordsOf (map octets_of_key c.in_ok-order.order) (collapsed (filter is_not_opt rs)) = (left_well rs well, sym (c.in_ok-order.ensures.octets (filter is_not_opt rs) is)) in
    IfOk-weaker c.answers_message.result _ _ (λ text short. accepted_size (normal_form rs) short) (c.answers_message.ensures.accepted (collapsed (filter is_not_opt rs)) are)

pub returns-clause-refused : goal.returns-clause-refused
returns-clause-refused c = λ rs well is.
    let are : AreRecordsOf (map octets_of_key c.in_ok-order.order) (collapsed (filter is_not_opt rs)) = (left_well rs well, sym (c.in_ok-order.ensures.octets (filter is_not_opt rs) is)) in
    c.answers_message.ensures.refused (collapsed (filter is_not_opt rs)) are
