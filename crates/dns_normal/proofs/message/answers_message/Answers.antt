use Rattle.std.proofs.Common.{ap, arith, map, subst, sym, ◌∙◌}
use Rattle.dns_message.specs.Canonical.{lowercase_names}
use Rattle.dns_message.specs.Order.{octets_of_key}
use Rattle.dns_message.specs.Headers.{header_bits}
use Rattle.dns_normal.specs.Answers.{AreRecordsOf, HaveRecords}
use Rattle.dns_normal.specs.Normal.{answers_message}
use Rattle.dns_normal.proofs.AnswersLemmas.{if_accepted, if_refused, message_is, message_short, no_answers, room_enough, room_least, room_limit}
use Rattle.dns_normal.proofs.NormalOutcomes.{refused_size}
use Rattle.dns_normal.proofs.message.answers_message.Goals as goal

pub push_records-requires : goal.push_records-requires
push_records-requires c = subst (λ forms. HaveRecords (map octets_of_key forms)) (sym c.forms.ensures) c.requires

pub returns-then-is_err-clause-refused : goal.returns-then-is_err-clause-refused
returns-then-is_err-clause-refused c = λ rs are.
    let most = c.room_for.result in
    let lists = map octets_of_key c.args.list.now in
    let lowercased = map lowercase_names rs in
    let none = no_answers most c.new-builder.result c.new-id.result.value (header_bits c.from_bits-flags.result) (room_least most lists c.room_for.ensures) (room_limit most lists c.room_for.ensures) c.new-id.ensures c.from_bits-flags.ensures
    (ap (λ d. d.header) c.new-builder.ensures) (ap (λ d. d.contents) c.new-builder.ensures) (ap (λ d. d.size) c.new-builder.ensures ∙ c.deref_mut.ensures.len ∙ c.in_ok-buffer.ensures.size) (ap (λ d. d.places) c.new-builder.ensures) in
    refused_size (answers_message lowercased)
    (room_enough most lists c.room_for.ensures rs are.1 (if_refused most lowercased c.push_records.new.builder c.push_records.result (sym c.is_err.ensures.value ∙ c.if-is_err.true) (c.push_records.ensures most rs none (subst (λ forms. AreRecordsOf (map octets_of_key forms) rs) (sym c.forms.ensures) are))))

pub returns-clause-built : goal.returns-clause-built
returns-clause-built c = λ rs are.
    let most = c.room_for.result in
    let lists = map octets_of_key c.args.list.now in
    let lowercased = map lowercase_names rs in
    let none = no_answers most c.new-builder.result c.new-id.result.value (header_bits c.from_bits-flags.result) (room_least most lists c.room_for.ensures) (room_limit most lists c.room_for.ensures) c.new-id.ensures c.from_bits-flags.ensures
    (ap (λ d. d.header) c.new-builder.ensures) (ap (λ d. d.contents) c.new-builder.ensures) (ap (λ d. d.size) c.new-builder.ensures ∙ c.deref_mut.ensures.len ∙ c.in_ok-buffer.ensures.size) (ap (λ d. d.places) c.new-builder.ensures) in
    let has = if_accepted most lowercased c.push_records.new.builder c.push_records.result (sym c.is_err.ensures.value ∙ c.if-is_err.false) (c.push_records.ensures most rs none (subst (λ forms. AreRecordsOf (map octets_of_key forms) rs) (sym c.forms.ensures) are)) in
    c.in_ok-built.ensures.items ∙ c.as_bytes.ensures ∙ c.message.ensures.octets ∙ message_is most lowercased c.push_records.new.builder has

pub returns-clause-accepted : goal.returns-clause-accepted
returns-clause-accepted c = λ rs are.
    let most = c.room_for.result in
    let lists = map octets_of_key c.args.list.now in
    let lowercased = map lowercase_names rs in
    let none = no_answers most c.new-builder.result c.new-id.result.value (header_bits c.from_bits-flags.result) (room_least most lists c.room_for.ensures) (room_limit most lists c.room_for.ensures) c.new-id.ensures c.from_bits-flags.ensures
    (ap (λ d. d.header) c.new-builder.ensures) (ap (λ d. d.contents) c.new-builder.ensures) (ap (λ d. d.size) c.new-builder.ensures ∙ c.deref_mut.ensures.len ∙ c.in_ok-buffer.ensures.size) (ap (λ d. d.places) c.new-builder.ensures) in
    let short = message_short most lowercased c.push_records.new.builder (if_accepted most lowercased c.push_records.new.builder c.push_records.result (sym c.is_err.ensures.value ∙ c.if-is_err.false) (c.push_records.ensures most rs none (subst (λ forms. AreRecordsOf (map octets_of_key forms) rs) (sym c.forms.ensures) are))) in
    omega (arith, short, room_limit most lists c.room_for.ensures)
