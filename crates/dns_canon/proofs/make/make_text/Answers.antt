use Rattle.std.proofs.Common.{ap, ◌∙◌}
use Rattle.dns_message.specs.Headers.{header_bits}
use Rattle.dns_canon.proofs.MadeLemmas.{none_made}
use Rattle.dns_canon.proofs.make.make_text.Goals as goal

pub push_records-requires-clause-none : goal.push_records-requires-clause-none
push_records-requires-clause-none c =
    none_made c.new-builder.result c.new-id.result.value (header_bits c.from_bits-flags.result) (ap (λ d. d.header) c.new-builder.ensures) (ap (λ d. d.contents) c.new-builder.ensures)
    (ap (λ d. d.size) c.new-builder.ensures ∙ c.deref_mut.ensures.len ∙ c.in_ok-buffer.ensures.len) (ap (λ d. d.places) c.new-builder.ensures)
