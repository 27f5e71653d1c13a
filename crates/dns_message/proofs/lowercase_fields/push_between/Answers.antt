use Rattle.std.proofs.Common.{◌++◌, List, ℕ, append-nil, ap, sym, ◌∙◌}
use Rattle.dns_message.specs.LowercaseFields.{between}
use Rattle.dns_message.proofs.LowercasedFields.{none_between}
use Rattle.dns_message.proofs.lowercase_fields.push_between.Goals as goal

pub returns-then-from-to : goal.returns-then-from-to
returns-then-from-to c =
    sym (append-nil c.args.rdata.now.items) ∙ ap (λ (l : List ℕ). c.args.rdata.now.items ++ l) (sym (none_between c.args.contents.now c.args.from) ∙ ap (λ (n : ℕ). between c.args.from n c.args.contents.now) c.if-from-to.true)
