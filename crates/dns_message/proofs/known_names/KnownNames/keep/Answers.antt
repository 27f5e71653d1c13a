use Rattle.std.proofs.Common.{◌∙◌, ap}
use Rattle.dns_message.proofs.KnownNameLemmas.{names_more, names_same}
use Rattle.dns_message.proofs.known_names.KnownNames.keep.Goals as goal

pub returns-in_err-push-clause-known : goal.returns-in_err-push-clause-known
returns-in_err-push-clause-known c = λ contents knows is. names_same contents c.args.self.now.names.items _ c.in_err-push.ensures.items knows

pub returns-in_err-number_names-clause-known : goal.returns-in_err-number_names-clause-known
returns-in_err-number_names-clause-known c = λ contents knows is.
    names_more contents c.args.self.now.names.items _ c.args.name (ap (λ v. v.items) c.in_err-number_names.ensures ∙ c.in_ok-push.ensures.items) knows is

pub returns-in_ok-number_names-clause-known : goal.returns-in_ok-number_names-clause-known
returns-in_ok-number_names-clause-known c = λ contents knows is.
    names_more contents c.args.self.now.names.items _ c.args.name (ap (λ v. v.items) c.in_ok-number_names.ensures ∙ c.in_ok-push.ensures.items) knows is

pub returns-else-len-gt-FEW-clause-known : goal.returns-else-len-gt-FEW-clause-known
returns-else-len-gt-FEW-clause-known c = λ contents knows is. names_more contents c.args.self.now.names.items _ c.args.name c.in_ok-push.ensures.items knows is
