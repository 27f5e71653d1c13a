use Rattle.std.proofs.Common.{◌∙◌, subst, [], ◌∷◌, List, ℕ}
use Rattle.dns_text.specs.Outside.{Puts}
use Rattle.dns_text.proofs.Transfers.{puts_after}
use Rattle.dns_command.proofs.notice.put_number.Goals as goal

pub returns-clause-puts : goal.returns-clause-puts
returns-clause-puts g c =
    subst (λ (l : List ℕ). Puts (g.K.Sink.written c.args.sink.now) (g.K.Sink.written c.put_all-2.new.sink) (32 ∷ l) c.put_all-2.result)
    (c.as_bytes.ensures.value ∙ c.format.ensures.text)
    (puts_after _ _ _ (32 ∷ []) _ c.put_all-2.result c.in_ok-put_all.ensures.puts c.put_all-2.ensures.puts)
