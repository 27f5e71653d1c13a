use Rattle.std.proofs.Common.{◌∙◌, ◌++◌, List, ℕ, ap, map, sym, subst, take}
use Rattle.std.specs.List.{concat}
use Rattle.sha2.specs.Hashers.{Holds384}
use Rattle.sha2.specs.Sha512.{sha384}
use Rattle.dns_message.specs.Order.{octets_of_key}
use Rattle.dns_message.proofs.ListOctets.{octets_all, octets_more}
use Rattle.dns_zone.proofs.digest.digest_of.Goals as goal

pub loop-found-preserved : goal.loop-found-preserved
loop-found-preserved c =
    let r = c.found-item.result in
    let so_far = concat (map octets_of_key (take c.loop-found.found-index c.forms-found-items.result.now)) in
    let held : Holds384 c.update.new.self (so_far ++ octets_of_key r) = subst (λ (l : List ℕ). Holds384 c.update.new.self (so_far ++ l)) c.octets.ensures.octets (c.update.ensures so_far c.loop-found.invariant) in
    subst (Holds384 c.update.new.self) (sym (octets_more c.forms-found-items.result.now octets_of_key c.loop-found.found-index r c.loop-found-test.true c.found-item.is)) held

pub returns : goal.returns
returns c =
    c.finalize.ensures (concat (map octets_of_key (take c.loop-found.found-index c.forms-found-items.result.now))) c.loop-found.invariant
    ∙ ap sha384 (octets_all c.forms-found-items.result.now octets_of_key c.loop-found.found-index c.loop-found-test.false ∙ ap (λ l. concat (map octets_of_key l)) c.forms-found-items.ensures)
