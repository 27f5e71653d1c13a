use Rattle.dns_name.proofs.Followed.{followed_none}
use Rattle.dns_name.proofs.OwnLabelLemmas.{followed_no_room}
use Rattle.dns_chain.proofs.OwnLabelLemmas.{own_labels_read}
use Rattle.dns_chain.proofs.canonical_name.read_own_labels.Goals as goal

pub returns-in_default-clause-none : goal.returns-in_default-clause-none
returns-in_default-clause-none c =
    let cut = c.in_default.ensures.refused in
    followed_no_room _ _ _ _ _ cut.0 (followed_none _ _) cut.1

pub returns-clause-read : goal.returns-clause-read
returns-clause-read c =
    let own = c.in-Ok.ensures.copied in
    own_labels_read _ _ _ _ _ _ own.0 own.1 c.put_root.ensures.name
