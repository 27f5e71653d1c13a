use Rattle.std.proofs.Common.{◌≡◌, ◌∙◌, ap, arith, drop, length, replicate, sym}
use Rattle.std.proofs.lemmas.List.{take_at}
use Rattle.dns_message.proofs.OwnerKeyLemmas.{owner_size}
use Rattle.dns_message.proofs.OwnerOfKeyLemmas.{key_sizes, owner_given}
use Rattle.dns_message.proofs.owner_key.owner_of_key.Goals as goal
use Rattle.dns_message.proofs.owner_key.owner_of_key.Goals.{then-size-eq0-via-then-size-eq0, then-size-eq0-via-else-size-eq0+then-size-gt-MAX_SIZE}

pub returns-then-size-eq0 : goal.returns-then-size-eq0
returns-then-size-eq0 c owner is =
    let sizes = key_sizes owner c.args.key.now is in
    elim c.then-size-eq0.branch [
      | then-size-eq0-via-then-size-eq0 w ↦ absurd (omega (arith, sizes.0, w.if-size-eq0.true))
      | then-size-eq0-via-else-size-eq0+then-size-gt-MAX_SIZE w ↦ absurd (omega (arith, sizes.1, w.if-size-gt-MAX_SIZE.true))
    ]

pub returns : goal.returns
returns c owner is =
    let size = length c.args.key.now in
    let new = c.put_owner_of_key.new.owner in
    let long : length new ≡ size = ap length (c.put_owner_of_key.ensures owner is) ∙ sym (owner_size owner) ∙ ap length (sym is.key_is) in
    c.ok.ensures.value ∙ owner_given c.parse_bytes.result _ owner c.args.key.now is (take_at new (drop size (replicate 255 0)) size long ∙ c.put_owner_of_key.ensures owner is) c.parse_bytes.ensures
