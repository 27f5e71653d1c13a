use Rattle.std.proofs.Common.{arith, length}
use Rattle.std.proofs.lemmas.List.{length-set, take_more_set}
use Rattle.dns_message.proofs.owner_key.put_label_of_key.Goals as goal

pub loop-at-init : goal.loop-at-init
loop-at-init c =
    let size = length c.args.key.now in
    record {
      long = omega (arith, c.requires.room, length-set c.args.label.now 0 size);
      put = take_more_set c.args.label.now 0 size (omega (arith, c.requires.room));
    }
