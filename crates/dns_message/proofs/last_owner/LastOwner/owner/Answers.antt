use Rattle.dns_message.proofs.LastOwners.{owner_canonical}
use Rattle.dns_message.proofs.last_owner.LastOwner.owner.Goals as goal

pub new-requires : goal.new-requires
new-requires c = owner_canonical c.args.self.now c.requires.0 c.requires.1
