use Rattle.std.proofs.Common.{◌<◌, sym, ap, ◌∙◌, nat_cmp}
use Rattle.std.specs.Prelude.{reverse}
use Rattle.std.specs.Cmp.Lexicographic.{slice_cmp}
use Rattle.dns_label.specs.Order.{Precedes}
use Rattle.dns_label.proofs.Preceding.{Decides, octets_decide, lists_decide}
use Rattle.dns_name.specs.Hashing.{lowered_from_keys}
use Rattle.dns_name.specs.Order.{key, key_cmp}
use Rattle.dns_name.proofs.laws.label_order.Goals as goal

keys_decide : Decides key_cmp (Precedes (Precedes ◌<◌))
keys_decide = lists_decide (slice_cmp nat_cmp) (Precedes ◌<◌) octets_decide

pub returns : goal.returns
returns c =
    record {
      less = λ a b. (keys_decide.less (key a) (key b), keys_decide.is (key a) (key b));
      ties = λ a b. (lowered_from_keys a b, λ e. ap (key_cmp (key a)) (ap reverse (sym e)) ∙ keys_decide.tied (key a));
    }
