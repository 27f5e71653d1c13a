use Rattle.std.proofs.Common.{◌∙◌, ap}
use Rattle.dns_wire.specs.Names.{wire, lowered}
use Rattle.dns_wire.proofs.Lowered.{lower_wire, name_lowered, wire_one}
use Rattle.dns_label.proofs.Preceding.{octets_decide}
use Rattle.dns_name.specs.Composed.{octets_cmp}
use Rattle.dns_name.proofs.laws.orders_by_octets.Goals as goal

pub returns : goal.returns
returns c =
    record {
      less = λ a b. (octets_decide.less a b, octets_decide.is a b);
      ties = λ a b is js. (
        λ e. wire_one a b is js (octets_decide.same (wire a) (wire b) e),
        λ e. ap (λ l. octets_cmp (wire l) (wire b)) e ∙ octets_decide.tied (wire b),
      );
      small_ties = λ a b is js. (
        λ e. wire_one (lowered a) (lowered b) (name_lowered a is) (name_lowered b js) (octets_decide.same (wire (lowered a)) (wire (lowered b)) e),
        λ e. ap (λ l. octets_cmp (wire l) (wire (lowered b))) e ∙ octets_decide.tied (wire (lowered b)),
      );
      small = λ labels is. lower_wire labels is.sizes;
    }
