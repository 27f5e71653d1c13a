use Rattle.std.proofs.Common.{◌∙◌, ap, nat_cmp}
use Rattle.std.specs.Str.{str_to_ascii_lowercase}
use Rattle.std.specs.Cmp.Lexicographic.{slice_cmp}
use Rattle.dns_label.specs.Hashing.{lowered_from_order}
use Rattle.dns_label.proofs.Preceding.{octets_decide}
use Rattle.dns_label.proofs.laws.order_of_labels.Goals as goal

pub returns : goal.returns
returns c =
    record {
      less = λ label other. (octets_decide.less (str_to_ascii_lowercase label) (str_to_ascii_lowercase other), octets_decide.is (str_to_ascii_lowercase label) (str_to_ascii_lowercase other));
      ties = λ label other. (
        lowered_from_order label other,
        λ e. ap (λ o. slice_cmp nat_cmp o (str_to_ascii_lowercase other)) e ∙ octets_decide.tied (str_to_ascii_lowercase other),
      );
    }
