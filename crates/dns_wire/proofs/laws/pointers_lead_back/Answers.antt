use Rattle.dns_wire.proofs.Following.{label_types_counted, name_label_types_counted}
use Rattle.dns_wire.proofs.laws.pointers_lead_back.Goals as goal

pub returns : goal.returns
returns c = record { segment = λ contents start at labels end reads. label_types_counted contents reads; name = name_label_types_counted }
