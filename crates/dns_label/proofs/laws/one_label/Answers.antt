use Rattle.dns_label.proofs.FilledLabels.{label_takes, label_again}
use Rattle.dns_label.proofs.laws.one_label.Goals as goal

pub returns-clause-spelled : goal.returns-clause-spelled
returns-clause-spelled c = label_takes

pub returns-clause-read : goal.returns-clause-read
returns-clause-read c = label_again
