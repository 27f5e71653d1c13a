use Rattle.dns_message.proofs.Repushed.{pushed_record}
use Rattle.dns_message.proofs.build_laws.pushed_records_are_read.Goals as goal

pub returns : goal.returns
returns c = λ section draft items r some small long none few read fits is. pushed_record draft items long read fits section r some small none few is
