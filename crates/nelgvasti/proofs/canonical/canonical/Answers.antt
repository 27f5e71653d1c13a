use Rattle.std.proofs.Common.{length}
use Rattle.nelgvasti.specs.Buffers.{room_answer}
use Rattle.nelgvasti.specs.Calls.{list_octets}
use Rattle.dns_record.specs.FurtherFormats.{data_by}
use Rattle.nelgvasti.proofs.Readings.{refused_answer}
use Rattle.nelgvasti.proofs.canonical.canonical.Goals as goal

pub returns-in-Err-clause-expected : goal.returns-in-Err-clause-expected
returns-in-Err-clause-expected c = rw c.refuse.ensures.answer (refused_answer (data_by c.args.formats) (λ rs. room_answer (list_octets rs) (length c.args.out.now)) c.args.message.now c.in-Err.error c.in-Err.ensures.refused)
