use Rattle.nelgvasti.specs.declared.answers.TheConstants.{DONE}
use Rattle.dns_record.specs.FurtherFormats.{data_by}
use Rattle.nelgvasti.proofs.Readings.{refused_answer}
use Rattle.nelgvasti.proofs.canonical.canonical_size.Goals as goal

pub returns-in-Err-clause-expected : goal.returns-in-Err-clause-expected
returns-in-Err-clause-expected c = rw c.refuse.ensures.answer (refused_answer (data_by c.args.formats) (λ rs. DONE) c.args.message.now c.in-Err.error c.in-Err.ensures.refused)
