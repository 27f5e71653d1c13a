use Rattle.dns_message.proofs.Accepted.{answers_ok}
use Rattle.dns_message.proofs.push_laws.results_of_pushes.Goals as goal

pub returns : goal.returns
returns g c = λ push draft item result fit answers. answers_ok push (g.T.BuildInMessage.fits_in item) draft result fit answers
