use Rattle.dns_message.proofs.Accepted.{pushes_read, pushes_listed}
use Rattle.dns_message.proofs.push_laws.lists_of_pushes_are_read.Goals as goal

pub returns : goal.returns
returns c = record {
  items = λ pushes draft items are long whole fits. pushes_read pushes draft items are long whole fits;
  canonical = λ pushes draft items rs are long whole fits valid. pushes_listed pushes draft items are long whole fits rs valid;
}
