use Rattle.std.proofs.Common.{refl}
use Rattle.dns_rdata.proofs.MappedNames.{plain_given}
use Rattle.dns_rdata.proofs.record_data.RecordDataClone.clone.Goals as goal

pub returns-in-Ok : goal.returns-in-Ok
returns-in-Ok g c = record { cases = rw c.in-Ns.is (c.in-Ok.value.server, tt, c.in-Ok.ensures.cases, refl) }

pub returns-in-Err : goal.returns-in-Err
returns-in-Err g c = record { cases = rw c.in-Ns.is c.in-Err.ensures.cases }

pub returns-in-Ok-clone : goal.returns-in-Ok-clone
returns-in-Ok-clone g c = record { cases = rw c.in-CName.is (c.in-Ok-clone.value.name, tt, c.in-Ok-clone.ensures.cases, refl) }

pub returns-in-Err-clone : goal.returns-in-Err-clone
returns-in-Err-clone g c = record { cases = rw c.in-CName.is c.in-Err-clone.ensures.cases }

pub returns-in-Ok-clone-3 : goal.returns-in-Ok-clone-3
returns-in-Ok-clone-3 g c = record { cases = rw c.in-Ptr.is (c.in-Ok-clone-3.value.name, tt, c.in-Ok-clone-3.ensures.cases, refl) }

pub returns-in-Err-clone-3 : goal.returns-in-Err-clone-3
returns-in-Err-clone-3 g c = record { cases = rw c.in-Ptr.is c.in-Err-clone-3.ensures.cases }

pub returns-in_default : goal.returns-in_default
returns-in_default g c = record { cases = plain_given (λ (f : _) (name : _) (given : _) (last : _). g.N.Clone.is_clone name given) tt c.args.self.now c.plain_copy.result c.plain_copy.ensures }
