-- Data with no names that pointers may lead through, as data in which a function makes something of each name.
use Rattle.std.proofs.Common.{◌≡◌, Some}
use Rattle.dns_rdata.specs.declared.record_data.RecordData.{RecordData}
use Rattle.dns_rdata.specs.declared.record_data.RecordData.TheVariants.{Ns, CName, Soa, Ptr, Mx, Rp}
use Rattle.dns_rdata.specs.Mapping.{HoldsGiven, without_names}

pub plain_given : {N R F : Type 0} (calls : F → N → R → F → Type 0) (f : F) (v : RecordData N) (result : RecordData R) → without_names v ≡ Some result → HoldsGiven calls f v result
plain_given calls f (Ns v) result e = absurd cc
plain_given calls f (CName v) result e = absurd cc
plain_given calls f (Soa v) result e = absurd cc
plain_given calls f (Ptr v) result e = absurd cc
plain_given calls f (Mx v) result e = absurd cc
plain_given calls f (Rp v) result e = absurd cc
plain_given calls f v result e = e
