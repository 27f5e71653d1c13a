-- The fields of the data of each type, in the order in which they come.
use Rattle.std.specs.Prelude.{List, [], ◌∷◌}
use Rattle.std.specs.Int.{w16, w32}
use Rattle.dns_record.specs.Fields.{FieldOf}
use Rattle.dns_record.specs.Fields.FieldOf.{CompressibleName, Number}
use Rattle.dns_basic.specs.declared.ns.Ns.{Ns}
use Rattle.dns_basic.specs.declared.cname.CName.{CName}
use Rattle.dns_basic.specs.declared.soa.Soa.{Soa}
use Rattle.dns_basic.specs.declared.ptr.Ptr.{Ptr}
use Rattle.dns_basic.specs.declared.mx.Mx.{Mx}
use Rattle.dns_basic.specs.declared.rp.Rp.{Rp}

abbrev pub ns_fields : {N : Type 0} → Ns N → List (FieldOf N)
ns_fields v = CompressibleName v.server ∷ []

abbrev pub cname_fields : {N : Type 0} → CName N → List (FieldOf N)
cname_fields v = CompressibleName v.name ∷ []

abbrev pub soa_fields : {N : Type 0} → Soa N → List (FieldOf N)
soa_fields v = CompressibleName v.mname ∷ CompressibleName v.rname ∷ Number w32 v.serial.0.value ∷ Number w32 v.refresh.value ∷ Number w32 v.retry.value ∷ Number w32 v.expire.value ∷ Number w32 v.minimum.value ∷ []

abbrev pub ptr_fields : {N : Type 0} → Ptr N → List (FieldOf N)
ptr_fields v = CompressibleName v.name ∷ []

abbrev pub mx_fields : {N : Type 0} → Mx N → List (FieldOf N)
mx_fields v = Number w16 v.preference.value ∷ CompressibleName v.exchange ∷ []

abbrev pub rp_fields : {N : Type 0} → Rp N → List (FieldOf N)
rp_fields v = CompressibleName v.mailbox ∷ CompressibleName v.texts ∷ []
