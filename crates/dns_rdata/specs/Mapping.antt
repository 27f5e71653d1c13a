-- What a function makes of the names in data. It is called on them in the order of the fields, and each call may leave it in
-- another state.
use Rattle.std.specs.Prelude.{◌≡◌, ⊤, Option, Some, None}
use Rattle.dns_rdata.specs.declared.record_data.RecordData.{RecordData}
use Rattle.dns_rdata.specs.declared.record_data.RecordData.TheVariants.{A, Ns, CName, Soa, Ptr, HInfo, Mx, Txt, Rp, Srv, Aaaa, DName, Opt, Ds, Rrsig, Nsec, DNSKey, Nsec3, Nsec3Param, Cds, CDNSKey, ZoneMD, Unknown}

-- it may be called on one name, and then, whatever that call left, on the other
abbrev pub TakesBoth : {N R F : Type 0} → (F → N → Type 0) → (F → N → R → F → Type 0) → F → N → N → Type 0
TakesBoth {N} {R} {F} takes calls f first second = takes f first × ((given : R) (between : F) → calls f first given between → takes between second)

-- it may be called on each name
abbrev pub TakesNames : {N R F : Type 0} → (F → N → Type 0) → (F → N → R → F → Type 0) → F → RecordData N → Type 0
TakesNames takes calls f (Ns v) = takes f v.server
TakesNames takes calls f (CName v) = takes f v.name
TakesNames takes calls f (Soa v) = TakesBoth takes calls f v.mname v.rname
TakesNames takes calls f (Ptr v) = takes f v.name
TakesNames takes calls f (Mx v) = takes f v.exchange
TakesNames takes calls f (Rp v) = TakesBoth takes calls f v.mailbox v.texts
TakesNames takes calls f v = ⊤

-- data without names that pointers may lead through, as data with names of another type
abbrev pub without_names : {N R : Type 0} → RecordData N → Option (RecordData R)
without_names (A v) = Some (A v)
without_names (HInfo v) = Some (HInfo v)
without_names (Txt v) = Some (Txt v)
without_names (Srv v) = Some (Srv v)
without_names (Aaaa v) = Some (Aaaa v)
without_names (DName v) = Some (DName v)
without_names (Opt v) = Some (Opt v)
without_names (Ds v) = Some (Ds v)
without_names (Rrsig v) = Some (Rrsig v)
without_names (Nsec v) = Some (Nsec v)
without_names (DNSKey v) = Some (DNSKey v)
without_names (Nsec3 v) = Some (Nsec3 v)
without_names (Nsec3Param v) = Some (Nsec3Param v)
without_names (Cds v) = Some (Cds v)
without_names (CDNSKey v) = Some (CDNSKey v)
without_names (ZoneMD v) = Some (ZoneMD v)
without_names (Unknown rtype v) = Some (Unknown rtype v)
without_names v = None

-- these are the data with what the calls gave in place of the names; all else is as it was
abbrev pub HoldsGiven : {N R F : Type 0} → (F → N → R → F → Type 0) → F → RecordData N → RecordData R → Type 0
HoldsGiven {R = R} {F = F} calls f (Ns v) result = (given : R) × (last : F) × calls f v.server given last × (result ≡ Ns (record { server = given }))
HoldsGiven {R = R} {F = F} calls f (CName v) result = (given : R) × (last : F) × calls f v.name given last × (result ≡ CName (record { name = given }))
HoldsGiven {R = R} {F = F} calls f (Soa v) result =
    (mname : R) × (rname : R) × (between : F) × (last : F) × calls f v.mname mname between × calls between v.rname rname last
    × (result ≡ Soa (record { mname = mname; rname = rname; serial = v.serial; refresh = v.refresh; retry = v.retry; expire = v.expire; minimum = v.minimum }))
HoldsGiven {R = R} {F = F} calls f (Ptr v) result = (given : R) × (last : F) × calls f v.name given last × (result ≡ Ptr (record { name = given }))
HoldsGiven {R = R} {F = F} calls f (Mx v) result =
    (given : R) × (last : F) × calls f v.exchange given last × (result ≡ Mx (record { preference = v.preference; exchange = given }))
HoldsGiven {R = R} {F = F} calls f (Rp v) result =
    (mailbox : R) × (texts : R) × (between : F) × (last : F) × calls f v.mailbox mailbox between × calls between v.texts texts last
    × (result ≡ Rp (record { mailbox = mailbox; texts = texts }))
HoldsGiven calls f v result = without_names v ≡ Some result
