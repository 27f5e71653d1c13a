use Rattle.std.proofs.lemmas.List.{append-nil}
use Rattle.dns_rdata.specs.declared.record_data.RecordData.TheVariants.{A, Ns, CName, Soa, Ptr, HInfo, Mx, Txt, Rp, Srv, Aaaa, DName, Opt, Ds, Rrsig, Nsec, DNSKey, Nsec3, Nsec3Param, Cds, CDNSKey, ZoneMD, Unknown}
use Rattle.dns_rdata.proofs.laws.data_of_any_type_are_hashed_by_fields.Goals as goal

pub returns : goal.returns
returns g c (A v) = simp append-nil
returns g c (Ns v) = simp append-nil
returns g c (CName v) = simp append-nil
returns g c (Soa v) = simp append-nil
returns g c (Ptr v) = simp append-nil
returns g c (HInfo v) = simp append-nil
returns g c (Mx v) = simp append-nil
returns g c (Txt v) = simp append-nil
returns g c (Rp v) = simp append-nil
returns g c (Srv v) = simp append-nil
returns g c (Aaaa v) = simp append-nil
returns g c (DName v) = simp append-nil
returns g c (Opt v) = simp append-nil
returns g c (Ds v) = simp append-nil
returns g c (Rrsig v) = simp append-nil
returns g c (Nsec v) = simp append-nil
returns g c (DNSKey v) = simp append-nil
returns g c (Nsec3 v) = simp append-nil
returns g c (Nsec3Param v) = simp append-nil
returns g c (Cds v) = simp append-nil
returns g c (CDNSKey v) = simp append-nil
returns g c (ZoneMD v) = simp append-nil
returns g c (Unknown n v) = simp append-nil
