use Rattle.std.proofs.Common.{refl}
use Rattle.std.proofs.Math.Bool.{and-true, and_assoc}
use Rattle.dns_rdata.specs.declared.record_data.RecordData.TheVariants.{A, Ns, CName, Soa, Ptr, HInfo, Mx, Txt, Rp, Srv, Aaaa, DName, Opt, Ds, Rrsig, Nsec, DNSKey, Nsec3, Nsec3Param, Cds, CDNSKey, ZoneMD, Unknown}
use Rattle.dns_rdata.proofs.laws.data_of_any_type_are_equal_by_fields.Goals as goal

pub returns : goal.returns
returns g c (A v) (A w) = simp and-true
returns g c (Ns v) (Ns w) = simp and-true
returns g c (CName v) (CName w) = simp and-true
returns g c (Soa v) (Soa w) = simp and-true
returns g c (Ptr v) (Ptr w) = simp and-true
returns g c (HInfo v) (HInfo w) = simp and-true
returns g c (Mx v) (Mx w) = simp and-true
returns g c (Txt v) (Txt w) = simp and-true
returns g c (Rp v) (Rp w) = simp and-true
returns g c (Srv v) (Srv w) = simp and-true
returns g c (Aaaa v) (Aaaa w) = simp and-true
returns g c (DName v) (DName w) = simp and-true
returns g c (Opt v) (Opt w) = simp and-true
returns g c (Ds v) (Ds w) = simp and-true
returns g c (Rrsig v) (Rrsig w) = simp and-true
returns g c (Nsec v) (Nsec w) = simp and-true
returns g c (DNSKey v) (DNSKey w) = simp and-true
returns g c (Nsec3 v) (Nsec3 w) = simp (and-true, and_assoc)
returns g c (Nsec3Param v) (Nsec3Param w) = simp and-true
returns g c (Cds v) (Cds w) = simp and-true
returns g c (CDNSKey v) (CDNSKey w) = simp and-true
returns g c (ZoneMD v) (ZoneMD w) = simp and-true
returns g c (Unknown n v) (Unknown m w) = simp and-true
returns g c a b = refl
