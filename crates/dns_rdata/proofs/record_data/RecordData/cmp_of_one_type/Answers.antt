use Rattle.dns_edns.specs.Types.{opt_fields}
use Rattle.dns_plain.specs.Types.{a_fields, hinfo_fields, txt_fields, aaaa_fields, srv_fields, dname_fields}
use Rattle.dns_sec.specs.Types.{ds_fields, cds_fields, rrsig_fields, dnskey_fields, cdnskey_fields, zonemd_fields}
use Rattle.dns_nsec.specs.Types.{nsec_fields, nsec3_fields, nsec3param_fields}
use Rattle.dns_rdata.proofs.Canonical.{plain_compared}
use Rattle.dns_rdata.proofs.record_data.RecordData.cmp_of_one_type.Goals as goal

pub returns-in-Srv-Srv : goal.returns-in-Srv-Srv
returns-in-Srv-Srv g c = rw (c.in-Srv-Srv.is-0, c.in-Srv-Srv.is-1) (plain_compared g.N.CanonicalName.name 33 (srv_fields c.in-Srv-Srv.v) (srv_fields c.in-Srv-Srv.w) _ c.cmp_canonical-in-Srv-Srv.ensures)

pub returns-in-DName-DName : goal.returns-in-DName-DName
returns-in-DName-DName g c = rw (c.in-DName-DName.is-0, c.in-DName-DName.is-1) (plain_compared g.N.CanonicalName.name 39 (dname_fields c.in-DName-DName.v) (dname_fields c.in-DName-DName.w) _ c.cmp_canonical-in-DName-DName.ensures)

pub returns-in-Ds-Ds : goal.returns-in-Ds-Ds
returns-in-Ds-Ds g c = rw (c.in-Ds-Ds.is-0, c.in-Ds-Ds.is-1) (plain_compared g.N.CanonicalName.name 43 (ds_fields c.in-Ds-Ds.v) (ds_fields c.in-Ds-Ds.w) _ c.cmp_canonical-in-Ds-Ds.ensures)

pub returns-in-Rrsig-Rrsig : goal.returns-in-Rrsig-Rrsig
returns-in-Rrsig-Rrsig g c = rw (c.in-Rrsig-Rrsig.is-0, c.in-Rrsig-Rrsig.is-1) (plain_compared g.N.CanonicalName.name 46 (rrsig_fields c.in-Rrsig-Rrsig.v) (rrsig_fields c.in-Rrsig-Rrsig.w) _ c.cmp_canonical-in-Rrsig-Rrsig.ensures)

pub returns-in-DNSKey-DNSKey : goal.returns-in-DNSKey-DNSKey
returns-in-DNSKey-DNSKey g c = rw (c.in-DNSKey-DNSKey.is-0, c.in-DNSKey-DNSKey.is-1) (plain_compared g.N.CanonicalName.name 48 (dnskey_fields c.in-DNSKey-DNSKey.v) (dnskey_fields c.in-DNSKey-DNSKey.w) _ c.cmp_canonical-in-DNSKey-DNSKey.ensures)

pub returns-in-Nsec3-Nsec3 : goal.returns-in-Nsec3-Nsec3
returns-in-Nsec3-Nsec3 g c = rw (c.in-Nsec3-Nsec3.is-0, c.in-Nsec3-Nsec3.is-1) (plain_compared g.N.CanonicalName.name 50 (nsec3_fields c.in-Nsec3-Nsec3.v) (nsec3_fields c.in-Nsec3-Nsec3.w) _ c.cmp_canonical-in-Nsec3-Nsec3.ensures)

pub returns-in-Nsec3Param-Nsec3Param : goal.returns-in-Nsec3Param-Nsec3Param
returns-in-Nsec3Param-Nsec3Param g c = rw (c.in-Nsec3Param-Nsec3Param.is-0, c.in-Nsec3Param-Nsec3Param.is-1) (plain_compared g.N.CanonicalName.name 51 (nsec3param_fields c.in-Nsec3Param-Nsec3Param.v) (nsec3param_fields c.in-Nsec3Param-Nsec3Param.w) _ c.cmp_canonical-in-Nsec3Param-Nsec3Param.ensures)

pub returns-in-Cds-Cds : goal.returns-in-Cds-Cds
returns-in-Cds-Cds g c = rw (c.in-Cds-Cds.is-0, c.in-Cds-Cds.is-1) (plain_compared g.N.CanonicalName.name 59 (cds_fields c.in-Cds-Cds.v) (cds_fields c.in-Cds-Cds.w) _ c.cmp_canonical-in-Cds-Cds.ensures)

pub returns-in-CDNSKey-CDNSKey : goal.returns-in-CDNSKey-CDNSKey
returns-in-CDNSKey-CDNSKey g c = rw (c.in-CDNSKey-CDNSKey.is-0, c.in-CDNSKey-CDNSKey.is-1) (plain_compared g.N.CanonicalName.name 60 (cdnskey_fields c.in-CDNSKey-CDNSKey.v) (cdnskey_fields c.in-CDNSKey-CDNSKey.w) _ c.cmp_canonical-in-CDNSKey-CDNSKey.ensures)

pub returns-in-ZoneMD-ZoneMD : goal.returns-in-ZoneMD-ZoneMD
returns-in-ZoneMD-ZoneMD g c = rw (c.in-ZoneMD-ZoneMD.is-0, c.in-ZoneMD-ZoneMD.is-1) (plain_compared g.N.CanonicalName.name 63 (zonemd_fields (λ digest. digest.now) c.in-ZoneMD-ZoneMD.v) (zonemd_fields (λ digest. digest.now) c.in-ZoneMD-ZoneMD.w) _ c.cmp_canonical-in-ZoneMD-ZoneMD.ensures)

pub returns-in-A-A : goal.returns-in-A-A
returns-in-A-A g c = rw (c.in-A-A.is-0, c.in-A-A.is-1) (plain_compared g.N.CanonicalName.name 1 (a_fields c.in-A-A.v) (a_fields c.in-A-A.w) _ c.cmp_canonical.ensures)

pub returns-in-HInfo-HInfo : goal.returns-in-HInfo-HInfo
returns-in-HInfo-HInfo g c = rw (c.in-HInfo-HInfo.is-0, c.in-HInfo-HInfo.is-1) (plain_compared g.N.CanonicalName.name 13 (hinfo_fields c.in-HInfo-HInfo.v) (hinfo_fields c.in-HInfo-HInfo.w) _ c.cmp_canonical-in-HInfo-HInfo.ensures)

pub returns-in-Txt-Txt : goal.returns-in-Txt-Txt
returns-in-Txt-Txt g c = rw (c.in-Txt-Txt.is-0, c.in-Txt-Txt.is-1) (plain_compared g.N.CanonicalName.name 16 (txt_fields c.in-Txt-Txt.v.slice.now) (txt_fields c.in-Txt-Txt.w.slice.now) _ c.cmp_canonical-in-Txt-Txt.ensures)

pub returns-in-Aaaa-Aaaa : goal.returns-in-Aaaa-Aaaa
returns-in-Aaaa-Aaaa g c = rw (c.in-Aaaa-Aaaa.is-0, c.in-Aaaa-Aaaa.is-1) (plain_compared g.N.CanonicalName.name 28 (aaaa_fields c.in-Aaaa-Aaaa.v) (aaaa_fields c.in-Aaaa-Aaaa.w) _ c.cmp_canonical-in-Aaaa-Aaaa.ensures)

pub returns-in-Opt-Opt : goal.returns-in-Opt-Opt
returns-in-Opt-Opt g c = rw (c.in-Opt-Opt.is-0, c.in-Opt-Opt.is-1) (plain_compared g.N.CanonicalName.name 41 (opt_fields c.in-Opt-Opt.v.slice.now) (opt_fields c.in-Opt-Opt.w.slice.now) _ c.cmp_canonical-in-Opt-Opt.ensures)

pub returns-in-Nsec-Nsec : goal.returns-in-Nsec-Nsec
returns-in-Nsec-Nsec g c = rw (c.in-Nsec-Nsec.is-0, c.in-Nsec-Nsec.is-1) (plain_compared g.N.CanonicalName.name 47 (nsec_fields c.in-Nsec-Nsec.v) (nsec_fields c.in-Nsec-Nsec.w) _ c.cmp_canonical-in-Nsec-Nsec.ensures)

pub returns-in-Ns-Ns : goal.returns-in-Ns-Ns
returns-in-Ns-Ns g c = rw (c.in-Ns-Ns.is-0, c.in-Ns-Ns.is-1) c.cmp_canonical-in-Ns-Ns.ensures

pub returns-in-CName-CName : goal.returns-in-CName-CName
returns-in-CName-CName g c = rw (c.in-CName-CName.is-0, c.in-CName-CName.is-1) c.cmp_canonical-in-CName-CName.ensures

pub returns-in-Soa-Soa : goal.returns-in-Soa-Soa
returns-in-Soa-Soa g c = rw (c.in-Soa-Soa.is-0, c.in-Soa-Soa.is-1) c.cmp_canonical-in-Soa-Soa.ensures

pub returns-in-Ptr-Ptr : goal.returns-in-Ptr-Ptr
returns-in-Ptr-Ptr g c = rw (c.in-Ptr-Ptr.is-0, c.in-Ptr-Ptr.is-1) c.cmp_canonical-in-Ptr-Ptr.ensures

pub returns-in-Mx-Mx : goal.returns-in-Mx-Mx
returns-in-Mx-Mx g c = rw (c.in-Mx-Mx.is-0, c.in-Mx-Mx.is-1) c.cmp_canonical-in-Mx-Mx.ensures

pub returns-in-Rp-Rp : goal.returns-in-Rp-Rp
returns-in-Rp-Rp g c = rw (c.in-Rp-Rp.is-0, c.in-Rp-Rp.is-1) c.cmp_canonical-in-Rp-Rp.ensures
