use Rattle.std.proofs.Common.{refl}
use Rattle.dns_rdata.proofs.record_data.RecordData.plain_copy.Goals as goal

pub returns-in-A : goal.returns-in-A
returns-in-A g c = rw c.in-A.is refl

pub returns-in-HInfo : goal.returns-in-HInfo
returns-in-HInfo g c = rw c.in-HInfo.is refl

pub returns-in-Txt : goal.returns-in-Txt
returns-in-Txt g c = rw c.in-Txt.is refl

pub returns-in-Srv : goal.returns-in-Srv
returns-in-Srv g c = rw c.in-Srv.is refl

pub returns-in-Aaaa : goal.returns-in-Aaaa
returns-in-Aaaa g c = rw c.in-Aaaa.is refl

pub returns-in-DName : goal.returns-in-DName
returns-in-DName g c = rw c.in-DName.is refl

pub returns-in-Opt : goal.returns-in-Opt
returns-in-Opt g c = rw c.in-Opt.is refl

pub returns-in-Ds : goal.returns-in-Ds
returns-in-Ds g c = rw c.in-Ds.is refl

pub returns-in-Rrsig : goal.returns-in-Rrsig
returns-in-Rrsig g c = rw c.in-Rrsig.is refl

pub returns-in-Nsec : goal.returns-in-Nsec
returns-in-Nsec g c = rw c.in-Nsec.is refl

pub returns-in-DNSKey : goal.returns-in-DNSKey
returns-in-DNSKey g c = rw c.in-DNSKey.is refl

pub returns-in-Nsec3 : goal.returns-in-Nsec3
returns-in-Nsec3 g c = rw c.in-Nsec3.is refl

pub returns-in-Nsec3Param : goal.returns-in-Nsec3Param
returns-in-Nsec3Param g c = rw c.in-Nsec3Param.is refl

pub returns-in-Cds : goal.returns-in-Cds
returns-in-Cds g c = rw c.in-Cds.is refl

pub returns-in-CDNSKey : goal.returns-in-CDNSKey
returns-in-CDNSKey g c = rw c.in-CDNSKey.is refl

pub returns-in-ZoneMD : goal.returns-in-ZoneMD
returns-in-ZoneMD g c = rw c.in-ZoneMD.is refl

pub returns-in-Unknown : goal.returns-in-Unknown
returns-in-Unknown g c = rw c.in-Unknown.is refl
