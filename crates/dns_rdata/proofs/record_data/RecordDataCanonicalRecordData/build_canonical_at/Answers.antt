use Rattle.std.proofs.Common.{sym, rules}
use Rattle.dns_plain.specs.Types.{srv_fields, dname_fields}
use Rattle.dns_sec.specs.Types.{rrsig_fields}
use Rattle.dns_rdata.proofs.Canonical.{plain_canonical}
use Rattle.dns_rdata.proofs.PlainOctets.{canonical_plain}
use Rattle.dns_rdata.proofs.record_data.RecordDataCanonicalRecordData.build_canonical_at.Goals as goal

pub returns-in-Srv : goal.returns-in-Srv
returns-in-Srv g c = rw (c.in-Srv.is, plain_canonical g.N.CanonicalName.name 33 (srv_fields c.in-Srv.v)) c.build_canonical_at-in-Srv.ensures

pub returns-in-DName : goal.returns-in-DName
returns-in-DName g c = rw (c.in-DName.is, plain_canonical g.N.CanonicalName.name 39 (dname_fields c.in-DName.v)) c.build_canonical_at-in-DName.ensures

pub returns-in-Rrsig : goal.returns-in-Rrsig
returns-in-Rrsig g c = rw (c.in-Rrsig.is, plain_canonical g.N.CanonicalName.name 46 (rrsig_fields c.in-Rrsig.v)) c.build_canonical_at-in-Rrsig.ensures

pub returns-in_default : goal.returns-in_default
returns-in_default g c = rw (sym (canonical_plain g.N.CanonicalName.name c.args.self.now (search rules))) c.build_plain_at.ensures
