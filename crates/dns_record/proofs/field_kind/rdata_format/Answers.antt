use Rattle.dns_record.specs.Formats.{format_under, rdata_formats}
use Rattle.dns_record.proofs.ListedFormatLemmas.{format_own, format_none}
use Rattle.dns_record.proofs.field_kind.rdata_format.Goals as goal

pub returns-in-Some : goal.returns-in-Some
returns-in-Some c = format_own (format_under rdata_formats c.args.rtype.code.value) c.in-Some.kinds.now c.in-Some.ensures

pub returns-in-None : goal.returns-in-None
returns-in-None c = format_none (format_under rdata_formats c.args.rtype.code.value) c.in-None.ensures
