use Rattle.std.proofs.Common.{◌∙◌}
use Rattle.dns_record.specs.Formats.{format_under, rdata_formats}
use Rattle.dns_record.proofs.ListedFormatLemmas.{format_has}
use Rattle.dns_record.proofs.field_kind.has_rdata_format.Goals as goal

pub returns : goal.returns
returns c = c.is_some.ensures ∙ format_has (format_under rdata_formats c.args.rtype.code.value) c.own_format.result c.own_format.ensures
