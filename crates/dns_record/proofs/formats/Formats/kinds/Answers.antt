use Rattle.std.proofs.Common.{ap, sym, ◌∙◌}
use Rattle.dns_record.specs.FieldKinds.{row_of}
use Rattle.dns_record.specs.FurtherFormats.{further_by}
use Rattle.dns_record.proofs.ListedFormatLemmas.{format_listed, format_not_listed}
use Rattle.dns_record.proofs.formats.Formats.kinds.Goals as goal

pub returns-in-Some : goal.returns-in-Some
returns-in-Some c =
    let listed = format_listed (further_by c.args.self c.args.rtype.code.value) c.args.rtype.code.value c.in-Some.kinds.now c.in-Some.ensures in
    record { kinds = listed.0; lowercase = listed.1 }

pub returns-in-None : goal.returns-in-None
returns-in-None c =
    let listed = format_not_listed (further_by c.args.self c.args.rtype.code.value) c.args.rtype.code.value c.in-None.ensures in
    record { kinds = c.rdata_format.ensures ∙ ap row_of (sym listed.0); lowercase = c.uses_lowercase_canonical_form.ensures ∙ sym listed.1 }
