use Rattle.dns_canon.proofs.GeneratedRecords.{strings_read}
use Rattle.dns_canon.proofs.make.strings_of.Goals as goal

pub unwrap-requires : goal.unwrap-requires
unwrap-requires c = strings_read c.args.string.now c.wire_bytes.result.now c.parse_bytes.result c.wire_bytes.ensures.wire c.wire_bytes.ensures.short c.parse_bytes.ensures
