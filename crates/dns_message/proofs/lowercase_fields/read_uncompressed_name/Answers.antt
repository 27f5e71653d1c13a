use Rattle.std.proofs.Common.{◌≡◌, ◌∙◌, ap, arith, false, length, ltb, sym, take}
use Rattle.std.proofs.lemmas.Bool.{le-ltb}
use Rattle.dns_wire.specs.Names.{lowered, name_labels, wire}
use Rattle.dns_wire.specs.Reading.{with_end}
use Rattle.dns_wire.proofs.Lowered.{lowered_long}
use Rattle.dns_message.proofs.WrittenNames.{always_fits, written_first}
use Rattle.dns_message.proofs.LowercasedFields.{from_place}
use Rattle.dns_message.proofs.lowercase_fields.read_uncompressed_name.Goals as goal

pub unwrap-requires : goal.unwrap-requires
unwrap-requires c =
    let labels = name_labels c.in-Ok.name.slice.now in
    always_fits (wire (lowered labels)) c.args.buffer.now c.build_lowercased_at.new.bytes c.build_lowercased_at.result c.build_lowercased_at.ensures
    (omega (arith, lowered_long labels, c.composed_size-size.ensures.name.size, c.requires.room))

pub returns-clause-read : goal.returns-clause-read
returns-clause-read c =
    let labels = name_labels c.in-Ok.name.slice.now in
    let size = c.composed_size-size.ensures.size in
    let put = written_first (wire (lowered labels)) c.args.buffer.now c.build_lowercased_at.new.bytes c.build_lowercased_at.result c.build_lowercased_at.ensures
    (omega (arith, lowered_long labels, c.composed_size-size.ensures.name.size, c.requires.room)) in
    let there : ltb (length c.args.contents.now) c.args.start ≡ false = le-ltb _ _ c.requires.start in (
      labels,
      rw there (ap (with_end c.args.contents.now) (rw (from_place c.args.contents.now c.args.start) at c.in-Ok.ensures.exact)),
      omega (arith, size, c.composed_size-size.ensures.name.size),
      ap (λ n. take n c.build_lowercased_at.new.bytes) (size ∙ sym (lowered_long labels)) ∙ put,
    )

pub returns-in_default-clause-read : goal.returns-in_default-clause-read
returns-in_default-clause-read c =
    let there : ltb (length c.args.contents.now) c.args.start ≡ false = le-ltb _ _ c.requires.start in
    rw there (ap (with_end c.args.contents.now) (rw (from_place c.args.contents.now c.args.start) at c.in_default.ensures.exact))
