use Rattle.std.proofs.Common.{arith, refl}
use Rattle.std.proofs.lemmas.Bool.Decides.{nat_tests}
use Rattle.dns_wire.specs.Names.{plain_name}
use Rattle.dns_record.specs.CharacterStrings.{character_string}
use Rattle.dns_record.specs.Fields.FieldOf.{CompressibleName, UncompressedName, CharacterString, CountedOctets, CharacterStrings, OtherOctets}
use Rattle.dns_message.proofs.PlainFieldLemmas.{after_many, after_put, after_tested, after_windows, no_windows}
use Rattle.dns_message.proofs.plain_fields.after_field.Goals as goal

pub returns-in-Fixed : goal.returns-in-Fixed
returns-in-Fixed c = rw c.in-Fixed.is (after_many c.in-Fixed.size c.args.bytes.now c.after_octets.result c.after_octets.ensures)

pub returns-in-CompressibleName : goal.returns-in-CompressibleName
returns-in-CompressibleName c = rw c.in-CompressibleName.is (after_put CompressibleName (plain_name c.args.bytes.now) c.after_name.result c.after_name.ensures)

pub returns-in-UncompressedName : goal.returns-in-UncompressedName
returns-in-UncompressedName c = rw c.in-UncompressedName.is (after_put UncompressedName (plain_name c.args.bytes.now) c.after_name-in-UncompressedName.result c.after_name-in-UncompressedName.ensures)

pub returns-in-CharacterString : goal.returns-in-CharacterString
returns-in-CharacterString c = rw c.in-CharacterString.is (after_put CharacterString (character_string c.args.bytes.now) c.after_string.result c.after_string.ensures)

pub returns-in-CountedOctets : goal.returns-in-CountedOctets
returns-in-CountedOctets c = rw c.in-CountedOctets.is (after_put CountedOctets (character_string c.args.bytes.now) c.after_string-in-CountedOctets.result c.after_string-in-CountedOctets.ensures)

pub returns-in-CharacterStrings : goal.returns-in-CharacterStrings
returns-in-CharacterStrings c = rw (c.in-CharacterStrings.is, ← c.are_character_strings.ensures) (after_tested CharacterStrings _ c.args.bytes.now c.none_if.result c.none_if.ensures)

pub returns-in-Options : goal.returns-in-Options
returns-in-Options c = rw (c.in-Options.is, ← c.are_options.ensures) (after_tested OtherOctets _ c.args.bytes.now c.none_if-in-Options.result c.none_if-in-Options.ensures)

pub returns-in-TypeBitMaps : goal.returns-in-TypeBitMaps
returns-in-TypeBitMaps c = rw (c.in-TypeBitMaps.is, ← c.are_windows.ensures) (after_tested OtherOctets _ c.args.bytes.now c.none_if-in-TypeBitMaps.result c.none_if-in-TypeBitMaps.ensures)

pub returns-then-is_empty : goal.returns-then-is_empty
returns-then-is_empty c = rw c.in-NonEmptyTypeBitMaps.is (no_windows c.args.bytes.now (grind (arith, nat_tests)))

pub returns-else-is_empty : goal.returns-else-is_empty
returns-else-is_empty c = rw c.in-NonEmptyTypeBitMaps.is (after_windows _ c.args.bytes.now _ c.are_windows-else-is_empty.ensures (grind (arith, nat_tests)) c.none_if-else-is_empty.ensures)

pub returns-in-Rest : goal.returns-in-Rest
returns-in-Rest c = (OtherOctets c.args.bytes.now, rw c.in-Rest.is refl)
