-- The fields of the data of each type.
use Rattle.std.specs.Prelude.{List, [], ◌∷◌}
use Rattle.std.specs.Int.{w16}
use Rattle.dns_wire.specs.Octets.{Octets}
use Rattle.dns_wire.specs.Names.{name_labels}
use Rattle.dns_record.specs.CharStrs.{octets_of}
use Rattle.dns_record.specs.Fields.{Field}
use Rattle.dns_record.specs.Fields.FieldOf.{UncompressedName, CharacterString, CharacterStrings, OtherOctets, Number}
use Rattle.dns_plain.specs.declared.a.A.{A}
use Rattle.dns_plain.specs.declared.hinfo.HInfo.{HInfo}
use Rattle.dns_plain.specs.declared.srv.Srv.{Srv}
use Rattle.dns_plain.specs.declared.aaaa.Aaaa.{Aaaa}
use Rattle.dns_plain.specs.declared.dname.DName.{DName}

abbrev pub a_fields : A → List Field
a_fields v = OtherOctets v.octets ∷ []

abbrev pub hinfo_fields : HInfo → List Field
hinfo_fields v = CharacterString (octets_of v.cpu.slice.now) ∷ CharacterString (octets_of v.os.slice.now) ∷ []

-- of the octets of the strings
abbrev pub txt_fields : Octets → List Field
txt_fields octets = CharacterStrings octets ∷ []

abbrev pub srv_fields : Srv → List Field
srv_fields v = Number w16 v.priority.value ∷ Number w16 v.weight.value ∷ Number w16 v.port.value ∷ UncompressedName (name_labels v.name.slice.now) ∷ []

abbrev pub aaaa_fields : Aaaa → List Field
aaaa_fields v = OtherOctets v.octets ∷ []

abbrev pub dname_fields : DName → List Field
dname_fields v = UncompressedName (name_labels v.name.slice.now) ∷ []
