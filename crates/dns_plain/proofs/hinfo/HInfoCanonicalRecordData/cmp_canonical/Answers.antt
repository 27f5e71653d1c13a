use Rattle.std.proofs.Common.{sym, ◌∙◌, false, [], ◌∷◌}
use Rattle.dns_record.specs.CharStrs.{octets_of}
use Rattle.dns_record.specs.Fields.FieldOf.{CharacterString}
use Rattle.dns_record.proofs.ComparedOctets.{first_ties, first_decides, last_decides}
use Rattle.dns_plain.proofs.hinfo.HInfoCanonicalRecordData.cmp_canonical.Goals as goal

pub returns-in-Equal : goal.returns-in-Equal
returns-in-Equal c =
    let a = c.args.self.now in let b = c.args.other.now in
    first_ties false (CharacterString (octets_of a.cpu.slice.now)) (CharacterString (octets_of b.cpu.slice.now)) (CharacterString (octets_of a.os.slice.now) ∷ []) (CharacterString (octets_of b.os.slice.now) ∷ []) _ tt (sym c.cmp_composed.ensures ∙ c.in-Equal.is)
    (last_decides false (CharacterString (octets_of a.os.slice.now)) (CharacterString (octets_of b.os.slice.now)) _ tt c.cmp_composed-in-Equal.ensures)

pub returns-in_default : goal.returns-in_default
returns-in_default c =
    let a = c.args.self.now in let b = c.args.other.now in
    first_decides false (CharacterString (octets_of a.cpu.slice.now)) (CharacterString (octets_of b.cpu.slice.now)) (CharacterString (octets_of a.os.slice.now) ∷ []) (CharacterString (octets_of b.os.slice.now) ∷ []) _ tt c.cmp_composed.ensures c.in_default.not-Equal
