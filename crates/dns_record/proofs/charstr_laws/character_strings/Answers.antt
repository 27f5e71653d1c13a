use Rattle.std.proofs.Common.{◌≡◌, ℕ, ◌<◌, inl, inr, ltb, List, [], ◌∷◌, length, take, drop, Some, arith, ap}
use Rattle.std.proofs.lemmas.List.{length-take}
use Rattle.std.proofs.lemmas.Option.{some_pair_parts}
use Rattle.dns_wire.specs.Reading.{AreOctets}
use Rattle.dns_wire.proofs.Spelled.{chosen}
use Rattle.dns_record.specs.CharStrs.{FitsCharacterString}
use Rattle.dns_record.specs.CharacterStrings.{character_string}
use Rattle.dns_record.proofs.charstr_laws.character_strings.Goals as goal

-- the length octet says at most 255
short : (bytes octets rest : List ℕ) → AreOctets bytes → character_string bytes ≡ Some (octets, rest) → FitsCharacterString octets
short [] octets rest are e = absurd cc
short (size ∷ more) octets rest are e =
    elim (chosen (ltb (length more) size) _ _ _ e) [
      | inl bad ↦ absurd (let h = bad.1 in cc)
      | inr good ↦
          let same = some_pair_parts (take size more) octets (drop size more) rest good.1 in
          let few : size < 256 = are 0 in
          omega (arith, length-take size more, ap length same.0)
    ]

pub returns-clause-short : goal.returns-clause-short
returns-clause-short c = short
