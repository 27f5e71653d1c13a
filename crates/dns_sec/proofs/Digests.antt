-- Octets as the last field of data, if they are not read.
use Rattle.std.proofs.Common.{◌≡◌, ℕ, List, [], ◌∷◌, Option, Some, None, refl}
use Rattle.dns_wire.specs.Reading.{all_of}
use Rattle.dns_wire.specs.Steps.{◌>>=◌, first_to}
use Rattle.dns_record.specs.Fields.{Field}
use Rattle.dns_record.specs.Fields.FieldOf.{OtherOctets}
use Rattle.dns_record.specs.Kinds.{fields_of, no_name}

-- a field before others
abbrev trailing : Field → Option (List Field × List ℕ) → Option (List Field × List ℕ)
trailing f read = ◌>>=◌ {A = List Field × List ℕ} {B = List Field × List ℕ} read (λ others. Some (f ∷ others.0, others.1))

-- the last of four fields
pub not_last : (a b c : Field) (read : Option (List ℕ × List ℕ)) → all_of read ≡ None → all_of (trailing a (trailing b (trailing c (◌>>=◌ {A = Field × List ℕ} {B = List Field × List ℕ} (first_to OtherOctets read) (λ field. trailing field.0 (fields_of no_name [] field.1)))))) ≡ None
not_last a b c None e = refl
not_last a b c (Some (x, [])) e = absurd cc
not_last a b c (Some (x, y ∷ rest)) e = refl
