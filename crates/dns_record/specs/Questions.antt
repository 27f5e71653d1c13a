-- Questions, whatever their names are (RFC 1035 section 4.1.2).
use Rattle.std.specs.Prelude.{ℕ, Option, Some}
use Rattle.std.specs.Int.{w16}
use Rattle.dns_wire.specs.Octets.{Octets}
use Rattle.dns_wire.specs.Reading.{number, plain_at}
use Rattle.dns_wire.specs.Steps.{◌>>=◌}

pub record QuestionOf (N : Type 0) : Type 0 where
  pub name : N
  pub qtype : ℕ
  pub class : ℕ

-- a name, a type and a class at the start, and what follows them
unfoldable pub question_at : {N : Type 0} → (Octets → Option (N × Octets)) → Octets → Option (QuestionOf N × Octets)
question_at name bytes = do
  (asked, after_name) ← name bytes
  (qtype, after_type) ← number w16 after_name
  (class, rest) ← number w16 after_type
  Some (record { name = asked; qtype = qtype; class = class }, rest)

-- the same at a place in a message, and where the class ends
unfoldable pub question_in : {N : Type 0} → (Octets → ℕ → Option (N × ℕ)) → Octets → ℕ → Option (QuestionOf N × ℕ)
question_in name contents at = do
  (asked, after_name) ← name contents at
  (qtype, after_type) ← plain_at (number w16) contents after_name
  (class, end) ← plain_at (number w16) contents after_type
  Some (record { name = asked; qtype = qtype; class = class }, end)
