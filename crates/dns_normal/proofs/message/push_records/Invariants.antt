use Rattle.std.proofs.Common.{ℕ, [], List, map, take}
use Rattle.dns_message.specs.Canonical.{lowercase_names}
use Rattle.dns_message.specs.Order.{octets_of_key}
use Rattle.dns_message.specs.Messages.{RecordValue}
use Rattle.dns_normal.specs.Answers.{AreRecordsOf, HasAnswers}
use Rattle.dns_normal.proofs.message.push_records.Given as goal

-- the records so far are the answers
abbrev pub invariant-loop-form : goal.invariant-loop-form
invariant-loop-form l = (most : ℕ) (rs : List RecordValue) → HasAnswers most [] l.fn.builder → AreRecordsOf (map octets_of_key l.forms) rs → HasAnswers most (map lowercase_names (take l.form-index rs)) l.builder
