-- The answers to what is refused, and the position.
use Rattle.std.specs.Prelude.{ℕ}
use Rattle.dns_message.specs.declared.canon_error.CanonError.{CanonError}
use Rattle.dns_message.specs.declared.canon_error.CanonError.TheVariants as canon
use Rattle.dns_command.specs.declared.refusal.Refusal.TheVariants as normal
use Rattle.dns_normal.specs.Texts.{NormalRefusal}
use Rattle.dns_normal.specs.declared.refusal.NormalReason.TheVariants.{TooLarge}
use Rattle.dns_command.specs.declared.outcome.PrintError.{PrintError}
use Rattle.dns_command.specs.declared.outcome.PrintError.TheVariants as print
use Rattle.nelgvasti.specs.declared.answers.TheConstants.{SHORT, ITEM, USAGE, MEMORY, TOO_LARGE}
use Rattle.nelgvasti.specs.declared.item_position.ItemPosition.{ItemPosition}

-- ---- one message

abbrev pub answer_of : CanonError → ℕ
answer_of canon.Short = SHORT
answer_of (canon.Item section index) = ITEM
answer_of canon.Memory = MEMORY

-- the position that a message of this number is refused at if it is too short
abbrev pub message_position : ℕ → ItemPosition
message_position message = record { message = message; section = 0; index = 0 }

-- the position after the message of a number is refused; out of memory leaves it as it was
abbrev pub position_of : CanonError → ℕ → ItemPosition → ItemPosition
position_of canon.Short message old = message_position message
position_of (canon.Item section index) message old = record { message = message; section = section; index = index }
position_of canon.Memory message old = old

-- ---- normal forms

abbrev pub form_answer : PrintError NormalRefusal → ℕ
form_answer (print.Refused normal.BadHex) = USAGE
form_answer (print.Refused (normal.Short message)) = SHORT
form_answer (print.Refused (normal.Item message section index)) = ITEM
form_answer (print.Refused (normal.Own TooLarge)) = TOO_LARGE
form_answer print.Memory = MEMORY

abbrev pub form_position : PrintError NormalRefusal → ItemPosition → ItemPosition
form_position (print.Refused normal.BadHex) old = old
form_position (print.Refused (normal.Short message)) old = message_position 0
form_position (print.Refused (normal.Item message section index)) old = record { message = 0; section = section; index = index }
form_position (print.Refused (normal.Own TooLarge)) old = old
form_position print.Memory old = old
