-- How a run ends: codes, lines, and the statuses of refusals and outcomes.
use Rattle.std.specs.Prelude.{ℕ, []}
use Rattle.dns_wire.specs.Octets.{Octets}
use Rattle.dns_command.specs.Endings.{Ending}
use Rattle.dns_command.specs.Endings.Ending.{Printed, NoCommand, TextTooLong, TextRefused, SourceFailed, SinkFailed, NoMemory}
use Rattle.dns_command.specs.Notes.{ending_note, notice_line}
use Rattle.dns_command.specs.declared.notice.Notice.TheVariants as notice
use Rattle.dns_message.specs.declared.canon_error.CanonError.{CanonError}
use Rattle.dns_message.specs.declared.canon_error.CanonError.TheVariants as canon
use Rattle.std.specs.declared.convert.Infallible.{Infallible}
use Rattle.dns_command.specs.Refusals.{refusal_note}
use Rattle.dns_command.specs.declared.outcome.Outcome.{Outcome}
use Rattle.dns_command.specs.declared.outcome.Outcome.TheVariants as outcome
use Rattle.dns_command.specs.declared.refusal.Refusal.{Refusal}
use Rattle.dns_command.specs.declared.refusal.Refusal.TheVariants as refusal
use Rattle.dns_canon.specs.declared.status.Status.{Status}
use Rattle.dns_canon.specs.declared.status.Status.TheVariants.{Done, Short, Item, BadHex, TooLong, Usage, ReadFault, WriteFault, Memory}

abbrev pub code_of : Status → ℕ
code_of Done = 0
code_of (Short message) = 1
code_of (Item message section index) = 2
code_of BadHex = 3
code_of TooLong = 4
code_of Usage = 5
code_of ReadFault = 6
code_of WriteFault = 7
code_of Memory = 8

-- ---- the kind of a status

abbrev pub ending_of : Status → Ending
ending_of Done = Printed
ending_of (Short message) = TextRefused
ending_of (Item message section index) = TextRefused
ending_of BadHex = TextRefused
ending_of TooLong = TextTooLong
ending_of Usage = NoCommand
ending_of ReadFault = SourceFailed
ending_of WriteFault = SinkFailed
ending_of Memory = NoMemory

-- ---- the line for a status

-- the line for a refused text
abbrev pub refusal_line : Status → Octets
refusal_line (Short message) = notice_line (notice.Short message)
refusal_line (Item message section index) = notice_line (notice.Item message section index)
refusal_line BadHex = notice_line notice.BadHex
refusal_line status = []

-- the line that is noted for a status; nothing is noted for `Done`
abbrev pub note_of : Status → Octets
note_of status = ending_note (ending_of status) (refusal_line status)

-- ---- refusals and outcomes

-- why a text is refused
abbrev pub CanonRefusal : Type 0
CanonRefusal = Refusal ℕ Infallible

-- the status of a text that is refused
abbrev pub refusal_status : CanonRefusal → Status
refusal_status refusal.BadHex = BadHex
refusal_status (refusal.Short message) = Short message
refusal_status (refusal.Item message section index) = Item message section index
refusal_status (refusal.Own reason) = elim reason [ ]

-- an outcome as a status
abbrev pub status_of : Outcome CanonRefusal → Status
status_of outcome.Done = Done
status_of outcome.Usage = Usage
status_of outcome.TooLong = TooLong
status_of (outcome.Refused refused) = refusal_status refused
status_of outcome.ReadFault = ReadFault
status_of outcome.WriteFault = WriteFault
status_of outcome.Memory = Memory

-- a status as an outcome
abbrev pub outcome_of : Status → Outcome CanonRefusal
outcome_of Done = outcome.Done
outcome_of (Short message) = outcome.Refused (refusal.Short message)
outcome_of (Item message section index) = outcome.Refused (refusal.Item message section index)
outcome_of BadHex = outcome.Refused refusal.BadHex
outcome_of TooLong = outcome.TooLong
outcome_of Usage = outcome.Usage
outcome_of ReadFault = outcome.ReadFault
outcome_of WriteFault = outcome.WriteFault
outcome_of Memory = outcome.Memory

-- the status of a message of a number that is not read whole
abbrev pub canon_status : ℕ → CanonError → Status
canon_status message canon.Short = Short message
canon_status message (canon.Item section index) = Item message section index
canon_status message canon.Memory = Memory

-- the line that is noted for a refusal
abbrev pub canon_note : CanonRefusal → Octets
canon_note = refusal_note (λ message. message) (λ reason. [])
