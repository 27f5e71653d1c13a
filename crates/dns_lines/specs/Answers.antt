-- The lines that answer a line.
use Rattle.std.specs.Prelude.{◌≡◌, ◌++◌, List, [], ◌∷◌, ⊤, length, nat_lt, Option, Some, None, if◌then◌else◌}
use Rattle.std.specs.List.{concat}
use Rattle.std.specs.Option.{option_map}
use Rattle.sha2.specs.Sha512.{sha384}
use Rattle.dns_text.specs.Hexadecimal.{line}
use Rattle.dns_wire.specs.Octets.{Octets, Labels}
use Rattle.dns_command.specs.Notes.{notice_line}
use Rattle.dns_command.specs.declared.notice.Notice.TheVariants.{TooLong}
use Rattle.dns_message.specs.FormsRead.{forms_of}
use Rattle.dns_message.specs.Messages.{RecordValue}
use Rattle.dns_message.specs.Order.{canonical_list}
use Rattle.dns_command.specs.Texts.{HasRecords, HasRecordsBy}
use Rattle.dns_record.specs.FurtherFormats.{data_by}
use Rattle.dns_record.specs.declared.formats.Formats.{Formats}
use Rattle.dns_record.specs.declared.formats.Formats.TheVariants.{Usual, Listed}
use Rattle.dns_denial.specs.Texts.{members}
use Rattle.dns_command.specs.Refusals.{message_refusal, message_refusal_by}
use Rattle.dns_normal.specs.Texts.{NormalRefusal, PrintsNormal, normal_note, normal_refusal}
use Rattle.dns_lines.specs.Lines.{HasLines}
use Rattle.dns_lines.specs.Records.{record_lines}
use Rattle.dns_lines.specs.Signatures.{marked, signature_lines}
use Rattle.dns_lines.specs.declared.command.LineCommand.{LineCommand}
use Rattle.dns_lines.specs.declared.command.LineCommand.TheVariants.{Normal, Digest, Signed, Records}
use Rattle.dns_lines.specs.declared.line.TheConstants.{LINE_LIMIT}

-- ---- the digest of a message

-- why the text of a message is refused for which a digest is asked
abbrev pub digest_refusal : Octets → Option NormalRefusal
digest_refusal text = message_refusal (record {}) (λ rs. None) text

-- what is printed: the digits of the digest of the canonical octets of the message's records, one after another, and LF
abbrev pub PrintsDigest : Octets → Octets → Type 0
PrintsDigest text printed = (rs : List RecordValue) × HasRecords text rs × (printed ≡ line (sha384 (concat (canonical_list rs))))

-- ---- the signatures and the records of a message

-- why the text of a message is refused whose signatures or records are asked for, by the formats of all types that RFC 4034 section 6.2 lists
abbrev pub listed_refusal : Octets → Option NormalRefusal
listed_refusal text = message_refusal_by (data_by Listed) (record {}) (λ rs. None) text

-- what is printed: the lines that answer the signatures among the message's records, in canonical order
abbrev pub PrintsSignatures : Octets → Octets → Type 0
PrintsSignatures text printed = (rs : List RecordValue) × HasRecordsBy (data_by Listed) text rs × (printed ≡ signature_lines (members rs))

-- what is printed: the lines of the message's records other than OPT, in the message's order
abbrev pub PrintsRecords : Option Labels → Octets → Octets → Type 0
PrintsRecords apex text printed = (rs : List RecordValue) × HasRecordsBy (data_by Listed) text rs × (printed ≡ record_lines apex (forms_of rs))

-- ---- by command

-- the formats by which a message is read
abbrev pub formats_for : LineCommand → Formats
formats_for Normal = Usual
formats_for Digest = Usual
formats_for Signed = Listed
formats_for (Records apex) = Listed

-- why the text of a message is refused; `None` if a text is printed for it
abbrev pub refusal_for : LineCommand → Octets → Option NormalRefusal
refusal_for Normal text = normal_refusal tt text
refusal_for Digest text = digest_refusal text
refusal_for Signed text = listed_refusal text
refusal_for (Records apex) text = listed_refusal text

-- what is printed for the text of a message
abbrev pub PrintsFor : LineCommand → Octets → Octets → Type 0
PrintsFor Normal text printed = PrintsNormal tt text printed
PrintsFor Digest text printed = PrintsDigest text printed
PrintsFor Signed text printed = PrintsSignatures text printed
PrintsFor (Records apex) text printed = PrintsRecords apex text printed

-- ---- answers

-- the line for the refusal of a line: first of one that is too long, and then of its message
abbrev pub refusal_line : LineCommand → Octets → Option Octets
refusal_line command text = if nat_lt LINE_LIMIT (length text) then Some (notice_line TooLong) else option_map normal_note (refusal_for command text)

abbrev pub IsAnswerAs : LineCommand → Octets → Option Octets → Octets → Type 0
IsAnswerAs command text None answer = PrintsFor command text answer
IsAnswerAs command text (Some note) answer = answer ≡ marked note

-- the answer to a line: what is printed for the message in it, or the line for its refusal, marked
abbrev pub IsAnswer : LineCommand → Octets → Octets → Type 0
IsAnswer command text answer = IsAnswerAs command text (refusal_line command text) answer

-- what is printed has been added to answers
abbrev pub AddsPrinted : LineCommand → Octets → Octets → Octets → Type 0
AddsPrinted command text old new = (printed : Octets) × PrintsFor command text printed × (new ≡ old ++ printed)

-- the answer to a line has been added to others
abbrev pub AddsAnswer : LineCommand → Octets → Octets → Octets → Type 0
AddsAnswer command text old new = (answer : Octets) × IsAnswer command text answer × (new ≡ old ++ answer)

-- an answer for each line, in their order
abbrev pub AreAnswers : LineCommand → List Octets → List Octets → Type 0
AreAnswers command [] [] = ⊤
AreAnswers command [] (answer ∷ answers) = ⊥
AreAnswers command (text ∷ lines) [] = ⊥
AreAnswers command (text ∷ lines) (answer ∷ answers) = IsAnswer command text answer × AreAnswers command lines answers

-- what is written for a whole text: the answers to its lines, one after another
pub record Answers (command : LineCommand) (text written : Octets) : Type 0 where
  pub lines : List Octets
  pub answers : List Octets
  pub has : HasLines text lines
  pub are : AreAnswers command lines answers
  pub written_is : written ≡ concat answers
