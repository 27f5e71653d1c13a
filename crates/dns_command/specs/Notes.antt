-- The lines that are noted.
use Rattle.std.specs.Prelude.{ℕ, List, [], ◌∷◌, ◌++◌, codes, flat_map}
use Rattle.std.specs.Fmt.{decimal}
use Rattle.dns_wire.specs.Octets.{Octets}
use Rattle.dns_command.specs.Endings.{Ending}
use Rattle.dns_command.specs.declared.notice.Notice.{Notice}
use Rattle.dns_command.specs.declared.notice.Notice.TheVariants.{Usage, TooLong, BadHex, Short, Item, Own, ReadFault, WriteFault, Memory}
use Rattle.dns_command.specs.Endings.Ending.{Printed, NoCommand, TextTooLong, TextRefused, SourceFailed, SinkFailed, NoMemory}

-- a space, and the digits of a number
abbrev pub spaced : ℕ → Octets
spaced n = 32 ∷ decimal n

-- words, numbers after them, and LF
abbrev pub note_line : Octets → List ℕ → Octets
note_line words numbers = words ++ (flat_map spaced numbers ++ 10 ∷ [])

-- the words of a notice
abbrev pub notice_words : Notice → Octets
notice_words Usage = codes "usage"
notice_words TooLong = codes "too long"
notice_words BadHex = codes "bad hex"
notice_words (Short message) = codes "short"
notice_words (Item message section index) = codes "item"
notice_words (Own words) = words.now
notice_words ReadFault = codes "read fault"
notice_words WriteFault = codes "write fault"
notice_words Memory = codes "out of memory"

-- the numbers after them
abbrev pub notice_numbers : Notice → List ℕ
notice_numbers Usage = []
notice_numbers TooLong = []
notice_numbers BadHex = []
notice_numbers (Short message) = message ∷ []
notice_numbers (Item message section index) = message ∷ section ∷ index ∷ []
notice_numbers (Own words) = []
notice_numbers ReadFault = []
notice_numbers WriteFault = []
notice_numbers Memory = []

-- the text of a notice, as it is shown
abbrev pub notice_text : Notice → Octets
notice_text notice = notice_words notice ++ flat_map spaced (notice_numbers notice)

-- the line of a notice: its text, and LF
abbrev pub notice_line : Notice → Octets
notice_line notice = note_line (notice_words notice) (notice_numbers notice)

-- the line that is noted for a kind of status, by that of a refused text; nothing is noted if all was written
abbrev pub ending_note : Ending → Octets → Octets
ending_note Printed own = []
ending_note NoCommand own = notice_line Usage
ending_note TextTooLong own = notice_line TooLong
ending_note TextRefused own = own
ending_note SourceFailed own = notice_line ReadFault
ending_note SinkFailed own = notice_line WriteFault
ending_note NoMemory own = notice_line Memory
