-- The lines that a piece of a text ends.
use Rattle.std.specs.Prelude.{◌≡◌, ◌++◌, List, [], ◌∷◌, Option, flat_map, take}
use Rattle.std.specs.List.{AllByRecursion, concat}
use Rattle.std.specs.Io.KnownBytes.{Appends}
use Rattle.dns_wire.specs.Octets.{Octets}
use Rattle.dns_text.specs.Outside.{WritesPrefix}
use Rattle.dns_lines.specs.Answers.{AreAnswers, IsAnswer}
use Rattle.dns_lines.specs.Lines.{IsLine, Parted, ended}
use Rattle.dns_lines.specs.declared.command.LineCommand.{LineCommand}
use Rattle.dns_lines.specs.declared.line.TheConstants.{KEPT_OCTETS}
use Rattle.dns_lines.specs.declared.status.LinesStatus.{LinesStatus}
use Rattle.dns_lines.specs.declared.status.LinesStatus.TheVariants.{Done, TooLong, Usage, ReadFault, WriteFault, Memory}

-- the answers to the lines that an LF ends have been added, and what comes after the last LF is kept
pub record AnswersPiece (command : LineCommand) (text old new kept : Octets) : Type 0 where
  pub lines : List Octets
  pub rest : Octets
  pub answers : List Octets
  pub parted : Parted text lines rest
  pub are : AreAnswers command lines answers
  pub added : new ≡ old ++ concat answers
  pub kept_is : kept ≡ take KEPT_OCTETS rest

-- the answers to some first lines have been added
pub record AnswersFront (command : LineCommand) (text old new : Octets) : Type 0 where
  pub lines : List Octets
  pub more : Octets
  pub answers : List Octets
  pub text_is : text ≡ flat_map ended lines ++ more
  pub are_lines : AllByRecursion IsLine lines
  pub are : AreAnswers command lines answers
  pub added : new ≡ old ++ concat answers

-- the answer to what comes after the last LF: nothing if that is empty, and no line
abbrev pub IsLastAnswer : LineCommand → Octets → Octets → Type 0
IsLastAnswer command [] octets = octets ≡ []
IsLastAnswer command (b ∷ rest) octets = IsAnswer command (b ∷ rest) octets

-- the last answer has been written, a prefix of it at a fault of the sink, and nothing if memory ran out
abbrev pub EndsWith : LineCommand → Octets → Option Octets → Option Octets → LinesStatus → Type 0
EndsWith command rest old new Done = (octets : Octets) × IsLastAnswer command rest octets × Appends old new octets
EndsWith command rest old new WriteFault = (octets : Octets) × IsLastAnswer command rest octets × WritesPrefix old new octets
EndsWith command rest old new Memory = Appends old new []
EndsWith command rest old new TooLong = ⊥
EndsWith command rest old new Usage = ⊥
EndsWith command rest old new ReadFault = ⊥
