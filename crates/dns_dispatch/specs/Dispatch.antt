-- Which call answers the words of a command line, and what then holds.
use Rattle.std.specs.Prelude.{◌≡◌, ◌||◌, ℕ, Bool, true, false, List, [], ◌∷◌, bytes_eq, codes}
use Rattle.dns_wire.specs.Octets.{Octets}
use Rattle.dns_text.specs.declared.io.traits.Source.{Ghosts as SourceGhosts}
use Rattle.dns_text.specs.declared.io.traits.Sink.{Ghosts as SinkGhosts}
use Rattle.dns_command.specs.Endings.{Ran}
use Rattle.dns_command.specs.Outcomes.{note_of as outcome_note}
use Rattle.dns_canon.specs.Run.{canon_rules}
use Rattle.dns_canon.specs.Statuses.{code_of as canon_code, note_of as canon_note}
use Rattle.dns_canon.specs.Words.{command_of}
use Rattle.dns_denial.specs.Texts.{code_of as denial_code, denial_note, denial_rules, outcome_of as denial_outcome}
use Rattle.dns_denial.specs.Words.{command_of as denial_command}
use Rattle.dns_normal.specs.Texts.{code_of as normal_code, command_of as normal_command, normal_note, normal_rules, outcome_of as normal_outcome}
use Rattle.dns_zone.specs.Texts.{apex_of, code_of as zone_code, outcome_of, zone_note, zone_rules}
use Rattle.dns_dispatch.specs.declared.answer.Answer.{Answer}
use Rattle.dns_dispatch.specs.declared.answer.Answer.TheVariants.{Canon, Zone, Normal, Denial}

-- whether the first of some words is this
abbrev pub first_is : Octets → List Octets → Bool
first_is word [] = false
first_is word (first ∷ others) = bytes_eq first word

-- whether the first of some words is one of the commands of `run_denial`
abbrev pub names_denial : List Octets → Bool
names_denial words = first_is (codes "hash") words || first_is (codes "covers") words || first_is (codes "signed") words || first_is (codes "keytags") words

-- The answer is that of `run_zone` exactly if the first word is `zone`, that of `run_normal` exactly if it is `normal`, that of
-- `run_denial` exactly if it is `hash`, `covers`, `signed` or `keytags`, and otherwise that of `run`. The contract of the chosen call
-- holds for its status, with the same words, source, sink and notes.
abbrev pub Dispatched : {S K N : Type 0} → SourceGhosts S → SinkGhosts K → SinkGhosts N → List Octets → S → S → K → K → N → N → Answer → Type 0
Dispatched s k n words source source' sink sink' notes notes' (Canon status) =
    (first_is (codes "zone") words ≡ false) × (first_is (codes "normal") words ≡ false) × (names_denial words ≡ false)
    × Ran s k n canon_rules canon_note (command_of words) source source' sink sink' notes notes' status
Dispatched s k n words source source' sink sink' notes notes' (Zone status) =
    (first_is (codes "zone") words ≡ true) × Ran s k n zone_rules (outcome_note zone_note) (apex_of words) source source' sink sink' notes notes' (outcome_of status)
Dispatched s k n words source source' sink sink' notes notes' (Normal status) =
    (first_is (codes "normal") words ≡ true) × Ran s k n normal_rules (outcome_note normal_note) (normal_command words) source source' sink sink' notes notes' (normal_outcome status)
Dispatched s k n words source source' sink sink' notes notes' (Denial status) =
    (names_denial words ≡ true) × Ran s k n denial_rules (outcome_note denial_note) (denial_command words) source source' sink sink' notes notes' (denial_outcome status)

abbrev pub code_of : Answer → ℕ
code_of (Canon status) = canon_code status
code_of (Zone status) = zone_code status
code_of (Normal status) = normal_code status
code_of (Denial status) = denial_code status
