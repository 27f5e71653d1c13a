-- How a command ends, as a status.
use Rattle.std.proofs.Common.{◌≡◌, ℕ, Bool, true, false, cond, List, length, map, nat_lt, Option, Some, None, refl, sym, subst}
use Rattle.dns_wire.specs.Octets.{Octets}
use Rattle.dns_wire.specs.Pointers.{name_at}
use Rattle.dns_record.specs.Data.{data_in}
use Rattle.dns_text.specs.Spelled.{all_spelled}
use Rattle.dns_text.specs.declared.io.traits.Source.{Ghosts as SourceGhosts}
use Rattle.dns_text.specs.declared.io.traits.Sink.{Ghosts as SinkGhosts}
use Rattle.dns_message.specs.Messages.{message_reading}
use Rattle.dns_message.specs.Refusals.{first_refused}
use Rattle.dns_message.specs.declared.canon_error.CanonError.{CanonError}
use Rattle.dns_message.specs.declared.canon_error.CanonError.TheVariants as canon
use Rattle.dns_message.proofs.SeveralMessages.{first_words}
use Rattle.dns_command.specs.Endings.{Ran, Rules}
use Rattle.dns_command.specs.Outcomes.{ending_of as outcome_ending, expected_outcome, note_of as outcome_note, refused_or_done, text_rules}
use Rattle.dns_command.specs.declared.outcome.Outcome.{Outcome}
use Rattle.dns_command.specs.declared.outcome.Outcome.TheVariants.{Done, Usage, TooLong, Refused, ReadFault, WriteFault, Memory}
use Rattle.dns_command.specs.declared.refusal.Refusal.TheVariants.{BadHex, Short, Item, Own}
use Rattle.dns_command.proofs.Translations.{Translates, ran_as}
use Rattle.dns_canon.specs.ExpectedStatus.{canon_refusal, command_reads, expected_status, limit_of, on_messages, texts_in, texts_refusal}
use Rattle.dns_canon.specs.Run.{Prints, canon_rules}
use Rattle.dns_canon.specs.Statuses.{CanonRefusal, canon_note, ending_of, note_of, outcome_of, status_of}
use Rattle.dns_canon.specs.declared.status.Status.{Status}
use Rattle.dns_canon.specs.declared.words.Command.{Command}

again : (o : Outcome CanonRefusal) → outcome_of (status_of o) ≡ o
again Done = refl
again Usage = refl
again TooLong = refl
again (Refused BadHex) = refl
again (Refused (Short message)) = refl
again (Refused (Item message section index)) = refl
again (Refused (Own reason)) = elim reason [ ]
again ReadFault = refl
again WriteFault = refl
again Memory = refl

same_ending : (o : Outcome CanonRefusal) → ending_of (status_of o) ≡ outcome_ending o
same_ending Done = refl
same_ending Usage = refl
same_ending TooLong = refl
same_ending (Refused BadHex) = refl
same_ending (Refused (Short message)) = refl
same_ending (Refused (Item message section index)) = refl
same_ending (Refused (Own reason)) = elim reason [ ]
same_ending ReadFault = refl
same_ending WriteFault = refl
same_ending Memory = refl

same_note : (o : Outcome CanonRefusal) → note_of (status_of o) ≡ outcome_note canon_note o
same_note Done = refl
same_note Usage = refl
same_note TooLong = refl
same_note (Refused BadHex) = refl
same_note (Refused (Short message)) = refl
same_note (Refused (Item message section index)) = refl
same_note (Refused (Own reason)) = elim reason [ ]
same_note ReadFault = refl
same_note WriteFault = refl
same_note Memory = refl

-- ---- the expected status

on_texts : (o : Option (List Octets)) → on_messages o ≡ status_of (refused_or_done (texts_refusal o))
on_texts None = refl
on_texts (Some messages) = by (first_refused 0 (map message_reading messages)) refl where
  by : (o : Option (ℕ × CanonError)) → first_refused 0 (map message_reading messages) ≡ o → on_messages (Some messages) ≡ status_of (refused_or_done (texts_refusal (Some messages)))
  by None is = rw is refl
  by (Some (message, canon.Short)) is = rw is refl
  by (Some (message, canon.Item section index)) is = rw is refl
  by (Some (message, canon.Memory)) is = absurd ((first_words (data_in name_at) messages message canon.Memory).0 is).refused

expected_is : (command : Option Command) (text : Octets) → expected_status command text ≡ status_of (expected_outcome limit_of canon_refusal command text)
expected_is None text = refl
expected_is (Some command) text = by (nat_lt (limit_of command) (length text)) where
  by : (long : Bool) → cond long (status_of TooLong) (on_messages (all_spelled (texts_in command text))) ≡ status_of (cond long TooLong (refused_or_done (canon_refusal command text)))
  by true = refl
  by false = on_texts (all_spelled (texts_in command text))

-- ---- all of it

abbrev rules : Rules Command (Outcome CanonRefusal)
rules = text_rules command_reads limit_of canon_refusal Prints

translates : Translates rules canon_rules status_of outcome_of
translates = record {
  again = again;
  ending = same_ending;
  done = refl;
  usage = refl;
  read_fault = refl;
  write_fault = refl;
  memory = refl;
  reads = λ command. refl;
  limit = λ command. refl;
  expected = expected_is;
  prints = λ command text printed is. is;
}

pub run_as : {S K N : Type 0} (s : SourceGhosts S) (k : SinkGhosts K) (n : SinkGhosts N) (command other : Option Command) (source source' : S) (sink sink' : K) (notes notes' : N) (outcome : Outcome CanonRefusal) (status : Status)
    → command ≡ other → status ≡ status_of outcome → Ran s k n (text_rules command_reads limit_of canon_refusal Prints) (outcome_note canon_note) command source source' sink sink' notes notes' outcome
    → Ran s k n canon_rules note_of other source source' sink sink' notes notes' status
run_as s k n command other source source' sink sink' notes notes' outcome status is status-is ran =
    subst (λ o. Ran s k n canon_rules note_of o source source' sink sink' notes notes' status) is
    (subst (Ran s k n canon_rules note_of command source source' sink sink' notes notes') (sym status-is)
    (ran_as rules canon_rules status_of outcome_of translates s k n (outcome_note canon_note) note_of command source source' sink sink' notes notes' outcome (same_note outcome) ran))
