-- How a command ends, in other statuses.
use Rattle.std.proofs.Common.{◌≡◌, ℕ, ◌+◌, ◌⊎◌, inl, inr, List, Option, Some, None, sym, ap, subst, ◌∙◌}
use Rattle.std.specs.Prelude.{IfSome}
use Rattle.dns_text.specs.Taken.{TakesAtMost}
use Rattle.dns_text.specs.declared.io.traits.Source.{Ghosts as SourceGhosts}
use Rattle.dns_text.specs.declared.io.traits.Sink.{Ghosts as SinkGhosts}
use Rattle.dns_text.specs.declared.transfer.TheConstants.{READ_CHUNK}
use Rattle.dns_command.specs.Endings.{AllowedAs, EmptiesAs, Ended, Ending, Ran, Reported, Rules, WritesAs, text_if}
use Rattle.dns_command.specs.Endings.Ending.{Printed, NoCommand, TextTooLong, TextRefused, SourceFailed, SinkFailed, NoMemory}
use Rattle.dns_command.proofs.Printed.{writes_more}

-- Statuses of the one kind are statuses of the other: each has its own, of the same kind, and so have the status that a text calls for,
-- and those that all commands have. What is read and printed is the same.
pub record Translates {Command A B : Type 0} (r : Rules Command A) (q : Rules Command B) (to : A → B) (back : B → A) : Type 0 where
  pub again : (a : A) → back (to a) ≡ a
  pub ending : (a : A) → q.ending (to a) ≡ r.ending a
  pub done : to r.done ≡ q.done
  pub usage : to r.usage ≡ q.usage
  pub read_fault : to r.read_fault ≡ q.read_fault
  pub write_fault : to r.write_fault ≡ q.write_fault
  pub memory : to r.memory ≡ q.memory
  pub reads : (command : Option Command) → q.reads command ≡ r.reads command
  pub limit : (command : Command) → q.limit command ≡ r.limit command
  pub expected : (command : Option Command) (text : List ℕ) → q.expected command text ≡ to (r.expected command text)
  pub prints : (command : Command) (text printed : List ℕ) → r.Prints command text printed → q.Prints command text printed

more_of : {X : Type 0} (o : Option X) (P Q : X → Type 0) → ((x : X) → P x → Q x) → IfSome o P → IfSome o Q
more_of None P Q more h = tt
more_of (Some x) P Q more h = more x h

module _ {Command A B : Type 0} (r : Rules Command A) (q : Rules Command B) (to : A → B) (back : B → A) (translates : Translates r q to back) where
  same : (a b : A) → to a ≡ to b → a ≡ b
  same a b e = sym (translates.again a) ∙ ap back e ∙ translates.again b

  -- a status that all commands have
  is_one : (a one : A) (other : B) → to one ≡ other → to a ≡ other → a ≡ one
  is_one a one other is e = same a one (e ∙ sym is)

  allowed : (ending : Ending) (expected answer : A) → AllowedAs r.done r.usage ending expected answer → AllowedAs q.done q.usage ending (to expected) (to answer)
  allowed SourceFailed expected answer h = λ e. h (is_one expected r.usage q.usage translates.usage e)
  allowed SinkFailed expected answer h = ap to h ∙ translates.done
  allowed NoMemory expected answer h = λ e. h (is_one expected r.usage q.usage translates.usage e)
  allowed Printed expected answer h = ap to h
  allowed NoCommand expected answer h = ap to h
  allowed TextTooLong expected answer h = ap to h
  allowed TextRefused expected answer h = ap to h

  module _ {S K : Type 0} (s : SourceGhosts S) (k : SinkGhosts K) (command : Option Command) (source source' : S) (sink sink' : K) (answer : A) (ended : Ended s k r command source source' sink sink' answer) where
    allowed_for : (text : List ℕ) → AllowedAs r.done r.usage (r.ending answer) (r.expected command text) answer → AllowedAs q.done q.usage (q.ending (to answer)) (q.expected command text) (to answer)
    allowed_for text h =
        subst (λ e. AllowedAs q.done q.usage e (q.expected command text) (to answer)) (sym (translates.ending answer))
        (subst (λ x. AllowedAs q.done q.usage (r.ending answer) x (to answer)) (sym (translates.expected command text)) (allowed (r.ending answer) (r.expected command text) answer h))

    complete_for : (text : List ℕ) → (answer ≡ r.expected command text) ⊎ (answer ≡ r.memory) → (to answer ≡ q.expected command text) ⊎ (to answer ≡ q.memory)
    complete_for text (inl e) = inl (ap to e ∙ sym (translates.expected command text))
    complete_for text (inr e) = inr (ap to e ∙ translates.memory)

    written_for : (c : Command) → IfSome (text_if (r.reads (Some c)) (s.left source)) (λ t. WritesAs (r.Prints c t) (k.written sink) (k.written sink') (r.ending answer))
        → IfSome (text_if (q.reads (Some c)) (s.left source)) (λ t. WritesAs (q.Prints c t) (k.written sink) (k.written sink') (q.ending (to answer)))
    written_for c h =
        subst (λ b. IfSome (text_if b (s.left source)) (λ t. WritesAs (q.Prints c t) (k.written sink) (k.written sink') (q.ending (to answer)))) (sym (translates.reads (Some c)))
        (more_of (text_if (r.reads (Some c)) (s.left source)) (λ t. WritesAs (r.Prints c t) (k.written sink) (k.written sink') (r.ending answer)) (λ t. WritesAs (q.Prints c t) (k.written sink) (k.written sink') (q.ending (to answer)))
        (λ t w. subst (WritesAs (q.Prints c t) (k.written sink) (k.written sink')) (sym (translates.ending answer)) (writes_more (r.Prints c t) (q.Prints c t) (k.written sink) (k.written sink') (r.ending answer) (translates.prints c t) w)) h)

    pub ended_as : Ended s k q command source source' sink sink' (to answer)
    ended_as = record {
      usage = (λ e. ended.usage.0 (is_one answer r.usage q.usage translates.usage e), λ e. ap to (ended.usage.1 e) ∙ translates.usage);
      expected_status = subst (λ b. IfSome (text_if b (s.left source)) (λ t. AllowedAs q.done q.usage (q.ending (to answer)) (q.expected command t) (to answer))) (sym (translates.reads command))
          (more_of (text_if (r.reads command) (s.left source)) (λ t. AllowedAs r.done r.usage (r.ending answer) (r.expected command t) answer) _ allowed_for ended.expected_status);
      read_fault = λ e. ended.read_fault (is_one answer r.read_fault q.read_fault translates.read_fault e);
      read_steady = λ other. ended.read_steady (λ e. other (ap to e ∙ translates.read_fault));
      reading = λ e. translates.reads command ∙ ended.reading (is_one answer r.read_fault q.read_fault translates.read_fault e);
      write_fault = λ e. ended.write_fault (is_one answer r.write_fault q.write_fault translates.write_fault e);
      write_steady = λ other. ended.write_steady (λ e. other (ap to e ∙ translates.write_fault));
      complete = λ steady still. subst (λ b. IfSome (text_if b (s.left source)) (λ t. (to answer ≡ q.expected command t) ⊎ (to answer ≡ q.memory))) (sym (translates.reads command))
          (more_of (text_if (r.reads command) (s.left source)) (λ t. (answer ≡ r.expected command t) ⊎ (answer ≡ r.memory)) _ complete_for (ended.complete (λ reads. steady (translates.reads command ∙ reads)) still));
      written = more_of command (λ c. IfSome (text_if (r.reads (Some c)) (s.left source)) (λ t. WritesAs (r.Prints c t) (k.written sink) (k.written sink') (r.ending answer))) _ written_for ended.written;
      unwritten = λ other also. ended.unwritten (λ e. other (ap to e ∙ translates.done)) (λ e. also (ap to e ∙ translates.write_fault));
      flushed = λ e. ended.flushed (is_one answer r.done q.done translates.done e);
      unread = λ e. ended.unread (sym (translates.reads command) ∙ e);
      emptied = λ e. subst (λ x. EmptiesAs x (s.left source) (s.left source')) (sym (translates.ending answer)) (ended.emptied (sym (translates.reads command) ∙ e));
      taken = more_of command (λ c. TakesAtMost (s.left source) (s.left source') (r.limit c + READ_CHUNK)) (λ c. TakesAtMost (s.left source) (s.left source') (q.limit c + READ_CHUNK))
          (λ c h. subst (λ n. TakesAtMost (s.left source) (s.left source') (n + READ_CHUNK)) (sym (translates.limit c)) h) ended.taken;
    }

  pub ran_as : {S K N : Type 0} (s : SourceGhosts S) (k : SinkGhosts K) (n : SinkGhosts N) (note : A → List ℕ) (other_note : B → List ℕ) (command : Option Command) (source source' : S) (sink sink' : K) (notes notes' : N) (answer : A)
      → other_note (to answer) ≡ note answer → Ran s k n r note command source source' sink sink' notes notes' answer → Ran s k n q other_note command source source' sink sink' notes notes' (to answer)
  ran_as s k n note other_note command source source' sink sink' notes notes' answer is ran = record {
    ended = ended_as s k command source source' sink sink' answer ran.ended;
    noted = subst (λ line. Reported n q.done line notes notes' (to answer)) (sym is) (record {
      quiet = λ e. ran.noted.quiet (is_one answer r.done q.done translates.done e);
      reported = ran.noted.reported;
      reported_whole = ran.noted.reported_whole;
    });
  }
