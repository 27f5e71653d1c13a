use Rattle.std.proofs.Common.{◌≡◌, ◌∙◌, List, codes, false, subst, sym, ℕ}
use Rattle.dns_command.specs.Endings.{Ran}
use Rattle.dns_canon.specs.Run.{canon_rules}
use Rattle.dns_canon.specs.Statuses.{note_of}
use Rattle.dns_canon.specs.Words.{command_of}
use Rattle.dns_dispatch.specs.Dispatch.{first_is, names_denial}
use Rattle.dns_dispatch.proofs.answer.dispatch.Goals as goal

pub returns : goal.returns
returns g c =
    let k = c.run.ensures in
    subst
    (λ (words : List (List ℕ)). (first_is (codes "zone") words ≡ false) × (first_is (codes "normal") words ≡ false) × (names_denial words ≡ false)
    × Ran g.S.Source g.K.Sink g.N.Sink canon_rules note_of (command_of words) c.args.source.now c.run.new.source c.args.sink.now c.run.new.sink c.args.notes.now c.run.new.notes c.run.result)
    c.new-args.ensures (
      sym c.is_first.ensures ∙ c.if-is_first.false,
      sym c.is_first-else-is_first.ensures ∙ c.if-is_first-2.false,
      sym c.names_denial.ensures ∙ c.if-names_denial.false,
      record {
        ended = record {
          usage = k.usage;
          expected_status = k.expected_status;
          read_fault = k.read_fault;
          read_steady = k.read_steady;
          reading = k.reading;
          write_fault = k.write_fault;
          write_steady = k.write_steady;
          complete = k.complete;
          written = k.written;
          unwritten = k.unwritten;
          flushed = k.flushed;
          unread = k.unread;
          emptied = k.emptied;
          taken = k.taken;
        };
        noted = record { quiet = k.quiet; reported = k.reported; reported_whole = k.reported_whole };
      },
    )
