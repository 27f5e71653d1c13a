use Rattle.dns_canon.proofs.RunStatuses.{run_as}
use Rattle.dns_canon.proofs.command.run.Goals as goal

pub returns : goal.returns
returns g c =
    let ran = run_as g.S.Source g.K.Sink g.N.Sink _ _ _ _ _ _ _ _ c.run_command-outcome.result c.from.result c.command_of.ensures c.from.ensures c.run_command-outcome.ensures in
    record {
      usage = ran.ended.usage;
      expected_status = ran.ended.expected_status;
      read_fault = ran.ended.read_fault;
      read_steady = ran.ended.read_steady;
      reading = ran.ended.reading;
      write_fault = ran.ended.write_fault;
      write_steady = ran.ended.write_steady;
      complete = ran.ended.complete;
      written = ran.ended.written;
      unwritten = ran.ended.unwritten;
      flushed = ran.ended.flushed;
      unread = ran.ended.unread;
      emptied = ran.ended.emptied;
      taken = ran.ended.taken;
      quiet = ran.noted.quiet;
      reported = ran.noted.reported;
      reported_whole = ran.noted.reported_whole;
    }
