-- What an equipment tells of its state.
use Rattle.std.specs.Prelude.{length}
use Rattle.rules.specs.Views.{View}
use Rattle.gem.specs.declared.status.Status.{Status}

abbrev pub status_of : View → Status
status_of v =
    record {
      link = v.state.link;
      control = v.state.control;
      mode = v.state.mode;
      spooling = v.held.spooling;
      actual = length v.held.spool.records;
      queued = length v.held.queue.records;
      counts = v.state.counts;
      session = v.state.session;
      pending = v.held.pending;
    }
