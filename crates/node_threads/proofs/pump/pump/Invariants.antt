use Rattle.std.proofs.Common.{◌≤◌}
use Rattle.sn_console.specs.Ends.{bytes_taken, SameInbox}
use Rattle.sn_console.specs.Handed.{IsHandedOn}
use Rattle.node_threads.proofs.pump.pump.Given as goal

abbrev pub invariant-looks : goal.invariant-looks
invariant-looks g l =
    SameInbox l.initial.inbox l.inbox
    × IsHandedOn (bytes_taken l.initial.inbox) (bytes_taken l.inbox) (g.C.Sink.written l.initial.console) (g.C.Sink.written l.console)
    × (g.C.Sink.faults l.initial.console ≤ g.C.Sink.faults l.console)
