use Rattle.std.proofs.Common.{Err, ap}
use Rattle.driven_replay.proofs.Showings.{start-none, start-broken}
use Rattle.driven_replay.proofs.putting.put_start.Goals as goal

pub returns-in-Replay-clause-ok : goal.returns-in-Replay-clause-ok
returns-in-Replay-clause-ok g c = λ r. start-none _ c.args.machine.now c.args.showing.now _ c.in-Replay.is

pub returns-in-Err-Sink-clause-sink : goal.returns-in-Err-Sink-clause-sink
returns-in-Err-Sink-clause-sink g c = λ e r.
    start-broken c.args.machine.now c.requires.fresh _ _ c.in-States.is _ _
    (c.in-Err-Sink.ensures.sink (ap (λ t. Err t) c.in-Err-Sink.field-0-is) r)
