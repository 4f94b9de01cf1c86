use Rattle.std.proofs.Common.{Err, ap}
use Rattle.driven_replay.proofs.putting.put_ending.Goals as goal

pub returns-in-Err-clause-sink : goal.returns-in-Err-clause-sink
returns-in-Err-clause-sink g c = λ e r. rw c.in-Replay.is (c.in-Err.ensures.err r)

pub returns-in-Err-Sink-clause-sink : goal.returns-in-Err-Sink-clause-sink
returns-in-Err-Sink-clause-sink g c = λ e r.
    rw c.in-States.is (c.in-Err-Sink.ensures.sink (ap (λ t. Err t) c.in-Err-Sink.field-0-is) r)
