use Rattle.std.proofs.lemmas.Result.{on_ok_weaker}
use Rattle.driven_replay.proofs.SoFar.{both-put, first-broken, second-broken}
use Rattle.driven_replay.proofs.driving.put_last.Goals as goal

pub returns-in-Err-clause-sink : goal.returns-in-Err-clause-sink
returns-in-Err-clause-sink g c = λ e r. first-broken _ _ _ _ (c.in-Err.ensures.err r)

pub returns-clause-ok : goal.returns-clause-ok
returns-clause-ok g c = on_ok_weaker c.put_ending.result (λ ok r. both-put _ _ _ _ _ (c.in-Ok.ensures.ok r) (ok r)) c.put_ending.ensures.ok

pub returns-clause-sink : goal.returns-clause-sink
returns-clause-sink g c = λ e r. second-broken _ _ _ _ _ (c.in-Ok.ensures.ok r) (c.put_ending.ensures.sink e r)

pub returns-clause-memory : goal.returns-clause-memory
returns-clause-memory g c = λ e. let k = c.put_ending.ensures.memory e in (k.0, rw k.1 c.in-Ok.ensures.ok)
