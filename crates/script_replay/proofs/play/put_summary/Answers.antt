use Rattle.std.proofs.Common.{◌∙◌}
use Rattle.script_replay.proofs.play.put_summary.Goals as goal

pub returns-clause-err : goal.returns-clause-err
returns-clause-err g c = rw (c.from-events.ensures ∙ c.applied.ensures.same) at c.put_counted_summary.ensures.err
