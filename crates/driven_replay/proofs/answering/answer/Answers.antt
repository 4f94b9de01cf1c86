use Rattle.driven_replay.proofs.SoFar.{nothing-put}
use Rattle.driven_replay.proofs.answering.answer.Goals as goal

pub returns-in-Nothing-clause-ok : goal.returns-in-Nothing-clause-ok
returns-in-Nothing-clause-ok g c = nothing-put _ c.args.machine.now c.args.driver.now c.args.showing.now c.args.number _ c.in-Nothing.is
