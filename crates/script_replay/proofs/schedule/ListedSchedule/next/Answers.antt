use Rattle.std.proofs.Common.{◌∙◌, sym}
use Rattle.script_replay.proofs.Listed.{none-left}
use Rattle.script_replay.proofs.schedule.ListedSchedule.next.Goals as goal

pub returns-in-None-clause-next : goal.returns-in-None-clause-next
returns-in-None-clause-next c = sym c.self.view_is ∙ none-left c.self.inside.events.now c.in-None.ensures.cases
