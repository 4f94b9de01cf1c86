use Rattle.std.proofs.Common.{drop}
use Rattle.driven_replay.proofs.Applied.{IsApplying}
use Rattle.driven_replay.proofs.going_back.apply_all.Given as goal

abbrev pub invariant-events : goal.invariant-events
invariant-events l = IsApplying l.initial.machine l.initial.driver l.events l.machine l.driver (drop l.event-index l.events)
