use Rattle.run_statistics.proofs.CountedSoFar.{IsCountedSoFar}
use Rattle.run_statistics.proofs.counting.apply_all.Given as goal

abbrev pub invariant-events : goal.invariant-events
invariant-events l = IsCountedSoFar l.initial.machine l.events l.event-index l.count l.machine
