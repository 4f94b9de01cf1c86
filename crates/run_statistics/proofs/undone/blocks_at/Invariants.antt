use Rattle.run_statistics.proofs.CountedBack.{IsCountedBack}
use Rattle.run_statistics.proofs.undone.blocks_at.Given as goal

abbrev pub invariant-entries : goal.invariant-entries
invariant-entries l = IsCountedBack l.machine.state.fabric l.k l.node l.done l.back
