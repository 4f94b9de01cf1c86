use Rattle.std.proofs.Common.{◌≡◌, ◌+◌, drop, length}
use Rattle.sn_saved.specs.Saved.{most_saved, given_from}
use Rattle.sn_resume.proofs.savable.has_few_bytes.Given as goal

abbrev pub invariant-nodes : goal.invariant-nodes
invariant-nodes l =
    length (given_from 0 l.machine.state.processors) + l.left ≡ most_saved + length (given_from l.number (drop l.number l.machine.state.processors))
