use Rattle.std.proofs.Common.{◌≡◌}
use Rattle.script_replay.specs.Machine.{flat_of}
use Rattle.node_run.specs.Endings.{first_trap}
use Rattle.node_run.proofs.ending.first_trap.Given as goal

abbrev pub invariant-nodes : goal.invariant-nodes
invariant-nodes l = l.trap ≡ first_trap l.number (flat_of l.view)
