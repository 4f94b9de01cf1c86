use Rattle.std.proofs.Common.{◌≡◌, ◌≤◌, ◌+◌, ◌*◌, ◌++◌, length}
use Rattle.due_events.specs.Machine.{flat_of}
use Rattle.script_replay.specs.Pieces.{core_lines}
use Rattle.script_replay.proofs.lines.write_cores.Given as goal

abbrev pub invariant-cores : goal.invariant-cores
invariant-cores l = record {
  same : l.line ≡ l.initial.line ++ core_lines l.before (flat_of l.machine) l.number;
  short : length l.line ≤ length l.initial.line + 488 * l.number;
}
