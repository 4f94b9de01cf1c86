use Rattle.std.proofs.Common.{◌≡◌}
use Rattle.monitor_run.proofs.looks.look_on.Given as goal

abbrev pub invariant-looks : goal.invariant-looks
invariant-looks g l = record { board : l.watcher.board ≡ l.initial.watcher.board }
