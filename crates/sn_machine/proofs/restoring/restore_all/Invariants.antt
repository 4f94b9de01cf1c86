use Rattle.std.proofs.Common.{◌≡◌, ◌++◌, map, take, drop}
use Rattle.sn_machine.specs.Restored.{restored_unit}
use Rattle.sn_machine.proofs.restoring.restore_all.Given as goal

abbrev pub invariant-processors : goal.invariant-processors
invariant-processors l =
    l.processors.items ≡ map (restored_unit l.k) (take l.place l.initial.processors.items) ++ drop l.place l.initial.processors.items
