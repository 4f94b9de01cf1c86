use Rattle.std.proofs.Common.{◌≡◌, ◌++◌, map, take, drop}
use Rattle.sn_flat.specs.Reservations.{without}
use Rattle.sn_flat.proofs.flat.lose_reservations.Given as goal

abbrev pub invariant-cores : goal.invariant-cores
invariant-cores l = l.cores ≡ map (without l.block) (take l.core-index l.initial.cores) ++ drop l.core-index l.initial.cores
