use Rattle.std.proofs.Common.{◌≡◌, ℕ, take}
use Rattle.sn_base.specs.declared.log.Old.{Old}
use Rattle.mosi_cache.specs.Restored.{held_of, HeldFits, StaysAsItIs}
use Rattle.sn_fabric.specs.Resumed.{held_with}
use Rattle.sn_fabric.proofs.resuming.give_owned.Given as goal

-- what the first owners say is held, and there is the room that there was
abbrev pub invariant-owners : goal.invariant-owners
invariant-owners l = record {
  held : (b : ℕ) → held_of l.cache b ≡ held_with l.contents (take l.place l.owners) l.node b;
  room : (map : ℕ → Old) → HeldFits l.initial.cache map → HeldFits l.cache map;
  stays : StaysAsItIs l.initial.cache l.cache;
}
