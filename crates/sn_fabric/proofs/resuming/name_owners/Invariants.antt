use Rattle.std.proofs.Common.{take}
use Rattle.sn_fabric.specs.Resumed.{IsHomeWith}
use Rattle.sn_fabric.proofs.resuming.name_owners.Given as goal

-- the first owners are named
abbrev pub invariant-owners : goal.invariant-owners
invariant-owners l = IsHomeWith l.node l.nodes l.contents (take l.place l.owners) l.home
