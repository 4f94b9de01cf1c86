use Rattle.std.proofs.Common.{drop}
use Rattle.mosi_cache.proofs.Unshared.{AreSettling}
use Rattle.mosi_cache.proofs.lines.restore.settle.Given as goal

-- the frames that are left are still to be settled
abbrev pub invariant-frames : goal.invariant-frames
invariant-frames l = AreSettling l.initial.frames l.frames l.initial.kept.items l.kept.items (drop l.frame-index l.frame-items)
