use Rattle.mosi_cache.specs.Frames.{leaving_at, IsLeastLeaving}
use Rattle.mosi_cache.proofs.lines.least_of.Given as goal

-- the least of the frames so far
abbrev pub invariant-frames : goal.invariant-frames
invariant-frames l = IsLeastLeaving (leaving_at l.frames l.kept l.spared l.owned_too) l.first l.frame l.least
