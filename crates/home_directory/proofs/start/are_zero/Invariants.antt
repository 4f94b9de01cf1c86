use Rattle.std.proofs.Common.{◌≡◌, ℕ, ◌+◌, ◌<◌, ◌≤◌, take}
use Rattle.sn_base.specs.Image.{byte_at}
use Rattle.home_directory.proofs.start.are_zero.Given as goal

-- the segments so far give nothing
abbrev pub invariant-segments : goal.invariant-segments
invariant-segments l = (a : ℕ) → l.start ≤ a → a < l.start + 64 → byte_at (take l.segment-index l.image.segments) a ≡ 0
