use Rattle.std.proofs.Common.{◌≡◌, take}
use Rattle.sn_base.proofs.copying.copy_segments.Given as goal

abbrev pub invariant-segments : goal.invariant-segments
invariant-segments l = l.copies.items ≡ take l.segment-index l.segments
