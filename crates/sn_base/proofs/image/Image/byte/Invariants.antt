use Rattle.std.proofs.Common.{◌≡◌, drop}
use Rattle.sn_base.specs.Image.{byte_at}
use Rattle.sn_base.proofs.image.Image.byte.Given as goal

abbrev pub invariant-segments : goal.invariant-segments
invariant-segments l = byte_at l.self.segments l.address ≡ byte_at (drop l.segment-index l.self.segments) l.address
