use Rattle.std.proofs.Common.{◌≡◌, drop}
use Rattle.sn_base.specs.Image.{is_executable}
use Rattle.sn_base.proofs.image.Image.executable.Given as goal

abbrev pub invariant-segments : goal.invariant-segments
invariant-segments l = is_executable l.self.segments l.address ≡ is_executable (drop l.segment-index l.self.segments) l.address
