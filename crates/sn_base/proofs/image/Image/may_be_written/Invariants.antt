use Rattle.std.proofs.Common.{◌≡◌, drop}
use Rattle.sn_base.specs.Image.{is_unprotected}
use Rattle.sn_base.proofs.image.Image.may_be_written.Given as goal

abbrev pub invariant-segments : goal.invariant-segments
invariant-segments l = is_unprotected l.self.segments l.address ≡ is_unprotected (drop l.segment-index l.self.segments) l.address
