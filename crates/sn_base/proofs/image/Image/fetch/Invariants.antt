use Rattle.std.proofs.Common.{◌≡◌, drop}
use Rattle.sn_base.specs.Image.{word_fetched}
use Rattle.sn_base.proofs.image.Image.fetch.Given as goal

abbrev pub invariant-segments : goal.invariant-segments
invariant-segments l = word_fetched l.self.segments l.pc ≡ word_fetched (drop l.segment-index l.self.segments) l.pc
