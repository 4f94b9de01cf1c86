use Rattle.std.proofs.Common.{length-take, arith}
use Rattle.usage_reasons.proofs.text.write_word.Goals as goal

pub slice_bounds-shown-end : goal.slice_bounds-shown-end
slice_bounds-shown-end c = omega (arith, length-take 60 c.as_bytes-bytes.result.now, c.if-bytes-gt-MOST_SHOWN.true)
