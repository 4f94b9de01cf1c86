use Rattle.std.proofs.Common.{length-take, arith}
use Rattle.reasons.proofs.reason.Reason.quoted.Goals as goal

pub slice_bounds-between-end : goal.slice_bounds-between-end
slice_bounds-between-end c = omega (arith, length-take 60 c.args.found.now, c.if-found-gt-MOST_SHOWN.true)
