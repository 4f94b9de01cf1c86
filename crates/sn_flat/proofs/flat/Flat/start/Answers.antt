use Rattle.std.proofs.Common.{length, ap, ◌∙◌}
use Rattle.sn_flat.proofs.Bytes.{length-initial_memory}
use Rattle.sn_flat.proofs.flat.Flat.start.Goals as goal

pub invariant_of-result : goal.invariant_of-result
invariant_of-result c = ap length c.in_ok-memory.ensures ∙ length-initial_memory c.args.image.now
