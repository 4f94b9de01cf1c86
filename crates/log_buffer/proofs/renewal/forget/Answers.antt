use Rattle.std.proofs.Common.{arith, None}
use Rattle.log_buffer.proofs.Indexed.{puts}
use Rattle.log_buffer.proofs.ClosedUp.{IsForgotten-more}
use Rattle.log_buffer.proofs.renewal.forget.Goals as goal

pub entries-preserved : goal.entries-preserved
entries-preserved c =
    IsForgotten-more c.args.stored.now c.args.newest.now c.entries.newest c.put.new.self c.entries.x-index c.x-item.result
    (omega arith) c.x-item.is c.entries.invariant
    (puts c.entries.newest c.put.new.self c.x-item.result.entry c.is_home_side.result None c.is_home_side.ensures c.put.ensures.places)
