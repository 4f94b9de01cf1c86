use Rattle.fabric_bounds.proofs.Runs.{each_keeps_bounds}
use Rattle.fabric_bounds.proofs.laws.each_event_keeps_bounds.Goals as goal

pub returns : goal.returns
returns c = each_keeps_bounds
