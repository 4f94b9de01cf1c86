use Rattle.std.proofs.Common.{◌≡◌, ◌≤◌, take, count_by}
use Rattle.sn_base.proofs.node.NodeSet.count.Given as goal

abbrev pub invariant-marks : goal.invariant-marks
invariant-marks l = (l.count ≡ count_by (λ mark. mark) (take l.mark-index l.mark-items)) × (l.count ≤ l.mark-index)
