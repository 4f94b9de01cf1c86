use Rattle.std.proofs.Common.{sym, ◌∙◌, arith}
use Rattle.route_plan.proofs.Growth.{joined, passed}
use Rattle.route_plan.proofs.distances.grow.Goals as goal
use Rattle.route_plan.proofs.distances.grow.Goals.{then-is_next, else-is_next}

pub switches-preserved : goal.switches-preserved
switches-preserved c =
    elim c.if-is_next.branch [
      | then-is_next w ↦ rw (w.table-is, w.grew-is, w.from.ensures)
          (joined _ _ c.switches.switch _ c.switches.table c.switches.grew (omega arith) c.switches.invariant
          (sym c.is_next.ensures ∙ w.if-is_next.true))
      | else-is_next w ↦ rw (w.table-is, w.grew-is)
          (passed _ _ c.switches.switch _ c.switches.table c.switches.grew c.switches.invariant (sym c.is_next.ensures ∙ w.if-is_next.false))
    ]
