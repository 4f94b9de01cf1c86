use Rattle.std.proofs.Common.{sym}
use Rattle.sn_machine.proofs.Shown.{one-runs}
use Rattle.sn_machine.proofs.machine.Machine.over.Goals as goal

pub returns-then-is_running : goal.returns-then-is_running
returns-then-is_running c =
    sym
    (one-runs c.args.self.now c.recovered-view.result c.nodes.number c.numbered.result c.core.result.now c.is_running.result c.recovered-view.ensures.shown c.numbered.ensures c.core.ensures c.is_running.ensures c.if-is_running.true (rw (← c.self.view_is) c.nodes-test.true))
