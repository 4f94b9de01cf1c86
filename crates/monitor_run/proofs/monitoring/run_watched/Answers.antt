use Rattle.std.proofs.Common.{List, ap, subst, ◌∙◌}
use Rattle.sn_monitor.specs.Monitored.{MonitoredData}
use Rattle.monitor_run.specs.declared.marks.Mark.{Mark}
use Rattle.monitor_run.specs.Taken.{AreTaken}
use Rattle.monitor_run.proofs.Leaving.{leaves}
use Rattle.monitor_run.proofs.monitoring.run_watched.Goals as goal

pub returns : goal.returns
returns g c =
    let n = c.run_beside-stop.new.monitored in
    let ended = c.end-machine.ensures ∙ ap (λ (x : MonitoredData). x.machine) c.receipt.ensures.same in
    leaves c.args.started.monitored n c.args.started.turns c.run_beside-stop.new.turns c.run_beside-stop.result c.in-Finished.finish
    c.end-machine.result c.take_seen.new.seen.items c.run_beside-stop.ensures.stop c.in-Finished.is c.run_beside-stop.ensures.same ended
    (subst (λ (l : List Mark). AreTaken c.take_seen.new.seen.items l) c.as_slice.ensures.value c.take_seen.ensures.taken)
