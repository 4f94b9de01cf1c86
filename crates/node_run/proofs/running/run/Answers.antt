use Rattle.std.proofs.Common.{refl}
use Rattle.node_run.proofs.Runs.{cores-at_start, run-reported, run-unreported}
use Rattle.node_run.proofs.running.run.Goals as goal

pub put_ended-ended-requires-clause-start : goal.put_ended-ended-requires-clause-start
put_ended-ended-requires-clause-start g c =
    cores-at_start c.args.job _ c.in-Ok-run_nodes.finished.machine c.in-Ok-run_nodes.finished.journal.items
    c.in-Ok-run_nodes.finished.answers.items c.in-Some.ensures c.in-Ok-run_nodes.ensures.run c.requires _ c.in-Ok.ensures

pub returns-in-Some-ended-clause-ok : goal.returns-in-Some-ended-clause-ok
returns-in-Some-ended-clause-ok g c = (
  c.in-Ok-run_nodes.finished.journal.items,
  run-reported c.args.job _ c.in-Ok-run_nodes.finished.machine c.in-Ok-run_nodes.finished.journal.items
      c.in-Ok-run_nodes.finished.answers.items c.in-Some.ensures c.in-Ok-run_nodes.ensures.run c.requires
      c.in-Ok-run_nodes.finished.finish (g.C.Sink.faults c.args.console.now) (g.C.Sink.faults c.run_nodes.new.console)
      (g.C.Sink.written c.args.console.now) (g.C.Sink.written c.run_nodes.new.console)
      (g.R.Sink.written c.args.report.now) (g.R.Sink.written c.put_ended-ended.new.report)
      _ _ c.in-Ok-run_nodes.ensures.ends c.in-Ok-run_nodes.ensures.told c.in-Some-ended.ending c.in-Some-ended.ensures.some,
)

pub returns-in-None-clause-sink : goal.returns-in-None-clause-sink
returns-in-None-clause-sink g c = λ no. (
  c.in-Ok-run_nodes.finished.journal.items,
  run-unreported c.args.job _ c.in-Ok-run_nodes.finished.machine c.in-Ok-run_nodes.finished.journal.items
      c.in-Ok-run_nodes.finished.answers.items c.in-Some.ensures c.in-Ok-run_nodes.ensures.run c.requires
      c.in-Ok-run_nodes.finished.finish (g.C.Sink.faults c.args.console.now) (g.C.Sink.faults c.run_nodes.new.console)
      (g.C.Sink.written c.args.console.now) (g.C.Sink.written c.run_nodes.new.console)
      (g.R.Sink.written c.args.report.now) (g.R.Sink.written c.put_ended-ended.new.report)
      _ _ c.in-Ok-run_nodes.ensures.ends c.in-Ok-run_nodes.ensures.told (c.in-None.ensures.none refl),
)
