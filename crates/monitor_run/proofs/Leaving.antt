-- What a watched run leaves.
use Rattle.std.proofs.Common.{◌≡◌, ℕ, List, map, refl, ap, subst, ◌∙◌}
use Rattle.sn_machine.specs.Machine.{MachineData}
use Rattle.run_journals.specs.Journal.{Began}
use Rattle.node_run.specs.Finish.{Finish}
use Rattle.node_run.proofs.Finishing.{run-of, finish-kept}
use Rattle.snap_board.specs.Snap.{SnapData}
use Rattle.sn_monitor.specs.Monitored.{MonitoredData}
use Rattle.monitor_run.specs.declared.turns.Stop.{Stop}
use Rattle.monitor_run.specs.declared.turns.Stop.TheVariants.{Finished}
use Rattle.monitor_run.specs.declared.turns.Turns.{Turns}
use Rattle.monitor_run.specs.declared.marks.Mark.{Mark}
use Rattle.monitor_run.specs.Seen.{published_by, IsInRounds, mark_of}
use Rattle.monitor_run.specs.Taken.{AreTaken}
use Rattle.monitor_run.specs.Stands.{Stands, StopsBy, IsSameRun, HasLeft, shared_as, its_start}

module _ (m n : MonitoredData) (t u : Turns) (stop : Stop) (finish : Finish) (machine : MachineData) (marks : List Mark) (stops : StopsBy n u stop) (is : stop ≡ Finished finish) (same : IsSameRun m t n u) (ends : machine ≡ n.machine) where
  finished : StopsBy n u (Finished finish)
  finished = subst (λ (x : Stop). StopsBy n u x) is stops

  pub leaves : AreTaken marks u.published.items → HasLeft (its_start m t) m.watch machine u marks finish
  leaves taken =
      let stands : Stands n u = finished.0 in record {
        run = run-of (shared_as n u) (its_start m t) machine u.journal.items u.answers.items stands.follows same.start ends refl refl;
        rounds = subst (λ (b : Began). IsInRounds b.config.nodes u.journal.items) same.start stands.rounds;
        finished = finish-kept (shared_as n u) (its_start m t) u.journal.items finish stands.follows same.start refl finished.1;
        seen_are = subst (λ (l : List Mark). AreTaken marks l)
            (stands.marks ∙ ap (λ (l : List SnapData). map mark_of l) stands.published
            ∙ ap (λ (b : Began). map mark_of (published_by b n.watch u.journal.items)) same.start
            ∙ ap (λ (w : ℕ). map mark_of (published_by (its_start m t) w u.journal.items)) same.watch) taken;
      }
