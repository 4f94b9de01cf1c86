-- Where a report broke off.
use Rattle.std.proofs.Common.{◌≡◌, ℕ, List, subst, inr}
use Rattle.std.specs.Prelude.{Option, Some}
use Rattle.script_replay.specs.Machine.{MachineData}
use Rattle.sink_pieces.specs.Pieces.{ends, Breaks}
use Rattle.node_threads.specs.JournalEntry.{JournalEntry}
use Rattle.node_threads.specs.Finish.{Finish}
use Rattle.node_run.specs.declared.ending.Ending.{Ending}
use Rattle.node_run.specs.declared.job.RunShowing.{RunShowing}
use Rattle.node_run.specs.Reported.{report_now, ended_now, BreaksReport, IsUnreported}

module _ (m : MachineData) (listed journal : List JournalEntry) (found : Finish) (showing : RunShowing) (tallies : List (List ℕ)) (ending : Ending) (before behind : Option (List ℕ)) (ended : ended_now m found ≡ Some ending) (all : listed ≡ journal) where
  pub report-broke : ((c : Option (List ℕ)) → Breaks (report_now m listed showing tallies) (ends c before) (ends c behind)) →
      IsUnreported m journal found showing tallies before behind
  report-broke put =
      inr (subst (λ (l : List JournalEntry). BreaksReport m l found showing tallies before behind) all
      (record { ending = ending; ended = ended; broken = put }))
