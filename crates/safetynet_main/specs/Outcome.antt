-- What a job comes to, and what is said of it.
use Rattle.std.specs.Prelude.{◌≡◌, ℕ, ◌+◌, List, [], codes, length}
use Rattle.access_check.specs.declared.verdict.Verdict.{Verdict as AccessVerdict}
use Rattle.access_check.specs.declared.verdict.Verdict.TheVariants.{Legal as AllLegal, Refused as OneRefused}
use Rattle.rv_core.specs.Flat.{flat_start}
use Rattle.rv_core.specs.Execution.{IsExecution}
use Rattle.sn_consistency.specs.Projections.{FirstWithoutStep}
use Rattle.sn_text.specs.Text.{count_line}
use Rattle.run_journals.specs.declared.entry.JournalEntry.{JournalEntry}
use Rattle.snap_board.specs.Snap.{SnapData}
use Rattle.monitor_run.specs.Ending.{Ending}
use Rattle.monitor_run.specs.Ending.TheVariants.{Exited, Trapped, CutOff, Spent}
use Rattle.safetynet_main.specs.declared.job.Check.{Check}
use Rattle.safetynet_main.specs.declared.job.Verdict.{Verdict}
use Rattle.safetynet_main.specs.declared.job.Verdict.TheVariants.{Legal, Refused}
use Rattle.call_status.specs.declared.status.Status.{Status}
use Rattle.call_status.specs.declared.status.Status.TheVariants.{Done, Budget, CutOff as CutOffStatus, Refused as RefusedStatus}
use Rattle.call_status.specs.declared.status.Status.TheVariants.{Trapped as TrappedStatus}

pub data Outcome : Type 0 where
  -- events were applied up to the last, and the controls of a recovery after them, or a text was put
  Finished : Outcome
  -- a trace was judged
  Judged : (verdict : Verdict) → Outcome
  -- accesses were judged
  JudgedAccesses : (verdict : AccessVerdict) → Outcome
  -- workers ran up to this end of their run, and this is its journal
  Ran : (journal : List JournalEntry) → (ending : Ending) → Outcome
  -- the same, and these snapshots were seen of it
  Watched : (journal : List JournalEntry) → (seen : List SnapData) → (ending : Ending) → Outcome

-- a trace is an execution of its program without faults, or its record at a place, counted from 1, is the first that the
-- flat machine doesn't do after those before it
abbrev pub IsVerdict : Check → Verdict → Type 0
IsVerdict c Legal = IsExecution c.program c.nodes c.trace
IsVerdict c (Refused place) = (before : ℕ) × (place ≡ before + 1) × FirstWithoutStep c.program (flat_start c.program c.nodes) c.trace before

-- the line that says it: `legal` and the number of records, or `refused` and the place
abbrev pub verdict_line : Check → Verdict → List ℕ
verdict_line c Legal = count_line [] (codes "legal") (length c.trace)
verdict_line c (Refused place) = count_line [] (codes "refused") place

-- the status in which a job ends that came to this, where no sink broke
abbrev pub verdict_status : Verdict → Status
verdict_status Legal = Done
verdict_status (Refused place) = RefusedStatus place

abbrev pub access_status : AccessVerdict → Status
access_status AllLegal = Done
access_status (OneRefused refusal) = RefusedStatus refusal.place

abbrev pub ending_status : Ending → Status
ending_status Exited = Done
ending_status (Trapped node cause) = TrappedStatus node cause
ending_status (CutOff a b) = CutOffStatus a b
ending_status Spent = Budget

abbrev pub status_of : Outcome → Status
status_of Finished = Done
status_of (Judged verdict) = verdict_status verdict
status_of (JudgedAccesses verdict) = access_status verdict
status_of (Ran journal ending) = ending_status ending
status_of (Watched journal seen ending) = ending_status ending
