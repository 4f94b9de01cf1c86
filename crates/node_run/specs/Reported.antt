-- The report of a run, by the machine that it left.
use Rattle.std.specs.Prelude.{◌≡◌, ◌⊎◌, ℕ, List, [], ◌++◌, codes, Option, Some, None}
use Rattle.std.specs.List.{All}
use Rattle.rv_core.specs.Flat.{first_cores}
use Rattle.sn_text.specs.Written.{HasNumbers, HasValues}
use Rattle.script_replay.specs.Machine.{MachineData, flat_of}
use Rattle.sink_pieces.specs.Pieces.{Piece, ends, after, Breaks}
use Rattle.committed_accesses.specs.Rows.{access_rows_of}
use Rattle.committed_accesses.specs.Lines.{access_pieces}
use Rattle.script_replay.specs.declared.job.ReportKind.TheVariants as replayed
use Rattle.script_replay.specs.Played.{summary_pieces_of, end_now}
use Rattle.node_threads.specs.JournalEntry.{JournalEntry}
use Rattle.node_threads.specs.Finish.{Finish}
use Rattle.node_run.specs.declared.ending.Ending.{Ending}
use Rattle.sn_base.specs.declared.report.RunReport.{RunReport}
use Rattle.sn_base.specs.declared.report.RunReport.TheVariants.{Summary, Trace, Accesses, Journal}
use Rattle.node_run.specs.declared.job.RunShowing.{RunShowing}
use Rattle.node_run.specs.declared.room.ReportRoom.{ReportRoom}
use Rattle.node_run.specs.Endings.{ending_by}
use Rattle.node_run.specs.Pieces.{journal_pieces}

-- the journal, and then the summary
abbrev pub script_now : MachineData → List JournalEntry → Option ℕ → List (List ℕ) → List Piece
script_now m journal watch tallies = journal_pieces journal ++ summary_pieces_of (codes "# ") m watch tallies

-- the rows of the committed trace, and then the summary
abbrev pub rows_now : MachineData → Option ℕ → List (List ℕ) → List Piece
rows_now m watch tallies =
    access_pieces (access_rows_of m.image m.config.nodes m.state.committed) ++ summary_pieces_of (codes "# ") m watch tallies

-- the report of a run with this journal, where these are the probes' tallies
abbrev pub report_by_kind : RunReport → MachineData → List JournalEntry → RunShowing → List (List ℕ) → List Piece
report_by_kind Summary m journal showing tallies = summary_pieces_of [] m showing.watch tallies
report_by_kind Trace m journal showing tallies = end_now m (record { report = replayed.Trace; watch = showing.watch }) tallies
report_by_kind Accesses m journal showing tallies = rows_now m showing.watch tallies
report_by_kind Journal m journal showing tallies = script_now m journal showing.watch tallies

abbrev pub report_now : MachineData → List JournalEntry → RunShowing → List (List ℕ) → List Piece
report_now m journal showing tallies = report_by_kind showing.report m journal showing tallies

-- a room whose rows are at the start of this machine's program
abbrev pub IsRoomFor : ReportRoom → MachineData → Type 0
IsRoomFor room m = room.rows.cores ≡ first_cores m.config.nodes m.image.entry

-- the numbers of each event of a journal are numbers of their types
abbrev pub HaveNumbers : List JournalEntry → Type 0
HaveNumbers journal = All (λ e. HasNumbers e.event) journal

-- the end of a run that left this machine, by why it had no turn any more; none where it was stopped
abbrev pub ended_now : MachineData → Finish → Option Ending
ended_now m found = ending_by m.config.nodes (flat_of m) found

-- it came to this end, and its report is put
pub record IsReported (m : MachineData) (journal : List JournalEntry) (found : Finish) (showing : RunShowing) (tallies : List (List ℕ)) (ending : Ending) (before behind : Option (List ℕ)) : Type 0 where
  pub ended : ended_now m found ≡ Some ending
  pub put : (c : Option (List ℕ)) → ends c behind ≡ after (ends c before) (report_now m journal showing tallies)
  pub numbers : showing.report ≡ Journal → HaveNumbers journal
  pub values : showing.report ≡ Trace → All HasValues m.state.committed

-- it came to an end, and its report broke
pub record BreaksReport (m : MachineData) (journal : List JournalEntry) (found : Finish) (showing : RunShowing) (tallies : List (List ℕ)) (before behind : Option (List ℕ)) : Type 0 where
  pub ending : Ending
  pub ended : ended_now m found ≡ Some ending
  pub broken : (c : Option (List ℕ)) → Breaks (report_now m journal showing tallies) (ends c before) (ends c behind)

-- so, or it was stopped, and the report has nothing
abbrev pub IsUnreported : MachineData → List JournalEntry → Finish → RunShowing → List (List ℕ) → Option (List ℕ) → Option (List ℕ) → Type 0
IsUnreported m journal found showing tallies before behind =
    ((ended_now m found ≡ None) × (behind ≡ before)) ⊎ BreaksReport m journal found showing tallies before behind
