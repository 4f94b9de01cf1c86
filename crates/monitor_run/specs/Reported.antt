-- What is put of a watched run, by the machine that it left.
use Rattle.std.specs.Prelude.{ℕ, List, [], ◌++◌, Option}
use Rattle.sn_machine.specs.Machine.{MachineData}
use Rattle.sink_pieces.specs.Pieces.{Piece, console_piece}
use Rattle.script_replay.specs.Played.{summary_pieces_of}
use Rattle.monitor_run.specs.declared.marks.Mark.{Mark}
use Rattle.monitor_run.specs.Seen.{seen_pieces}

-- what was seen, and then the summary
abbrev pub report_now : MachineData → List Mark → Option ℕ → List (List ℕ) → List Piece
report_now m seen watch tallies = seen_pieces seen ++ summary_pieces_of [] m watch tallies

-- the released bytes come first
abbrev pub pieces_now : MachineData → List Mark → Option ℕ → List (List ℕ) → List Piece
pieces_now m seen watch tallies = console_piece m.state.released ++ report_now m seen watch tallies
