-- What of a file can be had once more, when a call has ended.
use Rattle.std.specs.Prelude.{ℕ, Bool, true, false, is_err, List, [], Result, Ok, Err}
use Rattle.sn_io.specs.Outside.{Found, File, TooLong, Missing}
use Rattle.rv_core.specs.declared.step.Record.{Record}
use Rattle.sn_text.specs.Script.{script_of}
use Rattle.sn_text.specs.Trace.{trace_of}
use Rattle.sn_text.specs.declared.cause.ScriptCause.{ScriptCause}
use Rattle.sn_saved.specs.Saved.{Saved}
use Rattle.save_text.specs.Reading.{said_by}
use Rattle.save_text.specs.declared.cause.SaveCause.{SaveCause}

-- the bytes that can be shown: none of a file that is lacking now, or longer than may be
abbrev pub bytes_in : Found → List ℕ
bytes_in (File bytes) = bytes
bytes_in TooLong = []
bytes_in Missing = []

-- whether a script's file for so many nodes is refused as it is found now
abbrev pub is_refused : ℕ → Found → Bool
is_refused nodes (File bytes) = is_err (script_of nodes bytes)
is_refused nodes TooLong = true
is_refused nodes Missing = false

-- the records of a trace's file, and none where it can't be read
abbrev pub if_records : Result (List Record) ScriptCause → List Record
if_records (Ok records) = records
if_records (Err cause) = []

abbrev pub records_in : ℕ → List ℕ → List Record
records_in nodes bytes = if_records (trace_of nodes bytes)

-- the number of nodes that a save file says, as it is found now, and as many as there may be where it says none
abbrev pub nodes_said : Result Saved SaveCause → ℕ
nodes_said (Ok saved) = saved.config.nodes
nodes_said (Err cause) = 16

abbrev pub nodes_in : Found → ℕ
nodes_in found = nodes_said (said_by (bytes_in found))
