-- What the bytes of a file are, or the status that says why they aren't, and the same of what was found of a file.
use Rattle.std.specs.Prelude.{ℕ, nat_lt, if◌then◌else◌, List, length, Result, Ok, Err}
use Rattle.sn_base.specs.Image.{ImageData}
use Rattle.sn_base.specs.declared.event.Event.{Event}
use Rattle.rv_core.specs.declared.step.Record.{Record}
use Rattle.sn_io.specs.Outside.{Found, File, TooLong, Missing}
use Rattle.elf_load.specs.declared.fault.LoadCause.{LoadCause}
use Rattle.elf_load.specs.Loading.{image_of}
use Rattle.rolled_replay.specs.Controls.{controls_of}
use Rattle.rolled_replay.specs.Control.{Control}
use Rattle.rv_asm.specs.Assembly.{asm_of}
use Rattle.rv_asm.specs.declared.fault.AsmCause.{AsmCause}
use Rattle.rv_asm.specs.declared.fault.AsmCause.TheVariants.{TooLong as AsmTooLong}
use Rattle.access_texts.specs.Lists.{Said, said_by}
use Rattle.asm_texts.specs.Texts.{words_text, listing}
use Rattle.sn_text.specs.Script.{script_of}
use Rattle.sn_text.specs.Trace.{trace_of}
use Rattle.sn_text.specs.declared.cause.ScriptCause.{ScriptCause}
use Rattle.sn_text.specs.declared.cause.ScriptCause.TheVariants.{TooLong as ScriptTooLong}
use Rattle.call_status.specs.declared.status.ProgramCause.TheVariants.{TooLong as ProgramTooLong, Load}
use Rattle.call_status.specs.declared.status.Status.{Status}
use Rattle.call_status.specs.declared.status.Status.TheVariants.{StoreFault, BadProgram, BadScript, BadAsm}

-- 16 MiB, of a program and of a text that is assembled
abbrev pub program_limit : ℕ
program_limit = 16777216

-- 32 MiB, of a script, of a control file and of a trace
abbrev pub script_limit : ℕ
script_limit = 33554432

-- 64 MiB, of a list of accesses
abbrev pub accesses_limit : ℕ
accesses_limit = 67108864

-- what the loader says of the bytes
abbrev pub if_loaded : Result ImageData LoadCause → Result ImageData Status
if_loaded (Err cause) = Err (BadProgram (Load cause))
if_loaded (Ok image) = Ok image

abbrev pub program_of : List ℕ → Result ImageData Status
program_of bytes = if nat_lt program_limit (length bytes) then Err (BadProgram ProgramTooLong) else if_loaded (image_of bytes)

-- a script, a control file or a trace that is refused is the status
abbrev pub if_read : {A : Type 0} → Result (List A) ScriptCause → Result (List A) Status
if_read (Ok items) = Ok items
if_read (Err cause) = Err (BadScript cause)

-- the events for so many nodes
abbrev pub events_of : ℕ → List ℕ → Result (List Event) Status
events_of nodes bytes = if nat_lt script_limit (length bytes) then Err (BadScript ScriptTooLong) else if_read (script_of nodes bytes)

-- the controls of a recovery of so many nodes
abbrev pub steps_of : ℕ → List ℕ → Result (List Control) Status
steps_of nodes bytes = if nat_lt script_limit (length bytes) then Err (BadScript ScriptTooLong) else if_read (controls_of nodes bytes)

-- the records of a trace of so many nodes
abbrev pub records_of : ℕ → List ℕ → Result (List Record) Status
records_of nodes bytes = if nat_lt script_limit (length bytes) then Err (BadScript ScriptTooLong) else if_read (trace_of nodes bytes)

-- a list of accesses that is refused is the status
abbrev pub if_said : Result Said ScriptCause → Result Said Status
if_said (Ok said) = Ok said
if_said (Err cause) = Err (BadScript cause)

-- the accesses, and the words that memory begins with
abbrev pub accesses_of : List ℕ → Result Said Status
accesses_of bytes = if nat_lt accesses_limit (length bytes) then Err (BadScript ScriptTooLong) else if_said (said_by bytes)

-- the words of a text, one a line
abbrev pub if_assembled : Result (List ℕ) AsmCause → Result (List ℕ) Status
if_assembled (Ok words) = Ok (words_text words)
if_assembled (Err cause) = Err (BadAsm cause)

abbrev pub assembly_of : List ℕ → Result (List ℕ) Status
assembly_of bytes = if nat_lt program_limit (length bytes) then Err (BadAsm AsmTooLong) else if_assembled (asm_of bytes)

-- the lines of a program's words
abbrev pub listing_of : Result ImageData Status → Result (List ℕ) Status
listing_of (Ok image) = Ok (listing image.segments)
listing_of (Err status) = Err status

-- what was found of a file, read
abbrev pub program_in : Found → Result ImageData Status
program_in Missing = Err StoreFault
program_in TooLong = Err (BadProgram ProgramTooLong)
program_in (File bytes) = program_of bytes

abbrev pub script_in : ℕ → Found → Result (List Event) Status
script_in nodes Missing = Err StoreFault
script_in nodes TooLong = Err (BadScript ScriptTooLong)
script_in nodes (File bytes) = events_of nodes bytes

abbrev pub control_in : ℕ → Found → Result (List Control) Status
control_in nodes Missing = Err StoreFault
control_in nodes TooLong = Err (BadScript ScriptTooLong)
control_in nodes (File bytes) = steps_of nodes bytes

abbrev pub trace_in : ℕ → Found → Result (List Record) Status
trace_in nodes Missing = Err StoreFault
trace_in nodes TooLong = Err (BadScript ScriptTooLong)
trace_in nodes (File bytes) = records_of nodes bytes

abbrev pub accesses_in : Found → Result Said Status
accesses_in Missing = Err StoreFault
accesses_in TooLong = Err (BadScript ScriptTooLong)
accesses_in (File bytes) = accesses_of bytes

abbrev pub assembly_in : Found → Result (List ℕ) Status
assembly_in Missing = Err StoreFault
assembly_in TooLong = Err (BadAsm AsmTooLong)
assembly_in (File bytes) = assembly_of bytes
