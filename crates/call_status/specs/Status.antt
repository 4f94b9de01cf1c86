-- The numbers and words of the statuses.
use Rattle.std.specs.Prelude.{ℕ, Bool, true, false, List, ◌++◌, codes, Option, Some, None}
use Rattle.elf_load.specs.declared.fault.LoadCause.{LoadCause}
use Rattle.elf_load.specs.declared.fault.LoadCause.TheVariants.{Empty, BadHexLine, TooManyWords, Truncated, WrongField, Compressed}
use Rattle.elf_load.specs.declared.fault.LoadCause.TheVariants.{TooManySegments, FileLargerThanMemory, Outside, Overlap, WritableCode}
use Rattle.elf_load.specs.declared.fault.LoadCause.TheVariants.{BadEntry}
use Rattle.rv_asm.specs.declared.fault.AsmCause.{AsmCause}
use Rattle.rv_asm.specs.declared.fault.AsmCause.TheVariants.{TooLong as AsmTooLong, BadLine as AsmBadLine, OutOfRange as AsmOutOfRange}
use Rattle.rv_asm.specs.declared.fault.AsmCause.TheVariants.{LabelTwice, TooManyWords as AsmTooManyWords, NoLabel}
use Rattle.sn_text.specs.declared.cause.ScriptCause.{ScriptCause}
use Rattle.sn_text.specs.declared.cause.ScriptCause.TheVariants.{TooLong as ScriptTooLong, BadLine, OutOfRange, TooMany}
use Rattle.save_text.specs.declared.cause.SaveCause.{SaveCause}
use Rattle.save_text.specs.declared.cause.SaveCause.TheVariants.{TooLong as SaveTooLong, BadLine as SaveBadLine, OutOfRange as SaveOutOfRange}
use Rattle.save_text.specs.declared.cause.SaveCause.TheVariants.{CutOff as SaveCutOff, SetFull, NotLegal, Unread}
use Rattle.call_status.specs.declared.status.ProgramCause.{ProgramCause}
use Rattle.call_status.specs.declared.status.ProgramCause.TheVariants.{TooLong, Load}
use Rattle.call_status.specs.declared.status.Status.{Status}
use Rattle.call_status.specs.declared.status.Status.TheVariants.{Done, Usage, BadPlaces, StoreFault, BadProgram, BadScript, BadSave, BadAsm}
use Rattle.call_status.specs.declared.status.Status.TheVariants.{SinkFault, Budget, Memory, CutOff, Refused, Trapped, InputFault}

abbrev pub number_of : Status → ℕ
number_of Done = 0
number_of Usage = 1
number_of (BadPlaces events) = 1
number_of StoreFault = 2
number_of (BadProgram cause) = 3
number_of (BadScript cause) = 4
number_of SinkFault = 5
number_of Budget = 6
number_of Memory = 7
number_of (CutOff a b) = 8
number_of (Refused place) = 9
number_of (Trapped node cause) = 10
number_of (BadSave cause) = 12
number_of (BadAsm cause) = 13
number_of InputFault = 14

-- the name of a cause, in lower case and without its fields
abbrev pub load_name : LoadCause → List ℕ
load_name Empty = codes "empty"
load_name (BadHexLine line) = codes "badhexline"
load_name TooManyWords = codes "toomanywords"
load_name (Truncated needed length) = codes "truncated"
load_name (WrongField field value) = codes "wrongfield"
load_name Compressed = codes "compressed"
load_name (TooManySegments count) = codes "toomanysegments"
load_name (FileLargerThanMemory number) = codes "filelargerthanmemory"
load_name (Outside number) = codes "outside"
load_name (Overlap earlier number) = codes "overlap"
load_name (WritableCode number) = codes "writablecode"
load_name (BadEntry entry) = codes "badentry"

abbrev pub program_name : ProgramCause → List ℕ
program_name TooLong = codes "toolong"
program_name (Load cause) = load_name cause

abbrev pub script_name : ScriptCause → List ℕ
script_name ScriptTooLong = codes "toolong"
script_name (BadLine line) = codes "badline"
script_name (OutOfRange line) = codes "outofrange"
script_name TooMany = codes "toomany"

abbrev pub save_name : SaveCause → List ℕ
save_name SaveTooLong = codes "toolong"
save_name (SaveBadLine line) = codes "badline"
save_name (SaveOutOfRange line) = codes "outofrange"
save_name (SaveCutOff a b) = codes "cutoff"
save_name (SetFull line) = codes "setfull"
save_name (NotLegal place) = codes "notlegal"
save_name (Unread node) = codes "unread"

abbrev pub asm_name : AsmCause → List ℕ
asm_name AsmTooLong = codes "toolong"
asm_name (AsmBadLine line) = codes "badline"
asm_name (AsmOutOfRange line) = codes "outofrange"
asm_name (LabelTwice line) = codes "labeltwice"
asm_name (AsmTooManyWords line) = codes "toomanywords"
asm_name (NoLabel line) = codes "nolabel"

abbrev pub word_of : Status → List ℕ
word_of Done = codes "done"
word_of Usage = codes "usage"
word_of (BadPlaces events) = codes "usage"
word_of StoreFault = codes "store"
word_of (BadProgram cause) = codes "program " ++ program_name cause
word_of (BadScript cause) = codes "script " ++ script_name cause
word_of (BadSave cause) = codes "save " ++ save_name cause
word_of (BadAsm cause) = codes "asm " ++ asm_name cause
word_of SinkFault = codes "sink"
word_of Budget = codes "budget"
word_of Memory = codes "memory"
word_of (CutOff a b) = codes "cutoff"
word_of (Refused place) = codes "refused"
word_of (Trapped node cause) = codes "trapped"
word_of InputFault = codes "input"

-- the place that follows the word, where one does
abbrev pub place_of : Status → Option ℕ
place_of (Refused place) = Some place
place_of _ = None

-- whether a call that ends so has written all of a text, or as much of it as a sink took
abbrev pub has_written : Status → Bool
has_written Done = true
has_written SinkFault = true
has_written Budget = true
has_written (CutOff a b) = true
has_written (Refused place) = true
has_written (Trapped node cause) = true
has_written InputFault = true
has_written _ = false
