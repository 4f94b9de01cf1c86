-- The line that says why a call ended as it did, over the files that are there.
use Rattle.std.specs.Prelude.{◌≡◌, ℕ, List, ◌++◌, codes, decimal, Option, Some, None}
use Rattle.sn_io.specs.Outside.{found_in}
use Rattle.reasons.specs.Reason.{of_file, too_long, begun, line_of_reason}
use Rattle.reasons.specs.Ends.{lack_reason, spent_reason, cut_off, trap_reason}
use Rattle.reasons.specs.declared.ends.Lack.TheVariants as lack
use Rattle.reasons.specs.Places.{record_line}
use Rattle.reasons.specs.Programs.{program_reason}
use Rattle.reasons.specs.Scripts.{script_reason, limit_of}
use Rattle.reasons.specs.Assembly.{asm_reason}
use Rattle.reasons.specs.Saves.{save_reason}
use Rattle.save_text.specs.declared.cause.SaveCause.{SaveCause}
use Rattle.reasons.specs.Verdicts.{record_place, verdict_reason}
use Rattle.rv_asm.specs.declared.fault.AsmCause.{AsmCause}
use Rattle.sn_text.specs.declared.cause.ScriptCause.{ScriptCause}
use Rattle.access_texts.specs.Lists.{said_by}
use Rattle.option_values.specs.declared.places.Places.{Places}
use Rattle.command_words.specs.declared.request.ReplayReport.{ReplayReport}
use Rattle.command_words.specs.declared.request.ReplayReport.TheVariants.{States}
use Rattle.command_words.specs.Request.{Request, Replay, Drive, Check, Judge}
use Rattle.call_status.specs.declared.status.ProgramCause.{ProgramCause}
use Rattle.call_status.specs.declared.status.ProgramCause.TheVariants.{TooLong, Load}
use Rattle.call_status.specs.declared.status.Status.{Status}
use Rattle.call_status.specs.declared.status.Status.TheVariants.{Done, Usage, BadPlaces, StoreFault, BadProgram, BadScript, BadSave, BadAsm}
use Rattle.call_status.specs.declared.status.Status.TheVariants.{SinkFault, Budget, Memory, CutOff, Refused, Trapped, InputFault}
use Rattle.call_reasons.specs.Files.{bytes_in, records_in}
use Rattle.call_reasons.specs.Blame.{Files, Blamed, program_of, assembly_of, save_of, budget_of, blamed_of}
use Rattle.call_reasons.specs.Verdict.{record_at, IsFound}
use Rattle.call_reasons.specs.Accesses.{IsOfAccesses}

-- the bytes of a file as it is now, if it isn't longer than may be
abbrev pub held_bytes : Files → List ℕ → ℕ → List ℕ
held_bytes held name limit = bytes_in (found_in (held name) limit)

-- a text, and then why a program is refused; nothing where the request names none
abbrev pub of_program : List ℕ → Files → Option (List ℕ) → ProgramCause → List ℕ
of_program text held None cause = text
of_program text held (Some name) TooLong = line_of_reason (too_long (begun text ++ of_file name) 16777216)
of_program text held (Some name) (Load cause) = line_of_reason (program_reason (begun text) name (held_bytes held name 16777216) cause)

-- the same of a script, a control file, a trace or a list of accesses
abbrev pub of_lines : List ℕ → Files → Option Blamed → ScriptCause → List ℕ
of_lines text held None cause = text
of_lines text held (Some blamed) cause =
    line_of_reason (script_reason (begun text) blamed.kind blamed.nodes blamed.name (held_bytes held blamed.name (limit_of blamed.kind)) cause)

-- the same of a text that is assembled
abbrev pub of_assembly : List ℕ → Files → Option (List ℕ) → AsmCause → List ℕ
of_assembly text held None cause = text
of_assembly text held (Some name) cause = line_of_reason (asm_reason (begun text) name (held_bytes held name 16777216) cause)

-- the same of a save file
abbrev pub of_save : List ℕ → Files → Option (List ℕ) → SaveCause → List ℕ
of_save text held None cause = text
of_save text held (Some name) cause = line_of_reason (save_reason (begun text) name (held_bytes held name 67108864) cause)

-- the same of a run that had all events that it may have
abbrev pub of_budget : List ℕ → Option ℕ → List ℕ
of_budget text None = text
of_budget text (Some budget) = line_of_reason (spent_reason (begun text) budget)

-- the same of a drive that had all events that there is room for
unfoldable pub of_full : List ℕ → List ℕ
of_full text = line_of_reason (begun text ++ codes "the drive has 1000000 events, and there is room for no more")

abbrev pub of_spent : List ℕ → Request → List ℕ
of_spent text (Drive config report watch program) = of_full text
of_spent text ask = of_budget text (budget_of ask)

-- a text, and then why places aren't shown: the script has only so many events
unfoldable pub places_beyond : List ℕ → Places → ℕ → List ℕ
places_beyond text only events = line_of_reason
    (begun text ++ codes "--only " ++ decimal only.from ++ codes "-" ++ decimal only.to ++ codes ": the script has " ++ decimal events ++ codes " events")

abbrev pub of_report : List ℕ → ReplayReport → ℕ → List ℕ
of_report text (States (Some only)) events = places_beyond text only events
of_report text _ events = text

abbrev pub of_places : List ℕ → Request → ℕ → List ℕ
of_places text (Replay config report watch program script) events = of_report text report events
of_places text ask events = text

-- a text, and then why a drive ended before its lines did
unfoldable pub of_input : List ℕ → List ℕ
of_input text = line_of_reason (begun text ++ codes "standard input can't be read to its end")

-- a text, and then which record of a trace is no step, with the word that memory has, where that is why
abbrev pub of_record : List ℕ → ℕ → List ℕ → ℕ → Option ℕ → List ℕ
of_record text nodes trace place word =
    line_of_reason (verdict_reason (record_place (begun text) place (record_line trace place)) (record_at (records_in nodes trace) place) word)

-- what a text became when it was said which record of a trace is no step, or which access isn't legal
abbrev pub IsOfRecord : Files → Request → ℕ → List ℕ → List ℕ → Type 0
IsOfRecord held (Check nodes program trace) place text new =
    (word : Option ℕ)
    × IsFound (held_bytes held program 16777216) nodes (records_in nodes (held_bytes held trace 33554432)) place word
    × (new ≡ of_record text nodes (held_bytes held trace 33554432) place word)
IsOfRecord held (Judge accesses) place text new =
    IsOfAccesses (said_by (held_bytes held accesses 67108864)) (held_bytes held accesses 67108864) text new
IsOfRecord held ask place text new = new ≡ text

-- what a text became when it was said why a call with this request ended so; nothing is said here of what is done, of words that are no
-- request, and of files that couldn't be fetched
abbrev pub IsReason : Files → Request → Status → List ℕ → List ℕ → Type 0
IsReason held ask Done text new = new ≡ text
IsReason held ask Usage text new = new ≡ text
IsReason held ask (BadPlaces events) text new = new ≡ of_places text ask events
IsReason held ask StoreFault text new = new ≡ text
IsReason held ask (BadProgram cause) text new = new ≡ of_program text held (program_of ask) cause
IsReason held ask (BadScript cause) text new = new ≡ of_lines text held (blamed_of held ask) cause
IsReason held ask (BadSave cause) text new = new ≡ of_save text held (save_of ask) cause
IsReason held ask (BadAsm cause) text new = new ≡ of_assembly text held (assembly_of ask) cause
IsReason held ask SinkFault text new = new ≡ line_of_reason (lack_reason (begun text) lack.Output)
IsReason held ask Budget text new = new ≡ of_spent text ask
IsReason held ask Memory text new = new ≡ line_of_reason (lack_reason (begun text) lack.Memory)
IsReason held ask (CutOff a b) text new = new ≡ line_of_reason (cut_off (begun text) a b)
IsReason held ask (Refused place) text new = IsOfRecord held ask place text new
IsReason held ask (Trapped node cause) text new = new ≡ line_of_reason (trap_reason (begun text) node cause)
IsReason held ask InputFault text new = new ≡ of_input text
