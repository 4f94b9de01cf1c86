-- The notes on a call: of a replay, over the files that are there.
use Rattle.std.specs.Prelude.{ℕ, Bool, List, length, Result, Ok, Err}
use Rattle.sn_base.specs.Image.{ImageData}
use Rattle.sn_base.specs.declared.config.Config.{Config}
use Rattle.sn_base.specs.declared.event.Event.{Event}
use Rattle.elf_load.specs.Loading.{image_of}
use Rattle.elf_load.specs.declared.fault.LoadCause.{LoadCause}
use Rattle.sn_text.specs.Script.{script_of}
use Rattle.sn_text.specs.declared.cause.ScriptCause.{ScriptCause}
use Rattle.command_words.specs.Request.{Request, Replay}
use Rattle.call_reasons.specs.Blame.{Files}
use Rattle.call_reasons.specs.Reason.{held_bytes}
use Rattle.call_reasons.specs.declared.refusals.Refusals.{Refusals}
use Rattle.call_reasons.specs.Notes.{refusals_of, first_refused, with_default}

-- a text, and then what is noted of the refusals of these events
abbrev pub with_refusals : List ℕ → List Event → Refusals → List ℕ
with_refusals text events r = first_refused text (length events) r.count r.first

-- a text, and then the notes on a program's replay with these events
abbrev pub notes_on : List ℕ → ImageData → Config → List Event → Bool → List ℕ
notes_on text image config events is_given =
    with_default (with_refusals text events (refusals_of image config events)) is_given config.nodes events

-- the same by what is read of the files; nothing where one can't be read any more
abbrev pub notes_by : List ℕ → Result ImageData LoadCause → Result (List Event) ScriptCause → Config → Bool → List ℕ
notes_by text (Err cause) script config is_given = text
notes_by text (Ok image) (Err cause) config is_given = text
notes_by text (Ok image) (Ok events) config is_given = notes_on text image config events is_given

-- the same of a request, with whether its words give the number of nodes; of another command than a replay there are none
abbrev pub notes_of : List ℕ → Files → Request → Bool → List ℕ
notes_of text held (Replay config report watch program script) is_given =
    notes_by text (image_of (held_bytes held program 16777216)) (script_of config.nodes (held_bytes held script 33554432)) config is_given
notes_of text held _ is_given = text
