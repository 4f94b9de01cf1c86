-- Why a script, a control file, a trace or a list of accesses is refused.
use Rattle.std.specs.Prelude.{ℕ, List, ◌++◌, codes, decimal, Option, Some, None}
use Rattle.sn_text.specs.declared.cause.ScriptCause.{ScriptCause}
use Rattle.sn_text.specs.declared.cause.ScriptCause.TheVariants.{TooLong, BadLine, OutOfRange, TooMany}
use Rattle.reasons.specs.declared.hints.TextKind.{TextKind}
use Rattle.reasons.specs.declared.hints.TextKind.TheVariants.{Script, Control, Trace, Accesses}
use Rattle.reasons.specs.Reason.{place, colon_and, too_long}
use Rattle.reasons.specs.Places.{line_at}
use Rattle.reasons.specs.Hints.{hint}

-- what a line says
abbrev pub item_name : TextKind → List ℕ
item_name Script = codes "event"
item_name Control = codes "control"
item_name Trace = codes "record"
item_name Accesses = codes "access"

-- what its lines say
abbrev pub items_name : TextKind → List ℕ
items_name Script = codes "events"
items_name Control = codes "controls"
items_name Trace = codes "records"
items_name Accesses = codes "accesses"

-- the most bytes of such a file: 32 MiB, and 64 MiB of accesses
abbrev pub limit_of : TextKind → ℕ
limit_of Script = 33554432
limit_of Control = 33554432
limit_of Trace = 33554432
limit_of Accesses = 67108864

-- what isn't there, where a line is out of range
abbrev pub lacking : TextKind → List ℕ
lacking Script = codes "no such node, block or switch"
lacking Control = codes "no such node"
lacking Trace = codes "no such core"
lacking Accesses = codes "no such core or address"

abbrev pub hint_at : List ℕ → TextKind → Option (List ℕ) → List ℕ
hint_at text kind None = text
hint_at text kind (Some line) = hint text kind line

unfoldable pub bad_line : List ℕ → TextKind → Option (List ℕ) → List ℕ
bad_line text kind line = hint_at (text ++ codes "this line is no " ++ item_name kind ++ colon_and line) kind line

unfoldable pub out_of_range : List ℕ → TextKind → ℕ → Option (List ℕ) → List ℕ
out_of_range text kind nodes line = text ++ codes "a machine of " ++ decimal nodes ++ codes " nodes has " ++ lacking kind ++ colon_and line

unfoldable pub too_many : List ℕ → TextKind → List ℕ
too_many text kind = text ++ codes "more than 1000000 " ++ items_name kind

-- the line that is blamed
abbrev pub line_of : ScriptCause → Option ℕ
line_of TooLong = None
line_of (BadLine number) = Some number
line_of (OutOfRange number) = Some number
line_of TooMany = None

-- what is wrong there
abbrev pub what_of : List ℕ → TextKind → ℕ → List ℕ → ScriptCause → List ℕ
what_of text kind nodes bytes TooLong = too_long text (limit_of kind)
what_of text kind nodes bytes (BadLine number) = bad_line text kind (line_at bytes number)
what_of text kind nodes bytes (OutOfRange number) = out_of_range text kind nodes (line_at bytes number)
what_of text kind nodes bytes TooMany = too_many text kind

-- a text, and then why the file for so many nodes is refused
unfoldable pub script_reason : List ℕ → TextKind → ℕ → List ℕ → List ℕ → ScriptCause → List ℕ
script_reason text kind nodes name bytes cause = what_of (place text name (line_of cause)) kind nodes bytes cause
