-- Texts that say words of memory and accesses, one a line. Empty lines and lines that begin with # are skipped. The words
-- stand before the first access.
use Rattle.std.specs.Prelude.{◌≡◌, ℕ, ◌+◌, nat_eq, nat_le, if◌then◌else◌, List, [], ◌∷◌, ◌++◌, length, Result, Ok, Err}
use Rattle.text_lines.specs.Lines.{lines_of}
use Rattle.sn_text.specs.Items.{is_skipped, cause_at, most_items}
use Rattle.sn_text.specs.declared.cause.Fault.{Fault}
use Rattle.sn_text.specs.declared.cause.ScriptCause.{ScriptCause}
use Rattle.sn_text.specs.declared.cause.ScriptCause.TheVariants.{BadLine, TooMany}
use Rattle.sn_text.specs.declared.cause.ScriptFault.{ScriptFault}
use Rattle.sn_text.specs.declared.cause.ScriptFault.TheVariants.{Refused, Memory}
use Rattle.access_check.specs.declared.access.Access.{Access}
use Rattle.access_check.specs.declared.access.StartWord.{StartWord}
use Rattle.access_texts.specs.declared.access_line.Statement.{Statement}
use Rattle.access_texts.specs.declared.access_line.Statement.TheVariants.{Start, Access as Accesses}
use Rattle.access_texts.specs.Lines.{statement_of}

-- what a text says
pub record Said : Type 0 where
  pub words : List StartWord
  pub accesses : List Access

abbrev pub nothing_said : Said
nothing_said = record { words = []; accesses = [] }

-- with a word of memory: it stands before the first access
abbrev pub with_start : ℕ → Said → StartWord → Result Said ScriptCause
with_start line said word =
    if nat_eq (length said.accesses) 0 then Ok (record said { words = said.words ++ word ∷ [] }) else Err (BadLine line)

-- with an access, of which there are at most 1,000,000
abbrev pub with_access : Said → Access → Result Said ScriptCause
with_access said a =
    if nat_le most_items (length said.accesses) then Err TooMany else Ok (record said { accesses = said.accesses ++ a ∷ [] })

-- with what a line of this number says
abbrev pub with_statement : ℕ → Said → Result Statement Fault → Result Said ScriptCause
with_statement line said (Err fault) = Err (cause_at line fault)
with_statement line said (Ok (Start word)) = with_start line said word
with_statement line said (Ok (Accesses a)) = with_access said a

-- what is said after a line
abbrev pub with_line : ℕ → Said → List ℕ → Result Said ScriptCause
with_line line said text = if is_skipped text then Ok said else with_statement line said (statement_of text)

-- goes on with what is said so far, unless a line was refused
abbrev pub and_then : Result Said ScriptCause → (Said → Result Said ScriptCause) → Result Said ScriptCause
and_then (Ok said) more = more said
and_then (Err cause) more = Err cause

-- what lines say, the first of which has this number, after what is said so far; or the first cause for which one is refused
unfoldable pub said_from : ℕ → Said → List (List ℕ) → Result Said ScriptCause
said_from line said [] = Ok said
said_from line said (text ∷ lines) = and_then (with_line line said text) (λ now_. said_from (line + 1) now_ lines)

-- what a text says, or the first cause for which it is refused
abbrev pub said_by : List ℕ → Result Said ScriptCause
said_by bytes = said_from 1 nothing_said (lines_of bytes)

-- the fault is want of memory, or the cause for which a text is refused
abbrev pub IsRefusedAs : Result Said ScriptCause → ScriptFault → Type 0
IsRefusedAs meaning (Refused cause) = meaning ≡ Err cause
IsRefusedAs meaning Memory = Unit {0}
