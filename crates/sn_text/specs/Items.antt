-- Texts in which each line says one item: scripts and traces. Empty lines and lines that begin with # are skipped.
use Rattle.std.specs.Prelude.{◌≡◌, ℕ, ◌+◌, Bool, true, nat_eq, nat_le, if◌then◌else◌, List, [], ◌∷◌, ◌++◌, Result, Ok, Err}
use Rattle.text_lines.specs.Lines.{lines_of}
use Rattle.sn_text.specs.declared.cause.Fault.{Fault}
use Rattle.sn_text.specs.declared.cause.Fault.TheVariants.{NotOfForm, NotThere}
use Rattle.sn_text.specs.declared.cause.ScriptCause.{ScriptCause}
use Rattle.sn_text.specs.declared.cause.ScriptCause.TheVariants.{BadLine, OutOfRange, TooMany}
use Rattle.sn_text.specs.declared.cause.ScriptFault.{ScriptFault}
use Rattle.sn_text.specs.declared.cause.ScriptFault.TheVariants.{Refused, Memory}
use Rattle.sn_base.specs.declared.limits.TheConstants.{EVENTS}

-- the most items that a text may have
abbrev pub most_items : ℕ
most_items = EVENTS

abbrev pub is_skipped : List ℕ → Bool
is_skipped [] = true
is_skipped (byte ∷ bytes) = nat_eq byte 35

-- why a text is refused at a line
abbrev pub cause_at : ℕ → Fault → ScriptCause
cause_at line NotOfForm = BadLine line
cause_at line NotThere = OutOfRange line

-- these items, and then the others
abbrev pub items_and : {A : Type 0} → List A → Result (List A) ScriptCause → Result (List A) ScriptCause
items_and items (Ok others) = Ok (items ++ others)
items_and items (Err cause) = Err cause

-- what a line says, after so many items, and then the others
abbrev pub with_item : {A : Type 0} → ℕ → ℕ → Result A Fault → Result (List A) ScriptCause → Result (List A) ScriptCause
with_item line count (Err fault) others = Err (cause_at line fault)
with_item line count (Ok item) others = if nat_le most_items count then Err TooMany else items_and (item ∷ []) others

-- the items of these lines, of which the first has this number and comes after so many items
unfoldable pub items_from : {A : Type 0} → (List ℕ → Result A Fault) → ℕ → ℕ → List (List ℕ) → Result (List A) ScriptCause
items_from item_of line count [] = Ok []
items_from item_of line count (text ∷ lines) =
    if is_skipped text then items_from item_of (line + 1) count lines
    else with_item line count (item_of text) (items_from item_of (line + 1) (count + 1) lines)

-- the items of a text, or the first cause for which it is refused
abbrev pub items_of : {A : Type 0} → (List ℕ → Result A Fault) → List ℕ → Result (List A) ScriptCause
items_of item_of bytes = items_from item_of 1 0 (lines_of bytes)

-- the fault is want of memory, or the cause for which a text is refused
abbrev pub IsRefusedAs : {A : Type 0} → Result (List A) ScriptCause → ScriptFault → Type 0
IsRefusedAs meaning (Refused cause) = meaning ≡ Err cause
IsRefusedAs meaning Memory = Unit {0}
