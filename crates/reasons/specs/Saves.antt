-- Why a save file is refused.
use Rattle.std.specs.Prelude.{ℕ, List, [], ◌∷◌, ◌++◌, codes, decimal, Option, Some, None}
use Rattle.save_text.specs.declared.cause.SaveCause.{SaveCause}
use Rattle.save_text.specs.declared.cause.SaveCause.TheVariants.{TooLong, BadLine, OutOfRange, CutOff, SetFull, NotLegal, Unread}
use Rattle.reasons.specs.Ends.{cut_off}
use Rattle.reasons.specs.Reason.{place, colon_and, too_long}
use Rattle.reasons.specs.Places.{ended_line}

-- a line of another form or in another place; of a file that can't be read any more none is shown
unfoldable pub no_such_line : List ℕ → Option (List ℕ) → List ℕ
no_such_line text line = text ++ codes "no line of a save file that may stand here" ++ colon_and line

-- no LF ends the line
unfoldable pub no_end : List ℕ → List ℕ
no_end text = text ++ codes "the file ends here, and not with the line `end` and its LF"

abbrev pub bad_line : List ℕ → List ℕ → Option (List ℕ) → List ℕ
bad_line text [] line = no_such_line text None
bad_line text (byte ∷ bytes) None = no_end text
bad_line text (byte ∷ bytes) (Some line) = no_such_line text (Some line)

unfoldable pub out_of_range : List ℕ → Option (List ℕ) → List ℕ
out_of_range text line =
    text ++ codes "a number that no saved machine has, or a line that is one too many or out of its order" ++ colon_and line

unfoldable pub set_full : List ℕ → Option (List ℕ) → List ℕ
set_full text line = text ++ codes "the set of that block has no place left in the cache of that node" ++ colon_and line

unfoldable pub not_legal : List ℕ → ℕ → List ℕ
not_legal text number = text ++ codes "this program doesn't do the instruction of `rec` line " ++ decimal number ++ codes " after those before it"

unfoldable pub unread : List ℕ → ℕ → List ℕ
unread text node = text ++ codes "node " ++ decimal node ++ codes " has read bytes that its `given` lines don't give from the first on"

-- the line that is blamed
abbrev pub line_of : SaveCause → Option ℕ
line_of (BadLine number) = Some number
line_of (OutOfRange number) = Some number
line_of (SetFull number) = Some number
line_of _ = None

-- what is wrong there
abbrev pub what_of : List ℕ → List ℕ → SaveCause → List ℕ
what_of text bytes TooLong = too_long text 67108864
what_of text bytes (BadLine number) = bad_line text bytes (ended_line bytes number)
what_of text bytes (OutOfRange number) = out_of_range text (ended_line bytes number)
what_of text bytes (CutOff a b) = cut_off text a b
what_of text bytes (SetFull number) = set_full text (ended_line bytes number)
what_of text bytes (NotLegal number) = not_legal text number
what_of text bytes (Unread node) = unread text node

-- a text, and then why the save file is refused
unfoldable pub save_reason : List ℕ → List ℕ → List ℕ → SaveCause → List ℕ
save_reason text name bytes cause = what_of (place text name (line_of cause)) bytes cause
