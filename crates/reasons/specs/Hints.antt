-- What a line that is refused is near to.
use Rattle.std.specs.Prelude.{ℕ, ◌+◌, ◌-◌, Bool, true, false, not, ◌&&◌, ◌||◌, nat_eq, nat_le, bytes_eq, if◌then◌else◌, List, [], ◌∷◌, ◌++◌, length}
use Rattle.std.specs.Prelude.{take, drop, codes, slice_index, Option, Some, None, is_some}
use Rattle.std.specs.List.{position}
use Rattle.reasons.specs.Near.{nearest}
use Rattle.reasons.specs.declared.hints.TextKind.{TextKind}
use Rattle.reasons.specs.declared.hints.TextKind.TheVariants.{Script, Control, Trace, Accesses}

-- the words by which lines begin, and of accesses those that say what each did
abbrev pub words_of : TextKind → List (List ℕ)
words_of Script =
    codes "step" ∷ codes "edge" ∷ codes "report" ∷ codes "hop" ∷ codes "deliver" ∷ codes "lose" ∷ codes "kill" ∷ codes "evict"
    ∷ codes "input" ∷ codes "validate" ∷ codes "recover" ∷ []
words_of Control = codes "order" ∷ codes "repeat" ∷ codes "lose" ∷ codes "deliver" ∷ codes "finish" ∷ []
words_of Trace = []
words_of Accesses =
    codes "r" ∷ codes "w" ∷ codes "lr" ∷ codes "sc" ∷ codes "scfail" ∷ codes "amo" ∷ codes "init" ∷ []

abbrev pub begins : List ℕ → List ℕ → Bool
begins text line = bytes_eq (take (length text) line) text

abbrev pub has : ℕ → List ℕ → Bool
has byte line = is_some (position (λ other. nat_eq other byte) line)

abbrev pub is_capital : ℕ → Bool
is_capital byte = nat_le 65 byte && nat_le byte 90

abbrev pub has_capital : List ℕ → Bool
has_capital line = is_some (position is_capital line)

abbrev pub ends_blank : List ℕ → Bool
ends_blank line = not (nat_eq (length line) 0) && nat_eq (slice_index line (length line - 1)) 32

abbrev pub blank_in : List ℕ → Option ℕ
blank_in line = position (λ byte. nat_eq byte 32) line

abbrev pub front_to : Option ℕ → List ℕ → List ℕ
front_to None line = line
front_to (Some place) line = take place line

abbrev pub back_from : Option ℕ → List ℕ → List ℕ
back_from None line = []
back_from (Some place) line = drop (place + 1) line

-- what stands before the first blank
abbrev pub first_word : List ℕ → List ℕ
first_word line = front_to (blank_in line) line

-- what stands behind the first blank
abbrev pub operand : List ℕ → List ℕ
operand line = back_from (blank_in line) line

-- two blanks behind the first word, or behind the second
abbrev pub has_two_blanks : List ℕ → Bool
has_two_blanks line = begins (codes " ") (operand line) || begins (codes " ") (operand (operand line))

abbrev pub is_digit : ℕ → Bool
is_digit byte = nat_le 48 byte && nat_le byte 57

-- whether a zero stands before a digit
abbrev pub is_padded : List ℕ → Bool
is_padded (first ∷ second ∷ text) = nat_eq first 48 && is_digit second
is_padded text = false

-- whether the line's first number has a leading zero
abbrev pub has_leading_zero : TextKind → List ℕ → Bool
has_leading_zero Script line = is_padded (operand line)
has_leading_zero Control line = is_padded (operand line)
has_leading_zero Trace line = is_padded line
has_leading_zero Accesses line = is_padded line

abbrev pub begins_by_digit : List ℕ → Bool
begins_by_digit [] = false
begins_by_digit (byte ∷ line) = is_digit byte

-- the word that says what a line is: of an access the second, behind its core, and of any other line the first
abbrev pub key_word : TextKind → List ℕ → List ℕ
key_word Accesses line = if begins_by_digit line then first_word (operand line) else first_word line
key_word _ line = first_word line

abbrev pub is_scripts : List ℕ → Bool
is_scripts line = begins (codes "step ") line || begins (codes "edge ") line || begins (codes "deliver ") line

-- whether the line is one of a script where a trace or accesses are wanted, or one of these where a script is
abbrev pub is_of_other : TextKind → List ℕ → Bool
is_of_other Script line = begins_by_digit line
is_of_other Control line = begins_by_digit line
is_of_other Trace line = is_scripts line
is_of_other Accesses line = is_scripts line

abbrev pub other_text : TextKind → List ℕ
other_text Script = codes "it is a trace's, which check takes"
other_text Control = codes "it is a trace's, which check takes"
other_text Trace = codes "it is a script's, which replay takes"
other_text Accesses = codes "it is a script's, which replay takes"

-- what is wrong with a line that means well, by the first row that fits
unfoldable pub slip : TextKind → List ℕ → Option (List ℕ)
slip kind line =
    if begins (239 ∷ 187 ∷ 191 ∷ []) line then Some (codes "a byte order mark stands at its front")
    else if has 9 line then Some (codes "words are parted by one blank and not by a tab")
    else if has_capital line then Some (codes "words are in lower case")
    else if has 35 line then Some (codes "a comment has a line of its own")
    else if begins (codes " ") line then Some (codes "a blank stands at its front")
    else if ends_blank line then Some (codes "a blank stands at its end")
    else if has_two_blanks line then Some (codes "words are parted by one blank")
    else if is_of_other kind line then Some (other_text kind)
    else if has_leading_zero kind line then Some (codes "a number has no leading zero")
    else None

-- a text, and then the word that was meant, where one is near
abbrev pub meant : List ℕ → Option (List ℕ) → List ℕ
meant text None = text
meant text (Some word) = text ++ codes "; did you mean " ++ word ++ codes "?"

abbrev pub hint_by : List ℕ → Option (List ℕ) → Option (List ℕ) → List ℕ
hint_by text (Some slip) near = text ++ codes "; " ++ slip
hint_by text None near = meant text near

-- a text, and then what the line is near to: the slip, or else the word that its key word is near to; or nothing
unfoldable pub hint : List ℕ → TextKind → List ℕ → List ℕ
hint text kind line = hint_by text (slip kind line) (nearest (words_of kind) (key_word kind line))
