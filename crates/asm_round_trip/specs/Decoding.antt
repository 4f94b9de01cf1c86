-- What a decoder makes of the words of an assembler.
use Rattle.std.specs.Prelude.{◌≡◌, ℕ, List, Some, Ok}
use Rattle.rv_decode.specs.declared.instr.Instr.{Instr}
use Rattle.rv_statement.specs.Lines.{bare}
use Rattle.rv_statement.specs.Reading.{whole, named_in, fixed, said, statement_of}
use Rattle.rv_asm.specs.Assembly.{led_word}

-- a line names an instruction, whose numbers may be out of their ranges
abbrev pub Names : List ℕ → Instr → Type 0
Names line instr = named_in (bare line) ≡ Some (whole instr)

-- a line says a word
abbrev pub Says : List ℕ → ℕ → Type 0
Says line word = statement_of (bare line) ≡ said (fixed (Some word))

-- an instruction at one place has this word where the label that it leads to stands at another
abbrev pub HasWord : ℕ → Instr → ℕ → ℕ → ℕ → Type 0
HasWord line instr here place word = led_word line instr here (Some place) ≡ Ok word
