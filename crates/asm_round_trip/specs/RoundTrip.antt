-- What an assembler and a disassembler have to do with each other.
use Rattle.std.specs.Prelude.{◌≡◌, ℕ, ◌≤◌, ◌<◌, ◌^◌, List, length, All, Ok}
use Rattle.rv_asm.specs.Assembly.{asm_of}
use Rattle.rv_asm.specs.Text.{dis_of}

-- a list of words that has a text: none too large, and not too many
pub record HasText (words : List ℕ) : Type 0 where
  pub small : All (λ word. word < 2 ^ 32) words
  pub few : length words ≤ 1048576

-- a text of words is assembled to just these words
abbrev pub ReadsBack : List ℕ → Type 0
ReadsBack words = asm_of (dis_of words) ≡ Ok words
