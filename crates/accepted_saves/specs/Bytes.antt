-- When a program, and what was given before a run began, are of bytes. A value of the definitions may have any numbers there.
use Rattle.std.specs.Prelude.{ℕ, ◌<◌, ⊤}
use Rattle.std.specs.List.{All}
use Rattle.sn_base.specs.Image.{ImageData, byte_at}
use Rattle.consistent_cuts.specs.Origins.{Origin, Start, Resumed}

-- what memory begins with
abbrev pub BeginsWithBytes : ImageData → Type 0
BeginsWithBytes image = (address : ℕ) → byte_at image.segments address < 256

-- what was given where a run begins
abbrev pub WasGivenBytes : Origin → Type 0
WasGivenBytes Start = ⊤
WasGivenBytes (Resumed saved) = All (λ byte. byte.1 < 256) saved.given
