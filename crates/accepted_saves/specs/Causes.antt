-- For which causes a save file is refused that has the right form.
use Rattle.std.specs.Prelude.{⊤}
use Rattle.save_text.specs.declared.cause.SaveCause.{SaveCause}
use Rattle.save_text.specs.declared.cause.SaveCause.TheVariants.{TooLong, BadLine, OutOfRange}

-- a cause by the point that its lines say, and not by its length or a line
abbrev pub IsOfPoint : SaveCause → Type 0
IsOfPoint TooLong = ⊥
IsOfPoint (BadLine line) = ⊥
IsOfPoint (OutOfRange line) = ⊥
IsOfPoint _ = ⊤
