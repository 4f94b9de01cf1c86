-- Pieces, each for the console or the report, and what the two sinks have after them.
use Rattle.std.specs.Prelude.{◌≡◌, ℕ, List, [], ◌∷◌, ◌++◌, take, Option}
use Rattle.sn_io.specs.Outside.{followed_by}

pub data Piece : Type 0 where
  Console : (bytes : List ℕ) → Piece
  Report : (bytes : List ℕ) → Piece

-- what the console takes of these pieces
abbrev pub console_text : List Piece → List ℕ
console_text [] = []
console_text (Console bytes ∷ pieces) = bytes ++ console_text pieces
console_text (Report bytes ∷ pieces) = console_text pieces

-- what the report takes of them
abbrev pub report_text : List Piece → List ℕ
report_text [] = []
report_text (Console bytes ∷ pieces) = report_text pieces
report_text (Report bytes ∷ pieces) = bytes ++ report_text pieces

-- the first bytes of a piece
abbrev pub first_bytes : ℕ → Piece → Piece
first_bytes n (Console bytes) = Console (take n bytes)
first_bytes n (Report bytes) = Report (take n bytes)

-- a piece for the console, where there are bytes for it
abbrev pub console_piece : List ℕ → List Piece
console_piece [] = []
console_piece (byte ∷ bytes) = Console (byte ∷ bytes) ∷ []

-- what the two sinks have written, where they tell
pub record Ends : Type 0 where
  pub console : Option (List ℕ)
  pub report : Option (List ℕ)

abbrev pub ends : Option (List ℕ) → Option (List ℕ) → Ends
ends console report = record { console = console; report = report }

-- what they have after these pieces, each its own in order
unfoldable pub after : Ends → List Piece → Ends
after before pieces = ends (followed_by before.console (console_text pieces)) (followed_by before.report (report_text pieces))

-- all pieces before one were put whole, a prefix of that one was, and none after it
pub record Breaks (pieces : List Piece) (before broken : Ends) : Type 0 where
  pub whole : List Piece
  pub piece : Piece
  pub rest : List Piece
  pub count : ℕ
  pub all : pieces ≡ whole ++ piece ∷ rest
  pub put : broken ≡ after before (whole ++ first_bytes count piece ∷ [])

-- a sink has the beginning of a text
pub record HasBeginning (text : List ℕ) (before behind : Option (List ℕ)) : Type 0 where
  pub put : List ℕ
  pub left : List ℕ
  pub whole : put ++ left ≡ text
  pub written : behind ≡ followed_by before put
