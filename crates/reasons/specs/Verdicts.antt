-- Why a trace is no execution.
use Rattle.std.specs.Prelude.{ℕ, List, ◌++◌, codes, decimal, Option, Some, None}
use Rattle.text_lines.specs.Hex.{hex_word}
use Rattle.rv_core.specs.declared.step.Record.{Record}

-- a text, and then the record's place and its line
unfoldable pub record_place : List ℕ → ℕ → Option ℕ → List ℕ
record_place text place None = text ++ codes "record " ++ decimal place ++ codes ": "
record_place text place (Some line) = text ++ codes "record " ++ decimal place ++ codes " (line " ++ decimal line ++ codes "): "

-- a text, and then which core saw what
unfoldable pub saw : List ℕ → Record → List ℕ
saw text r = text ++ codes "core " ++ decimal r.core ++ codes " saw " ++ hex_word r.seen

-- a text, and then what of the record is known
unfoldable pub verdict_reason : List ℕ → Option Record → Option ℕ → List ℕ
verdict_reason text None memory = text ++ codes "the flat machine has no such step"
verdict_reason text (Some r) None = saw text r ++ codes ", and the flat machine has no such step"
verdict_reason text (Some r) (Some word) = saw text r ++ codes ", and the memory has " ++ hex_word word
