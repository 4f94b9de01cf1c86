-- What the lines of a save file say, one after another.
use Rattle.std.specs.Prelude.{ℕ, ◌+◌, Bool, true, ◌&&◌, nat_eq, nat_le, nat_lt, min, if◌then◌else◌, List, [], ◌∷◌, ◌++◌, length, codes}
use Rattle.std.specs.Prelude.{bytes_eq, slice_set, Result, Ok, Err}
use Rattle.std.specs.List.{slice_split}
use Rattle.sn_base.specs.declared.config.Config.{Config}
use Rattle.rv_core.specs.declared.step.Record.{Record}
use Rattle.sn_saved.specs.declared.marks.Marks.{Marks}
use Rattle.sn_model.specs.Fabric.{no_switches}
use Rattle.sn_saved.specs.Saved.{Saved, most_saved}
use Rattle.text_lines.specs.Lines.{is_line_feed}
use Rattle.sn_text.specs.Script.{switch_in, begins, after}
use Rattle.sn_text.specs.Trace.{record_of}
use Rattle.sn_text.specs.declared.cause.Fault.{Fault}
use Rattle.sn_text.specs.declared.cause.Fault.TheVariants.{NotOfForm, NotThere}
use Rattle.save_text.specs.declared.cause.SaveCause.{SaveCause}
use Rattle.save_text.specs.declared.cause.SaveCause.TheVariants.{BadLine, OutOfRange}
use Rattle.save_text.specs.declared.part.Part.{Part}
use Rattle.save_text.specs.declared.part.Part.TheVariants.{Top, Head, Config as Sizes, Marks as Numbers, Dead, Owners, Given, Committed, End}
use Rattle.save_text.specs.Parts.{rank_of}
use Rattle.save_text.specs.Words.{config_of, marks_of, owner_of, given_of}

-- what was read so far: what it says, the part of the last line, and the least number with which the next line of that part may begin
pub record Reading : Type 0 where
  pub saved : Saved
  pub part : Part
  pub least : ℕ

-- nothing yet
abbrev pub nothing_saved : Saved
nothing_saved = record {
  config = record { nodes = 0; sets = 0; ways = 0; log = 0 };
  marks = record { point = 0; next_id = 0; applied = 0; dead = no_switches };
  owners = [];
  given = [];
  committed = [];
}

abbrev pub top : Reading
top = record { saved = nothing_saved; part = Top; least = 0 }

-- the first three lines

abbrev pub head_read : Reading → List ℕ → Result Reading Fault
head_read s line = if bytes_eq line (codes "safetynet-save 1") then Ok (record s { part = Head }) else Err NotOfForm

abbrev pub config_read : Reading → Result Config Fault → Result Reading Fault
config_read s (Err fault) = Err fault
config_read s (Ok config) = Ok (record s { saved = record s.saved { config = config }; part = Sizes })

abbrev pub marks_read : Reading → Result Marks Fault → Result Reading Fault
marks_read s (Err fault) = Err fault
marks_read s (Ok marks) = Ok (record s { saved = record s.saved { marks = marks }; part = Numbers })

-- the others

-- the least number with which a line of a part may begin: any, where it is the part's first
abbrev pub least_of : Reading → Part → ℕ
least_of s part = if nat_eq (rank_of s.part) (rank_of part) then s.least else 0

-- whether a list may have one more: there are at most a million, and no more than events
abbrev pub may_add : Reading → ℕ → Bool
may_add s count = nat_lt count (min most_saved s.saved.marks.applied)

-- a dead switch, an owner: where some event was applied, in order, none twice
abbrev pub dead_read : Reading → Result ℕ Fault → Result Reading Fault
dead_read s (Err fault) = Err fault
dead_read s (Ok switch) =
    if nat_lt 0 s.saved.marks.applied && nat_le (least_of s Dead) switch
    then Ok (record {
      saved = record s.saved { marks = record s.saved.marks { dead = slice_set s.saved.marks.dead switch true } };
      part = Dead;
      least = switch + 1;
    })
    else Err NotThere

abbrev pub owner_read : Reading → Result (ℕ × ℕ) Fault → Result Reading Fault
owner_read s (Err fault) = Err fault
owner_read s (Ok owner) =
    if nat_lt 0 s.saved.marks.applied && nat_le (least_of s Owners) owner.0
    then Ok (record { saved = record s.saved { owners = s.saved.owners ++ owner ∷ [] }; part = Owners; least = owner.0 + 1 })
    else Err NotThere

-- a byte: in order of nodes, and not too many
abbrev pub given_read : Reading → Result (ℕ × ℕ) Fault → Result Reading Fault
given_read s (Err fault) = Err fault
given_read s (Ok byte) =
    if nat_le (least_of s Given) byte.0 && may_add s (length s.saved.given)
    then Ok (record { saved = record s.saved { given = s.saved.given ++ byte ∷ [] }; part = Given; least = byte.0 })
    else Err NotThere

-- a record: where the point has risen, and not too many
abbrev pub record_read : Reading → Result Record Fault → Result Reading Fault
record_read s (Err fault) = Err fault
record_read s (Ok taken) =
    if nat_lt 0 s.saved.marks.point && may_add s (length s.saved.committed)
    then Ok (record { saved = record s.saved { committed = s.saved.committed ++ taken ∷ [] }; part = Committed; least = 0 })
    else Err NotThere

-- whether a line begins with the word of a part that may follow
abbrev pub is_of : Reading → Part → List ℕ → List ℕ → Bool
is_of s part word line = begins word line && nat_le (rank_of s.part) (rank_of part)

unfoldable pub body_read : Reading → List ℕ → Result Reading Fault
body_read s line =
    if is_of s Dead (codes "dead ") line then dead_read s (switch_in s.saved.config.nodes (after (codes "dead ") line))
    else if is_of s Owners (codes "owner ") line then owner_read s (owner_of s.saved.config.nodes (after (codes "owner ") line))
    else if is_of s Given (codes "given ") line then given_read s (given_of s.saved.config.nodes (after (codes "given ") line))
    else if is_of s Committed (codes "rec ") line then record_read s (record_of s.saved.config.nodes (after (codes "rec ") line))
    else if bytes_eq line (codes "end") && nat_lt (rank_of s.part) (rank_of End) then Ok (record s { part = End })
    else Err NotOfForm

-- the next line, by the part of the last
abbrev pub read_after : Part → Reading → List ℕ → Result Reading Fault
read_after Top s line = head_read s line
read_after Head s line = config_read s (config_of line)
read_after Sizes s line = marks_read s (marks_of line)
read_after _ s line = body_read s line

unfoldable pub next_read : Reading → List ℕ → Result Reading Fault
next_read s line = read_after s.part s line

-- all lines

-- why a line is refused: it has another form, or names what isn't there
abbrev pub cause_at : ℕ → Fault → SaveCause
cause_at number NotOfForm = BadLine number
cause_at number NotThere = OutOfRange number

abbrev pub numbered : ℕ → Result Reading Fault → Result Reading SaveCause
numbered number (Ok s) = Ok s
numbered number (Err fault) = Err (cause_at number fault)

abbrev pub line_read : ℕ → Result Reading SaveCause → List ℕ → Result Reading SaveCause
line_read number (Err cause) line = Err cause
line_read number (Ok s) line = numbered number (next_read s line)

-- the end: `end` was the last line, and behind its LF stands nothing
abbrev pub is_ended : Part → List ℕ → Bool
is_ended part rest = nat_eq (rank_of part) (rank_of End) && nat_eq (length rest) 0

abbrev pub closed : ℕ → Result Reading SaveCause → List ℕ → Result Saved SaveCause
closed number (Err cause) rest = Err cause
closed number (Ok s) rest = if is_ended s.part rest then Ok s.saved else Err (BadLine number)

-- the lines that an LF ends, and what stands behind the last LF; the first of them has this number
unfoldable pub lines_read : ℕ → Result Reading SaveCause → List (List ℕ) → Result Saved SaveCause
lines_read number s [] = closed number s []
lines_read number s (rest ∷ []) = closed number s rest
lines_read number s (line ∷ next ∷ lines) = lines_read (number + 1) (line_read number s line) (next ∷ lines)

-- what a text says, or the first cause by its lines for which it is refused
abbrev pub said_by : List ℕ → Result Saved SaveCause
said_by bytes = lines_read 1 (Ok top) (slice_split is_line_feed bytes)
