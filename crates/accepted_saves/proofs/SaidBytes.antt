-- What a save file says was given is of bytes: each is read from two digits.
use Rattle.std.proofs.Common.{◌≡◌, ℕ, ◌+◌, ◌-◌, ◌<◌, ◌≤◌, Bool, true, false, ◌&&◌, List, [], ◌∷◌, length, refl, subst, if◌then◌else◌, nat_eq, nat_lt, nat_le, Option, Some, None, arith}
use Rattle.std.specs.Prelude.{Result, Ok, Err, IfOk, IfSome, bytes_eq, codes, slice_index}
use Rattle.std.specs.List.{All, slice_split}
use Rattle.std.proofs.lemmas.Bool.Decides.{nat_tests}
use Rattle.std.proofs.lemmas.List.Elements.{All-nil, All-push}
use Rattle.sn_base.specs.declared.config.Config.{Config}
use Rattle.rv_core.specs.declared.step.Record.{Record}
use Rattle.sn_saved.specs.declared.marks.Marks.{Marks}
use Rattle.sn_saved.specs.Saved.{Saved}
use Rattle.text_lines.specs.Lines.{is_line_feed}
use Rattle.sn_text.specs.Digits.{number_of}
use Rattle.sn_text.specs.Script.{hex_value, byte_by, byte_of, parts_at_blank, switch_in, after}
use Rattle.sn_text.specs.Trace.{record_of}
use Rattle.sn_text.specs.declared.cause.Fault.{Fault}
use Rattle.sn_text.specs.declared.cause.Fault.TheVariants.{NotOfForm, NotThere}
use Rattle.save_text.specs.declared.cause.SaveCause.{SaveCause}
use Rattle.save_text.specs.declared.cause.SaveCause.TheVariants.{BadLine}
use Rattle.save_text.specs.declared.part.Part.{Part}
use Rattle.save_text.specs.declared.part.Part.TheVariants.{Top, Head, Config as Sizes, Marks as Numbers, Dead, Owners, Given, Committed, End}
use Rattle.save_text.specs.Parts.{rank_of}
use Rattle.save_text.specs.Reading.{Reading, top, head_read, config_read, marks_read, least_of, may_add, dead_read, owner_read, given_read, record_read, is_of, body_read, read_after, next_read, numbered, line_read, is_ended, closed, lines_read, said_by}
use Rattle.save_text.specs.Words.{config_of, marks_of, owner_of, given_by, given_in, given_of}
use Rattle.consistent_cuts.specs.Origins.{Resumed}
use Rattle.accepted_saves.specs.Bytes.{WasGivenBytes}
use Rattle.accepted_saves.proofs.Bytes.{IsByte}
use Rattle.accepted_saves.proofs.Given.{IsPair}

-- a byte's two digits

abbrev IsDigit : ℕ → Type 0
IsDigit value = value < 16

from_to : (least greatest n : ℕ) → (nat_le least n && nat_le n greatest) ≡ true → n ≤ greatest
from_to least greatest n e = grind (arith, nat_tests)

digit_low : (digit : ℕ) → IfSome (hex_value digit) IsDigit
digit_low digit = go (nat_le 48 digit && nat_le digit 57) (nat_le 97 digit && nat_le digit 102) refl refl
  where
    go : (a b : Bool) → (nat_le 48 digit && nat_le digit 57) ≡ a → (nat_le 97 digit && nat_le digit 102) ≡ b →
        IfSome (if a then Some (digit - 48) else if b then Some (digit - 87) else None) IsDigit
    go true b e f = omega (arith, from_to 48 57 digit e)
    go false true e f = omega (arith, from_to 97 102 digit f)
    go false false e f = tt

digits_low : (high low : Option ℕ) → IfSome high IsDigit → IfSome low IsDigit → IfSome (byte_by high low) IsByte
digits_low None low h l = tt
digits_low (Some high) None h l = tt
digits_low (Some high) (Some low) h l = omega (arith, h, l)

byte_low : (text : List ℕ) → IfSome (byte_of text) IsByte
byte_low text = go (nat_eq (length text) 2)
  where
    go : (two : Bool) → IfSome (if two then byte_by (hex_value (slice_index text 0)) (hex_value (slice_index text 1)) else None) IsByte
    go true =
        digits_low (hex_value (slice_index text 0)) (hex_value (slice_index text 1)) (digit_low (slice_index text 0)) (digit_low (slice_index text 1))
    go false = tt

given_by_low : (nodes : ℕ) (node byte : Option ℕ) → IfSome byte IsByte → IfOk (given_by nodes node byte) IsPair
given_by_low nodes None byte low = tt
given_by_low nodes (Some node) None low = tt
given_by_low nodes (Some node) (Some byte) low = go (nat_lt node nodes)
  where
    go : (there : Bool) → IfOk (if there then Ok (node, byte) else Err NotThere) IsPair
    go true = low
    go false = tt

given_in_low : (nodes : ℕ) (words : Option (List ℕ × List ℕ)) → IfOk (given_in nodes words) IsPair
given_in_low nodes None = tt
given_in_low nodes (Some words) = given_by_low nodes (number_of words.0) (byte_of words.1) (byte_low words.1)

given_low : (nodes : ℕ) (text : List ℕ) → IfOk (given_of nodes text) IsPair
unfolding given_of
given_low nodes text = given_in_low nodes (parts_at_blank text)

-- a line

abbrev HasBytes : Reading → Type 0
HasBytes s = All IsPair s.saved.given

if_read : (test : Bool) (next : Reading) (fault : Fault) → HasBytes next → IfOk (if test then Ok next else Err fault) HasBytes
if_read true next fault h = h
if_read false next fault h = tt

either : (test : Bool) (a b : Result Reading Fault) → IfOk a HasBytes → IfOk b HasBytes → IfOk (if test then a else b) HasBytes
either true a b first second = first
either false a b first second = second

module _ (s : Reading) (h : HasBytes s) where
  head_has : (line : List ℕ) → IfOk (head_read s line) HasBytes
  head_has line = if_read (bytes_eq line (codes "safetynet-save 1")) (record s { part = Head }) NotOfForm h

  config_has : (said : Result Config Fault) → IfOk (config_read s said) HasBytes
  config_has (Ok config) = h
  config_has (Err fault) = tt

  marks_has : (said : Result Marks Fault) → IfOk (marks_read s said) HasBytes
  marks_has (Ok marks) = h
  marks_has (Err fault) = tt

  dead_has : (said : Result ℕ Fault) → IfOk (dead_read s said) HasBytes
  dead_has (Ok switch) = if_read (nat_lt 0 s.saved.marks.applied && nat_le (least_of s Dead) switch) _ NotThere h
  dead_has (Err fault) = tt

  owner_has : (said : Result (ℕ × ℕ) Fault) → IfOk (owner_read s said) HasBytes
  owner_has (Ok owner) = if_read (nat_lt 0 s.saved.marks.applied && nat_le (least_of s Owners) owner.0) _ NotThere h
  owner_has (Err fault) = tt

  given_has : (said : Result (ℕ × ℕ) Fault) → IfOk said IsPair → IfOk (given_read s said) HasBytes
  given_has (Ok byte) low =
      if_read (nat_le (least_of s Given) byte.0 && may_add s (length s.saved.given)) _ NotThere (All-push IsPair s.saved.given byte h low)
  given_has (Err fault) low = tt

  record_has : (said : Result Record Fault) → IfOk (record_read s said) HasBytes
  record_has (Ok taken) = if_read (nat_lt 0 s.saved.marks.point && may_add s (length s.saved.committed)) _ NotThere h
  record_has (Err fault) = tt

  body_has : (line : List ℕ) → IfOk (body_read s line) HasBytes
  unfolding body_read
  body_has line =
      either (is_of s Dead (codes "dead ") line) (dead_read s (switch_in s.saved.config.nodes (after (codes "dead ") line))) _
      (dead_has (switch_in s.saved.config.nodes (after (codes "dead ") line)))
      (either (is_of s Owners (codes "owner ") line) (owner_read s (owner_of s.saved.config.nodes (after (codes "owner ") line))) _
      (owner_has (owner_of s.saved.config.nodes (after (codes "owner ") line)))
      (either (is_of s Given (codes "given ") line) (given_read s (given_of s.saved.config.nodes (after (codes "given ") line))) _
      (given_has (given_of s.saved.config.nodes (after (codes "given ") line)) (given_low s.saved.config.nodes (after (codes "given ") line)))
      (either (is_of s Committed (codes "rec ") line) (record_read s (record_of s.saved.config.nodes (after (codes "rec ") line))) _
      (record_has (record_of s.saved.config.nodes (after (codes "rec ") line)))
      (if_read (bytes_eq line (codes "end") && nat_lt (rank_of s.part) (rank_of End)) (record s { part = End }) NotOfForm h))))

  part_has : (part : Part) (line : List ℕ) → IfOk (read_after part s line) HasBytes
  part_has Top line = head_has line
  part_has Head line = config_has (config_of line)
  part_has Sizes line = marks_has (marks_of line)
  part_has Numbers line = body_has line
  part_has Dead line = body_has line
  part_has Owners line = body_has line
  part_has Given line = body_has line
  part_has Committed line = body_has line
  part_has End line = body_has line

  next_has : (line : List ℕ) → IfOk (next_read s line) HasBytes
  unfolding next_read
  next_has line = part_has s.part line

-- all lines

numbered_has : (number : ℕ) (read : Result Reading Fault) → IfOk read HasBytes → IfOk (numbered number read) HasBytes
numbered_has number (Ok s) h = h
numbered_has number (Err fault) h = tt

line_has : (number : ℕ) (read : Result Reading SaveCause) (line : List ℕ) → IfOk read HasBytes → IfOk (line_read number read line) HasBytes
line_has number (Ok s) line h = numbered_has number (next_read s line) (next_has s h line)
line_has number (Err cause) line h = tt

abbrev HasGiven : Saved → Type 0
HasGiven saved = All IsPair saved.given

closed_has : (number : ℕ) (read : Result Reading SaveCause) (rest : List ℕ) → IfOk read HasBytes → IfOk (closed number read rest) HasGiven
closed_has number (Err cause) rest h = tt
closed_has number (Ok s) rest h = go (is_ended s.part rest)
  where
    go : (ended : Bool) → IfOk (if ended then Ok s.saved else Err (BadLine number)) HasGiven
    go true = h
    go false = tt

lines_has : (lines : List (List ℕ)) (number : ℕ) (read : Result Reading SaveCause) → IfOk read HasBytes →
    IfOk (lines_read number read lines) HasGiven
unfolding lines_read
lines_has [] number read h = closed_has number read [] h
lines_has (rest ∷ []) number read h = closed_has number read rest h
lines_has (line ∷ next ∷ lines) number read h =
    lines_has (next ∷ lines) (number + 1) (line_read number read line) (line_has number read line h)

pub said_bytes : (text : List ℕ) (saved : Saved) → said_by text ≡ Ok saved → WasGivenBytes (Resumed saved)
said_bytes text saved e =
    subst (λ (said : Result Saved SaveCause). IfOk said HasGiven) e
    (lines_has (slice_split is_line_feed text) 1 (Ok top) (All-nil IsPair))
