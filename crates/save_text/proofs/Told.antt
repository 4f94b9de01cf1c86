-- What a text says, by what its first lines say.
use Rattle.std.proofs.Common.{◌≡◌, ℕ, ◌+◌, ◌<◌, true, false, List, [], ◌∷◌, length, drop, take, refl, ap, ◌∙◌, arith}
use Rattle.std.specs.Prelude.{Some, None, Result, Ok, Err}
use Rattle.std.specs.List.{position, slice_split}
use Rattle.sn_saved.specs.Saved.{Saved}
use Rattle.text_lines.specs.Lines.{is_line_feed}
use Rattle.save_text.specs.declared.cause.SaveCause.{SaveCause}
use Rattle.save_text.specs.declared.cause.SaveFault.{SaveFault}
use Rattle.save_text.specs.declared.cause.SaveFault.TheVariants.{Refused, Memory}
use Rattle.save_text.specs.Lines.{IsRefusedAs}
use Rattle.save_text.specs.declared.cause.SaveCause.TheVariants.{BadLine}
use Rattle.save_text.specs.Reading.{Reading, line_read, lines_read, closed, is_ended}
use Rattle.save_text.proofs.Parted.{line-ended, line-last, some-parts}

-- a line and what stands behind its LF
more_parts : (number : ℕ) (s : Result Reading SaveCause) (line : List ℕ) (parts : List (List ℕ)) → 0 < length parts →
    lines_read number s (line ∷ parts) ≡ lines_read (number + 1) (line_read number s line) parts
unfolding lines_read
more_parts number s line [] l = absurd (omega arith)
more_parts number s line (next ∷ lines) l = refl

pub line-read : (number : ℕ) (s : Result Reading SaveCause) (text : List ℕ) (i : ℕ) → position is_line_feed text ≡ Some i →
    lines_read number s (slice_split is_line_feed text)
    ≡ lines_read (number + 1) (line_read number s (take i text)) (slice_split is_line_feed (drop (i + 1) text))
line-read number s text i e =
    ap (lines_read number s) (line-ended text i e)
    ∙ more_parts number s (take i text) (slice_split is_line_feed (drop (i + 1) text)) (some-parts (drop (i + 1) text))

-- once refused, always refused
pub stays-refused : (number : ℕ) (cause : SaveCause) (parts : List (List ℕ)) → lines_read number (Err cause) parts ≡ Err cause
unfolding lines_read
stays-refused number cause [] = refl
stays-refused number cause (rest ∷ []) = refl
stays-refused number cause (line ∷ next ∷ lines) = stays-refused (number + 1) cause (next ∷ lines)

-- what is refused at a line
pub refused-at : (number : ℕ) (s : Reading) (text : List ℕ) (i : ℕ) (fault : SaveFault) → position is_line_feed text ≡ Some i →
    IsRefusedAs (line_read number (Ok s) (take i text)) fault → IsRefusedAs (lines_read number (Ok s) (slice_split is_line_feed text)) fault
refused-at number s text i Memory e h = tt
refused-at number s text i (Refused cause) e h =
    line-read number (Ok s) text i e
    ∙ ap (λ (r : Result Reading SaveCause). lines_read (number + 1) r (slice_split is_line_feed (drop (i + 1) text))) h
    ∙ stays-refused (number + 1) cause (slice_split is_line_feed (drop (i + 1) text))

-- at the end
pub read-out : (number : ℕ) (s : Reading) (text : List ℕ) → position is_line_feed text ≡ None →
    lines_read number (Ok s) (slice_split is_line_feed text) ≡ closed number (Ok s) text
unfolding lines_read
read-out number s text e = ap (lines_read number (Ok s)) (line-last text e)

-- what was read, where its last line was the end
pub closed-ended : (number : ℕ) (s : Reading) (rest : List ℕ) (saved : Saved) → is_ended s.part rest ≡ true → saved ≡ s.saved →
    closed number (Ok s) rest ≡ Ok saved
closed-ended number s rest saved e f = rw (e, f) refl

pub closed-open : (number : ℕ) (s : Reading) (rest : List ℕ) → is_ended s.part rest ≡ false → closed number (Ok s) rest ≡ Err (BadLine number)
closed-open number s rest e = rw e refl
