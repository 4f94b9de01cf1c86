-- The line of a number, by the first LF of what is left of a text.
use Rattle.std.proofs.Common.{◌≡◌, ℕ, ◌+◌, ◌-◌, ◌<◌, ◌≤◌, Bool, true, false, List, [], ◌∷◌, take, drop, length, refl, ap, ◌∙◌, arith}
use Rattle.std.specs.Prelude.{nat_le, if◌then◌else◌, Some, None}
use Rattle.std.specs.List.{position, slice_split}
use Rattle.std.proofs.lemmas.Bool.Decides.{nat_tests}
use Rattle.text_lines.specs.Lines.{is_line_feed}
use Rattle.save_text.proofs.Parted.{line-ended, line-last, some-parts}
use Rattle.reasons.specs.Places.{ended_in}

one_more : (number : ℕ) (line : List ℕ) (parts : List (List ℕ)) → 0 < length parts →
    ended_in number (line ∷ parts) ≡ (if nat_le number 1 then Some line else ended_in (number - 1) parts)
one_more number line [] l = absurd (omega arith)
one_more number line (next ∷ lines) l = refl

by_number : (is_this : Bool) (number : ℕ) (line : List ℕ) (parts : List (List ℕ)) → nat_le number 1 ≡ is_this → 0 < length parts →
    ended_in number (line ∷ parts) ≡ (if is_this then Some line else ended_in (number - 1) parts)
by_number is_this number line parts e l = one_more number line parts l ∙ ap (λ (b : Bool). if b then Some line else ended_in (number - 1) parts) e

module _ (number : ℕ) (text : List ℕ) (i : ℕ) (ended : position is_line_feed text ≡ Some i) where
  -- the first line is the one
  pub line-here : number ≤ 1 → ended_in number (slice_split is_line_feed text) ≡ Some (take i text)
  line-here first =
      ap (ended_in number) (line-ended text i ended)
      ∙ by_number true number (take i text) (slice_split is_line_feed (drop (i + 1) text)) (grind (arith, nat_tests, first))
      (some-parts (drop (i + 1) text))

  -- it is a later one
  pub line-later : 1 < number →
      ended_in number (slice_split is_line_feed text) ≡ ended_in (number - 1) (slice_split is_line_feed (drop (i + 1) text))
  line-later later =
      ap (ended_in number) (line-ended text i ended)
      ∙ by_number false number (take i text) (slice_split is_line_feed (drop (i + 1) text)) (grind (arith, nat_tests, later))
      (some-parts (drop (i + 1) text))

-- no LF is left
pub no-line : (number : ℕ) (text : List ℕ) → position is_line_feed text ≡ None → ended_in number (slice_split is_line_feed text) ≡ None
no-line number text none = ap (ended_in number) (line-last text none)
