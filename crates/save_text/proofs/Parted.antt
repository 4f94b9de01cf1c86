-- A text is parted at its LFs.
use Rattle.std.proofs.Common.{◌≡◌, ℕ, zero, suc, ◌+◌, ◌<◌, ◌≤◌, Bool, true, false, cond, List, [], ◌∷◌, take, drop, length, get_or, refl, ap, ◌∙◌}
use Rattle.std.proofs.Common.{add-one, arith}
use Rattle.std.specs.Prelude.{nat_lt, Option, Some, None}
use Rattle.std.specs.List.{position, position_or_len, slice_split, onto_first}
use Rattle.std.proofs.lemmas.Bool.Decides.{nat_tests}
use Rattle.std.proofs.lemmas.List.Quantifiers.{position-Some}
use Rattle.std.proofs.lemmas.List.Splits.{slice_split-cons_yes, slice_split-cons_no, slice_split_none, length-slice_split}
use Rattle.std.proofs.lemmas.List.Sums.{fails_before_first}
use Rattle.text_lines.specs.Lines.{is_line_feed}

parted_at : (text : List ℕ) (i : ℕ) → i < length text → is_line_feed (get_or text i 0) ≡ true →
    ((k : ℕ) → k < i → is_line_feed (get_or text k 0) ≡ false) →
    slice_split is_line_feed text ≡ take i text ∷ slice_split is_line_feed (drop (suc i) text)
parted_at [] i l feed others = absurd (omega arith)
parted_at (x ∷ xs) zero l feed others = slice_split-cons_yes is_line_feed x xs feed
parted_at (x ∷ xs) (suc i) l feed others =
    slice_split-cons_no is_line_feed x xs (others 0 (omega arith))
    ∙ ap (onto_first x) (parted_at xs i (omega arith) feed (λ k h. others (suc k) (omega (arith, h))))

-- the first line, which an LF ends, and the others
pub line-ended : (text : List ℕ) (i : ℕ) → position is_line_feed text ≡ Some i →
    slice_split is_line_feed text ≡ take i text ∷ slice_split is_line_feed (drop (i + 1) text)
line-ended text i e = let p = position-Some is_line_feed text i 0 e in rw add-one (parted_at text i p.0 p.1 p.2)

pub line-within : (text : List ℕ) (i : ℕ) → position is_line_feed text ≡ Some i → i < length text
line-within text i e = (position-Some is_line_feed text i 0 e).0

not_found : (text : List ℕ) → position is_line_feed text ≡ None → length text ≤ position_or_len is_line_feed text
not_found text e = by_test (nat_lt (position_or_len is_line_feed text) (length text)) refl e where
  by_test : (b : Bool) → nat_lt (position_or_len is_line_feed text) (length text) ≡ b →
      cond b (Some (position_or_len is_line_feed text)) None ≡ (let none : Option ℕ = None in none) →
      length text ≤ position_or_len is_line_feed text
  by_test false t h = grind (arith, nat_tests, t)
  by_test true t h = absurd (cc)

-- what no LF ends
pub line-last : (text : List ℕ) → position is_line_feed text ≡ None → slice_split is_line_feed text ≡ text ∷ []
line-last text e =
    slice_split_none is_line_feed text (λ k d l. fails_before_first is_line_feed text k d (omega (arith, l, not_found text e)))

pub some-parts : (text : List ℕ) → 0 < length (slice_split is_line_feed text)
some-parts text = let e = length-slice_split is_line_feed text in omega (arith, e)
