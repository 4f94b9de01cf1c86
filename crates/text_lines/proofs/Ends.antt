-- Where the first line of a text ends.
use Rattle.std.proofs.Common.{◌≡◌, ℕ, zero, suc, ◌+◌, ◌-◌, ◌<◌, ◌≤◌, Bool, true, false, cond, List, [], ◌∷◌, ◌++◌, take, drop, length}
use Rattle.std.proofs.Common.{get_or, refl, ap, ◌∙◌, append_assoc, append-nil, add-one, arith}
use Rattle.std.specs.Prelude.{nat_lt, Option, Some, None}
use Rattle.std.specs.List.{position, position_or_len}
use Rattle.std.proofs.lemmas.Bool.Decides.{nat_tests}
use Rattle.std.proofs.lemmas.List.{take_all, length-drop}
use Rattle.std.proofs.lemmas.List.Quantifiers.{position-Some}
use Rattle.std.proofs.lemmas.List.Sums.{fails_before_first}
use Rattle.text_lines.specs.Lines.{is_line_feed, without_return, lines_from}

split_at : (begun text : List ℕ) (i : ℕ) → i < length text → is_line_feed (get_or text i 0) ≡ true →
    ((k : ℕ) → k < i → is_line_feed (get_or text k 0) ≡ false) →
    lines_from begun text ≡ without_return (begun ++ take i text) ∷ lines_from [] (drop (suc i) text)
unfolding lines_from
split_at begun [] i l feed others = absurd (omega arith)
split_at begun (x ∷ xs) zero l feed others = rw (feed, append-nil begun) refl
split_at begun (x ∷ xs) (suc i) l feed others =
    rw (others 0 (omega arith))
    (split_at (begun ++ x ∷ []) xs i (omega arith) feed (λ k h. others (suc k) (omega (arith, h)))
    ∙ ap (λ (line : List ℕ). without_return line ∷ lines_from [] (drop (suc i) xs)) (append_assoc begun (x ∷ []) (take i xs)))

whole : (begun text : List ℕ) → ((k : ℕ) → k < length text → is_line_feed (get_or text k 0) ≡ false) →
    lines_from begun text ≡ (begun ++ text) ∷ []
unfolding lines_from
whole begun [] others = rw (append-nil begun) refl
whole begun (x ∷ xs) others =
    rw (others 0 (omega arith))
    (whole (begun ++ x ∷ []) xs (λ k h. others (suc k) (omega (arith, h)))
    ∙ ap (λ (line : List ℕ). line ∷ []) (append_assoc begun (x ∷ []) xs))

pub line-ended : (text : List ℕ) (i : ℕ) → position is_line_feed text ≡ Some i →
    lines_from [] text ≡ without_return (take i text) ∷ lines_from [] (drop (i + 1) text)
line-ended text i e = let p = position-Some is_line_feed text i 0 e in rw add-one (split_at [] text i p.0 p.1 p.2)

not_found : (text : List ℕ) → position is_line_feed text ≡ None → length text ≤ position_or_len is_line_feed text
not_found text e = by_test (nat_lt (position_or_len is_line_feed text) (length text)) refl e where
  by_test : (b : Bool) → nat_lt (position_or_len is_line_feed text) (length text) ≡ b →
      cond b (Some (position_or_len is_line_feed text)) None ≡ (let none : Option ℕ = None in none) →
      length text ≤ position_or_len is_line_feed text
  by_test false t h = grind (arith, nat_tests, t)
  by_test true t h = absurd (cc)

pub line-last : (text : List ℕ) → position is_line_feed text ≡ None → lines_from [] text ≡ text ∷ []
line-last text e = whole [] text (λ k h. fails_before_first is_line_feed text k 0 (omega (arith, h, not_found text e)))

-- what is left of a text after a place
pub rest-is : (text : List ℕ) (i : ℕ) → take (length text - i) (drop i text) ≡ drop i text
rest-is text i = take_all (length text - i) (drop i text) (omega (arith, length-drop i text))

longer_by_one : (b : Bool) (begun : List ℕ) (more others : List (List ℕ)) (n : ℕ) → length more ≤ n + 1 → length others ≤ n + 1 →
    length (cond b (begun ∷ more) others) ≤ suc n + 1
longer_by_one true begun more others n l m = omega (arith, l)
longer_by_one false begun more others n l m = omega (arith, m)

count_lines : (begun text : List ℕ) → length (lines_from begun text) ≤ length text + 1
unfolding lines_from
count_lines begun [] = omega arith
count_lines begun (x ∷ xs) =
    longer_by_one (is_line_feed x) (without_return begun) (lines_from [] xs) (lines_from (begun ++ x ∷ []) xs) (length xs)
    (count_lines [] xs) (count_lines (begun ++ x ∷ []) xs)

-- a text has a line more than LFs, at most
pub lines-few : (text : List ℕ) → length (lines_from [] text) ≤ length text + 1
lines-few text = count_lines [] text
