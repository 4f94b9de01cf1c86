-- The parts of a line.
use Rattle.std.specs.Prelude.{ℕ, ◌+◌, Bool, ◌||◌, nat_eq, if◌then◌else◌, List, [], ◌∷◌, take, drop, reverse, Option, Some, None, option_map}
use Rattle.std.specs.List.{position}

-- a blank or a tab
abbrev pub is_blank : ℕ → Bool
is_blank byte = nat_eq byte 32 || nat_eq byte 9

-- without the blanks at its front
abbrev pub without_blanks : List ℕ → List ℕ
without_blanks [] = []
without_blanks (byte ∷ text) = if is_blank byte then without_blanks text else byte ∷ text

-- without the blanks at both ends
unfoldable pub without_outer_blanks : List ℕ → List ℕ
without_outer_blanks text = reverse (without_blanks (reverse (without_blanks text)))

-- what stands before a place, and what stands after it
abbrev pub cut_at : List ℕ → Option ℕ → Option (List ℕ × List ℕ)
cut_at text place = option_map (λ i. (take i text, drop (i + 1) text)) place

-- what stands before the first byte that passes the test, and what stands after it, where there is one
unfoldable pub cut : (ℕ → Bool) → List ℕ → Option (List ℕ × List ℕ)
cut test text = cut_at text (position test text)

abbrev pub front_or : List ℕ → Option (List ℕ × List ℕ) → List ℕ
front_or text None = text
front_or text (Some parts) = parts.0

-- a line without its comment and the blanks at its ends
unfoldable pub bare : List ℕ → List ℕ
bare line = without_outer_blanks (front_or line (cut (λ byte. nat_eq byte 35) line))
