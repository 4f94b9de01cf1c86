-- Words that are nearly right.
use Rattle.std.specs.Prelude.{ℕ, Bool, true, false, ◌&&◌, ◌||◌, nat_eq, bytes_eq, if◌then◌else◌, List, [], ◌∷◌, Option}
use Rattle.std.specs.List.{find}

-- whether two bytes at the front are exchanged, and all behind them is the same
abbrev pub is_swapped : List ℕ → List ℕ → Bool
is_swapped (a ∷ b ∷ given) (c ∷ d ∷ word) = nat_eq a d && nat_eq b c && bytes_eq given word
is_swapped given word = false

-- whether the first byte alone is wrong, too many or lacking, or exchanged with the second
abbrev pub differ_at_front : List ℕ → List ℕ → Bool
differ_at_front [] [] = false
differ_at_front [] (b ∷ word) = bytes_eq [] word
differ_at_front (a ∷ given) [] = bytes_eq given []
differ_at_front (a ∷ given) (b ∷ word) =
    bytes_eq given word || bytes_eq given (b ∷ word) || bytes_eq (a ∷ given) word || is_swapped (a ∷ given) (b ∷ word)

-- whether a text and a word differ in one place, behind a front that both have
abbrev pub is_near : List ℕ → List ℕ → Bool
is_near [] word = differ_at_front [] word
is_near (a ∷ given) [] = differ_at_front (a ∷ given) []
is_near (a ∷ given) (b ∷ word) = if nat_eq a b then is_near given word else differ_at_front (a ∷ given) (b ∷ word)

-- the first of the words that is near
abbrev pub nearest : List (List ℕ) → List ℕ → Option (List ℕ)
nearest words given = find (is_near given) words
