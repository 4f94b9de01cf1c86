-- One more line of a text is taken.
use Rattle.std.proofs.Common.{◌≡◌, ℕ, ◌+◌, List, [], ◌∷◌, ◌++◌, map, take, drop, ap, sym, ◌∙◌}
use Rattle.std.proofs.Math.Seq.{take-add, drop-drop}
use Rattle.std.proofs.lemmas.List.{map-append}
use Rattle.std.specs.Prelude.{Option, Some}
use Rattle.line_source.specs.Lines.{as_read}
use Rattle.line_source.specs.Memory.{others_in}

module _ (lines rest : List (List ℕ)) (n : ℕ) (line : List ℕ) (is : drop n lines ≡ line ∷ rest) where
  pub left-next : rest ≡ drop (n + 1) lines
  left-next = ap (drop 1) (sym is) ∙ drop-drop 1 n lines

  pub read-next : map as_read (take (n + 1) lines) ≡ map as_read (take n lines) ++ as_read line ∷ []
  read-next =
      ap (map as_read) (take-add n 1 lines) ∙ map-append as_read (take n lines) (take 1 (drop n lines))
      ∙ ap (λ t. map as_read (take n lines) ++ map as_read (take 1 t)) is

-- what was left before it
pub left-was : (left : Option (List (List ℕ))) (lines rest : List (List ℕ)) (all : List (List ℕ)) → left ≡ Some lines → others_in left ≡ all → lines ≡ rest →
    all ≡ rest
left-was left lines rest all is same first = sym same ∙ ap others_in is ∙ first

pub others-were : (left : Option (List (List ℕ))) (lines rest : List (List ℕ)) → left ≡ Some lines → lines ≡ rest → others_in left ≡ rest
others-were left lines rest is first = ap others_in is ∙ first
