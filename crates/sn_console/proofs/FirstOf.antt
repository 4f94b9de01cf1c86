-- The first of a text.
use Rattle.std.proofs.Common.{ℕ, List, [], ◌++◌, take, drop, refl, ap, sym, ◌∙◌, append_assoc}
use Rattle.std.proofs.lemmas.List.{take-append-drop}
use Rattle.sn_console.specs.Handed.{IsFirstOf}

pub IsFirstOf-nil : (text : List ℕ) → IsFirstOf [] text
IsFirstOf-nil text = record { rest = text; whole = refl }

pub IsFirstOf-take : (n : ℕ) (text : List ℕ) → IsFirstOf (take n text) text
IsFirstOf-take n text = record { rest = drop n text; whole = take-append-drop n text }

pub IsFirstOf-trans : (a b d : List ℕ) → IsFirstOf a b → IsFirstOf b d → IsFirstOf a d
IsFirstOf-trans a b d h k = record {
  rest = h.rest ++ k.rest;
  whole = sym (append_assoc a h.rest k.rest) ∙ ap (λ t. t ++ k.rest) h.whole ∙ k.whole;
}
