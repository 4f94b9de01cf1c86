-- What the reader of items knows where it is refused, and at the end.
use Rattle.std.proofs.Common.{◌≡◌, ℕ, List, [], ◌∷◌, length, sym, ap, ◌∙◌, subst, append-nil}
use Rattle.std.specs.Prelude.{Result, Ok}
use Rattle.sn_text.specs.declared.cause.Fault.{Fault}
use Rattle.sn_text.specs.declared.cause.ScriptCause.{ScriptCause}
use Rattle.sn_text.specs.declared.cause.ScriptFault.{ScriptFault}
use Rattle.sn_text.specs.Items.{items_and, items_from, IsRefusedAs}

module _ {A : Type 0} (item_of : List ℕ → Result A Fault) (items : List A) (number : ℕ) (left : List (List ℕ)) (whole : Result (List A) ScriptCause) (h : items_and items (items_from item_of number (length items) left) ≡ whole) where
  pub refused-at : (line : List ℕ) (more : List (List ℕ)) (fault : ScriptFault) → left ≡ line ∷ more →
      ((lines : List (List ℕ)) → IsRefusedAs (items_and items (items_from item_of number (length items) (line ∷ lines))) fault) →
      IsRefusedAs whole fault
  refused-at line more fault e r =
      subst (λ (meaning : Result (List A) ScriptCause). IsRefusedAs meaning fault)
      (ap (λ (lines : List (List ℕ)). items_and items (items_from item_of number (length items) lines)) (sym e) ∙ h) (r more)

  pub whole-at_end : left ≡ [] → whole ≡ Ok items
  unfolding items_from
  whole-at_end e =
      sym h ∙ ap (λ (lines : List (List ℕ)). items_and items (items_from item_of number (length items) lines)) e
      ∙ ap (λ (all : List A). Ok all) (append-nil items)
