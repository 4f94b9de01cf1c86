-- What the reader of a text knows where it is refused, and at the end.
use Rattle.std.proofs.Common.{◌≡◌, ℕ, List, [], ◌∷◌, Result, Ok, sym, ap, ◌∙◌, subst}
use Rattle.elf_load.specs.declared.fault.LoadCause.{LoadCause}
use Rattle.elf_load.specs.declared.fault.LoadFault.{LoadFault}
use Rattle.elf_load.specs.Hexadecimal.{code_from}
use Rattle.elf_load.specs.Loading.{IsRefusedAs}

module _ (code : List ℕ) (number : ℕ) (left : List (List ℕ)) (whole : Result (List ℕ) LoadCause) (h : code_from number code left ≡ whole) where
  pub refused-at : (line : List ℕ) (more : List (List ℕ)) (fault : LoadFault) → left ≡ line ∷ more →
      ((lines : List (List ℕ)) → IsRefusedAs (code_from number code (line ∷ lines)) fault) → IsRefusedAs whole fault
  refused-at line more fault e r =
      subst (λ (t : Result (List ℕ) LoadCause). IsRefusedAs t fault) (ap (code_from number code) (sym e) ∙ h) (r more)

  pub whole-at_end : left ≡ [] → whole ≡ Ok code
  unfolding code_from
  whole-at_end e = sym h ∙ ap (code_from number code) e
