-- What the reader knows where a text is refused, and at its end.
use Rattle.std.proofs.Common.{◌≡◌, ℕ, List, [], ◌∷◌, Result, Ok, sym, ap, ◌∙◌, subst}
use Rattle.sn_text.specs.declared.cause.ScriptCause.{ScriptCause}
use Rattle.sn_text.specs.declared.cause.ScriptFault.{ScriptFault}
use Rattle.access_texts.specs.Lists.{Said, said_from, IsRefusedAs}

module _ (number : ℕ) (said : Said) (left : List (List ℕ)) (whole : Result Said ScriptCause) (h : said_from number said left ≡ whole) where
  pub refused-at : (line : List ℕ) (more : List (List ℕ)) (fault : ScriptFault) → left ≡ line ∷ more →
      ((lines : List (List ℕ)) → IsRefusedAs (said_from number said (line ∷ lines)) fault) → IsRefusedAs whole fault
  refused-at line more fault e r =
      subst (λ meaning. IsRefusedAs meaning fault) (ap (said_from number said) (sym e) ∙ h) (r more)

  pub whole-at_end : left ≡ [] → whole ≡ Ok said
  unfolding said_from
  whole-at_end e = sym h ∙ ap (said_from number said) e
