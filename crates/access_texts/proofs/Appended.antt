-- What holds of all items of a list holds of them with one more.
use Rattle.std.proofs.Common.{◌≡◌, List, [], ◌∷◌, ◌++◌, All, Result, Ok, Err, OnOk, sym, subst}
use Rattle.std.proofs.lemmas.List.Elements.{All-nil, All-cons, All-append}
use Rattle.sn_text.specs.declared.cause.ScriptFault.{ScriptFault}

module _ {X : Type 0} (P : X → Type 0) (now inside : List X) (same : inside ≡ now) where
  pub all-appended : (more : List X) (x : X) (r : Result (Unit {0}) ScriptFault) → P x → OnOk r (more ≡ inside ++ x ∷ []) →
      OnOk r (All P now → All P more)
  all-appended more x (Ok u) p e =
      λ h. subst (λ l. All P l) (sym e)
      (All-append P inside (x ∷ []) (subst (λ l. All P l) (sym same) h) (All-cons P x [] p (All-nil P)))
  all-appended more x (Err fault) p e = tt

  pub all-same : (r : Result (Unit {0}) ScriptFault) → OnOk r (All P now → All P inside)
  all-same (Ok u) = λ h. subst (λ l. All P l) (sym same) h
  all-same (Err fault) = tt
