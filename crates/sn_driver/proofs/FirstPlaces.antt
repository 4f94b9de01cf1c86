-- The events of a list's first places, with one place more.
use Rattle.std.proofs.Common.{◌≡◌, ℕ, ◌+◌, ◌<◌, List, [], ◌∷◌, ◌++◌, length, get_or, map, take, filter_map, slice_get, Option, Some}
use Rattle.std.proofs.Common.{None, IfSome, sym, ap, ◌∙◌, add-one, arith, zero, suc}
use Rattle.std.proofs.Math.Seq.{take-suc}
use Rattle.std.proofs.lemmas.List.{append-nil, append_assoc}
use Rattle.std.proofs.lemmas.List.Elements.{filter_map-append}

module _ {X : Type 0} (xs : List (Option X)) (k : ℕ) (l : k < length xs) where
  abbrev kept : List (Option X) → List X
  kept = filter_map (λ (o : Option X). o)

  next : kept (take (k + 1) xs) ≡ kept (take k xs) ++ kept (get_or xs k None ∷ [])
  next = rw (add-one k) (ap (filter_map (λ (o : Option X). o)) (take-suc xs k None l) ∙ filter_map-append (λ (o : Option X). o) (take k xs) (get_or xs k None ∷ []))

  pub next-some : (x : X) → Some x ≡ get_or xs k None → kept (take (k + 1) xs) ≡ kept (take k xs) ++ x ∷ []
  next-some x e = next ∙ ap (λ o. kept (take k xs) ++ kept (o ∷ [])) (sym e)

  pub next-none : None ≡ get_or xs k None → kept (take (k + 1) xs) ≡ kept (take k xs)
  next-none e = next ∙ ap (λ o. kept (take k xs) ++ kept (o ∷ [])) (sym e) ∙ append-nil (kept (take k xs))

  -- the same after others

  pub more-some : (before : List X) (x : X) → Some x ≡ get_or xs k None → before ++ kept (take (k + 1) xs) ≡ (before ++ kept (take k xs)) ++ x ∷ []
  more-some before x e = ap (λ ys. before ++ ys) (next-some x e) ∙ sym (append_assoc before (kept (take k xs)) (x ∷ []))

  pub more-none : (before : List X) → None ≡ get_or xs k None → before ++ kept (take (k + 1) xs) ≡ before ++ kept (take k xs)
  more-none before e = ap (λ ys. before ++ ys) (next-none e)

-- what a function makes of the element at a place
pub at_map : {F X : Type 0} (g : F → Option X) (fs : List F) (k : ℕ) (o : Option X) → k < length fs → IfSome (slice_get fs k) (λ f. o ≡ g f) → o ≡ get_or (map g fs) k None
at_map g [] k o l h = absurd (omega (arith, l))
at_map g (f ∷ fs) zero o l h = h
at_map g (f ∷ fs) (suc k) o l h = at_map g fs k o (omega (arith, l)) h

-- those of three lists together
pub kept-all : {X : Type 0} (ds hs os : List (Option X)) →
    (filter_map (λ (o : Option X). o) ds ++ filter_map (λ (o : Option X). o) hs) ++ filter_map (λ (o : Option X). o) os ≡ filter_map (λ (o : Option X). o) (ds ++ hs ++ os)
kept-all ds hs os = sym (filter_map-append (λ o. o) (ds ++ hs) os ∙ ap (λ r. r ++ filter_map (λ o. o) os) (filter_map-append (λ o. o) ds hs))
