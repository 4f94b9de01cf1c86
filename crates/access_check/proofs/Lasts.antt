-- The last access that a test holds of, with one access more.
use Rattle.std.proofs.Common.{◌≡◌, ℕ, zero, suc, ◌<◌, ◌≤◌, ◌⊎◌, inl, inr, Bool, true, false, List, [], ◌∷◌, take, length, slice_get, Some, refl, sym}
use Rattle.std.proofs.Common.{subst, ◌∙◌, arith, ⊎_elim}
use Rattle.std.proofs.lemmas.List.{length-take}
use Rattle.std.proofs.lemmas.Option.{slice_get_within, same_Some}
use Rattle.access_check.specs.declared.access.Access.{Access}
use Rattle.access_check.specs.Verdicts.{IsLast}

-- an access among the first k + 1 is the last of them, or among the first k
split : (accesses : List Access) (k j : ℕ) (x : Access) → slice_get (take (suc k) accesses) j ≡ Some x →
    ((j ≡ k) × (slice_get accesses k ≡ Some x)) ⊎ ((j < k) × (slice_get (take k accesses) j ≡ Some x))
split [] k j x e = absurd (cc)
split (y ∷ accesses) zero zero x e = inl (refl, e)
split (y ∷ accesses) zero (suc j) x e = absurd (cc)
split (y ∷ accesses) (suc k) zero x e = inr (omega arith, e)
split (y ∷ accesses) (suc k) (suc j) x e =
    ⊎_elim (λ h. inl (omega (arith, h.0), h.1)) (λ h. inr (omega (arith, h.0), h.1)) (split accesses k j x e)

module _ (test : Access → Bool) (accesses : List Access) (k : ℕ) (a : Access) (e : slice_get accesses k ≡ Some a) where
  room : suc k ≤ length accesses
  room = let w = slice_get_within accesses k a e in omega (arith, w)

  same : (x : Access) → slice_get accesses k ≡ Some x → a ≡ x
  same x f = same_Some a x (sym e ∙ f)

  pub last_here : test a ≡ true → IsLast test (take (suc k) accesses) (suc k)
  last_here t = record {
    within = let l = room in let n = length-take (suc k) accesses in omega (arith, l, n);
    holds = λ j x i f. ⊎_elim (λ h. subst (λ y. test y ≡ true) (same x h.1) t)
        (λ h. absurd (omega (arith, i, h.0))) (split accesses k j x f);
    none = λ j x i f. ⊎_elim (λ h. absurd (omega (arith, i, h.0))) (λ h. absurd (omega (arith, i, h.0))) (split accesses k j x f);
  }

  pub last_before : (q : ℕ) → IsLast test (take k accesses) q → test a ≡ false → IsLast test (take (suc k) accesses) q
  last_before q p t =
      let l = room in
      let n = length-take (suc k) accesses in
      let o = length-take k accesses in
      let w = p.within in
      record {
        within = omega (arith, l, n, o, w);
        holds = λ j x i f. ⊎_elim (λ h. absurd (omega (arith, l, o, w, i, h.0))) (λ h. p.holds j x i h.1) (split accesses k j x f);
        none = λ j x i f. ⊎_elim (λ h. subst (λ y. test y ≡ false) (same x h.1) t) (λ h. p.none j x i h.1) (split accesses k j x f);
      }
