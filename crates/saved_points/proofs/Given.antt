-- No node has read what it wasn't given.
use Rattle.std.proofs.Common.{◌≡◌, ℕ, zero, suc, ◌+◌, ◌<◌, Bool, true, false, List, [], ◌∷◌, ◌++◌, refl, arith, nat_eq, None}
use Rattle.std.specs.List.{find, range_with_len}
use Rattle.std.proofs.lemmas.Bool.Decides.{nat_tests}
use Rattle.sn_saved.specs.Saved.{begins_with}

-- a test that no number meets finds none
pub none_finds : (p : ℕ → Bool) (a n : ℕ) → ((k : ℕ) → k < a + n → p k ≡ false) → find p (range_with_len a n) ≡ None
none_finds p a zero h = refl
none_finds p a (suc n) h = let e = h a (omega arith) in rw e (none_finds p (a + 1) n (λ k l. h k (omega (arith, l))))

-- what is more than a list begins with it
pub begins_more : (xs more : List ℕ) → begins_with (xs ++ more) xs ≡ true
begins_more [] [] = refl
begins_more [] (y ∷ more) = refl
begins_more (x ∷ xs) more = let e : nat_eq x x ≡ true = grind (arith, nat_tests) in rw e (begins_more xs more)
