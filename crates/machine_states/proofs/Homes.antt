-- That no node is marked, by the count of the marks.
use Rattle.std.proofs.Common.{◌≡◌, ℕ, ◌+◌, ◌≤◌, Bool, true, false, not, nat_eq, cond, List, [], ◌∷◌, refl, arith}
use Rattle.std.specs.List.{count_by, list_any, fold}

counted : (marks : List Bool) (n : ℕ) → n ≤ fold (λ a mark. a + cond mark 1 0) n marks
counted [] n = omega arith
counted (true ∷ marks) n = omega (arith, counted marks (n + 1))
counted (false ∷ marks) n = omega (arith, counted marks (n + 0))

positive : (n : ℕ) → 1 ≤ n → false ≡ nat_eq n 0
positive n b = grind (arith, b)

pub none_marked : (marks : List Bool) → not (list_any (λ mark. mark) marks) ≡ nat_eq (count_by (λ mark. mark) marks) 0
none_marked [] = refl
none_marked (true ∷ marks) = positive (count_by (λ mark. mark) (true ∷ marks)) (counted marks 1)
none_marked (false ∷ marks) = none_marked marks
