-- What a reading found.
use Rattle.std.proofs.Common.{◌≡◌, ℕ, ◌≤◌, sym, ap, subst, ◌∙◌, List, [], ◌++◌, take, length, Option, Some, None, IfSome}
use Rattle.std.proofs.lemmas.List.{take_all}

-- all of it, where it isn't more than was asked for
pub all-taken : (known : Option (List ℕ)) (old new : List ℕ) (most : ℕ) → old ≡ [] → length new ≤ most
    → IfSome known (λ rest. new ≡ old ++ rest) → IfSome known (λ rest. new ≡ take most rest)
all-taken None old new most empty short read = tt
all-taken (Some rest) old new most empty short read =
    let same : new ≡ rest = read ∙ ap (λ t. t ++ rest) empty in
    same ∙ sym (take_all most rest (subst (λ t. length t ≤ most) same short))
