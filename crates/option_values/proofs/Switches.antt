-- What is no switch.
use Rattle.std.proofs.Common.{◌≡◌, ℕ, refl, ap, arith, List, [], ◌∷◌, false, None, nat_eq}
use Rattle.std.proofs.lemmas.Bool.Decides.{nat_tests}
use Rattle.option_values.specs.Runs.{switch_in}

differs : (x y : ℕ) → (x ≡ y → ⊥) → nat_eq x y ≡ false
differs x y h = grind (arith, nat_tests, h)

pub no_switch : (nodes : ℕ) (text : List ℕ) → ((rest : List ℕ) → text ≡ 97 ∷ rest → ⊥) → ((rest : List ℕ) → text ≡ 98 ∷ rest → ⊥)
    → switch_in nodes text ≡ None
no_switch nodes [] a b = refl
no_switch nodes (letter ∷ node) a b =
    rw (differs letter 97 (λ e. a node (ap (λ x. x ∷ node) e))) rw (differs letter 98 (λ e. b node (ap (λ x. x ∷ node) e))) refl
