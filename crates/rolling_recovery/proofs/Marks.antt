-- A node is marked in a set of nodes.
use Rattle.std.proofs.Common.{◌≡◌, ◌⊎◌, inl, inr, ℕ, zero, suc, ◌<◌, Bool, true, false, ◌||◌, List, [], ◌∷◌, length, subst}
use Rattle.std.proofs.Common.{refl, sym, ap, ◌∙◌, arith}
use Rattle.std.specs.Prelude.{nat_eq, slice_set}
use Rattle.std.proofs.lemmas.Bool.{cases_eq, eq-eqb, ne_eqb, false≢true, or_left, or_right}
use Rattle.std.proofs.lemmas.List.{get_or-set_same, get_or-set_other}
use Rattle.sn_base.specs.Nodes.{has_node}

pub or_false : (b : Bool) → b ≡ b || false
or_false true = refl
or_false false = refl

-- the marks after another is set
pub marked : (marks : List Bool) (k n : ℕ) → k < length marks → has_node (slice_set marks k true) n ≡ has_node marks n || nat_eq k n
marked marks k n l = go (cases_eq k n)
  where
    go : ((k ≡ n) ⊎ (k ≡ n → ⊥)) → has_node (slice_set marks k true) n ≡ has_node marks n || nat_eq k n
    go (inl e) =
        subst (λ j. has_node (slice_set marks k true) j ≡ has_node marks j || nat_eq k j) e
        (get_or-set_same marks k true false l ∙ sym (or_right (has_node marks k) (nat_eq k k) (eq-eqb k k refl)))
    go (inr ne) =
        get_or-set_other marks k n true false (λ e. ne (sym e)) ∙ or_false (has_node marks n)
        ∙ sym (ap (λ b. has_node marks n || b) (ne_eqb k n ne))

pub marked-more : (marks : List Bool) (k n : ℕ) → k < length marks → has_node marks n ≡ true → has_node (slice_set marks k true) n ≡ true
marked-more marks k n l e = marked marks k n l ∙ or_left (has_node marks n) (nat_eq k n) e

pub marked-itself : (marks : List Bool) (n : ℕ) → n < length marks → has_node (slice_set marks n true) n ≡ true
marked-itself marks n l = marked marks n n l ∙ or_right (has_node marks n) (nat_eq n n) (eq-eqb n n refl)

-- past the end nobody is marked
pub marked-within : (marks : List Bool) (n : ℕ) → has_node marks n ≡ true → n < length marks
marked-within [] n e = absurd (false≢true e)
marked-within (x ∷ marks) zero e = omega arith
marked-within (x ∷ marks) (suc n) e = let h = marked-within marks n e in omega (arith, h)
