-- The folds with one access more at the end.
use Rattle.std.proofs.Common.{◌≡◌, ℕ, zero, suc, List, [], ◌∷◌, take, slice_get, Some, refl, subst, arith}
use Rattle.access_check.specs.declared.access.Access.{Access}
use Rattle.access_check.specs.Legal.{MemoryState, IsLegal, AreLegal, memory_after, memory_after_all, IsFirstRefused}

pub legal_more : (m : MemoryState) (accesses : List Access) (k : ℕ) (a : Access) → slice_get accesses k ≡ Some a →
    AreLegal m (take k accesses) → IsLegal (memory_after_all m (take k accesses)) a → AreLegal m (take (suc k) accesses)
legal_more m [] k a e g h = absurd (cc)
legal_more m (x ∷ accesses) zero a e g h = let i : a ≡ x = cc in (subst (IsLegal m) i h, tt)
legal_more m (x ∷ accesses) (suc k) a e g h = (g.0, legal_more (memory_after m x) accesses k a e g.1 h)

pub after_more : (m : MemoryState) (accesses : List Access) (k : ℕ) (a : Access) → slice_get accesses k ≡ Some a →
    memory_after_all m (take (suc k) accesses) ≡ memory_after (memory_after_all m (take k accesses)) a
after_more m [] k a e = absurd (cc)
after_more m (x ∷ accesses) zero a e = let i : x ≡ a = cc in subst (λ y. memory_after m x ≡ memory_after m y) i refl
after_more m (x ∷ accesses) (suc k) a e = after_more (memory_after m x) accesses k a e

-- where all are legal, each is, after those before it
pub legal_at : (m : MemoryState) (accesses : List Access) (k : ℕ) (a : Access) → slice_get accesses k ≡ Some a →
    AreLegal m accesses → IsLegal (memory_after_all m (take k accesses)) a
legal_at m [] k a e g = absurd (cc)
legal_at m (x ∷ accesses) zero a e g = let i : x ≡ a = cc in subst (IsLegal m) i g.0
legal_at m (x ∷ accesses) (suc k) a e g = legal_at (memory_after m x) accesses k a e g.1

-- so none is refused
pub legal_or_refused : (m : MemoryState) (accesses : List Access) (k : ℕ) → IsFirstRefused m accesses k → AreLegal m accesses → ⊥
legal_or_refused m [] k r g = let w = r.within in omega (arith, w)
legal_or_refused m (x ∷ accesses) zero r g = r.none x refl g.0
legal_or_refused m (x ∷ accesses) (suc k) r g =
    let w = r.within in
    legal_or_refused (memory_after m x) accesses k (record { within = omega (arith, w); before = r.before.1; none = r.none }) g.1
