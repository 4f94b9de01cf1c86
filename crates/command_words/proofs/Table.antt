-- A command's arguments, and the table's commands, added one after another.
use Rattle.std.proofs.Common.{◌≡◌, ◌∙◌, ◌+◌, ◌<◌, ℕ, zero, suc, refl, ap, arith, add-one, List, [], ◌∷◌, map, take, length, slice_index_or, fold}
use Rattle.clap.specs.Words.{App}

-- a list folded over what is seen of its items: one item more
module _ {T S : Type 0} (f : App → S → App) (see : T → S) where
  abbrev upto : ℕ → List T → App → App
  upto n items app = fold f app (map see (take n items))

  next : (items : List T) (i : ℕ) (d : T) (app : App) → i < length items → upto (suc i) items app ≡ f (upto i items app) (see (slice_index_or items i d))
  next [] i d app lt = absurd (omega arith)
  next (x ∷ xs) zero d app lt = refl
  next (x ∷ xs) (suc i) d app lt = next xs i d (f app (see x)) (omega arith)

  pub fold-next : (items : List T) (i : ℕ) (d : T) (app : App) → i < length items
      → upto (i + 1) items app ≡ f (upto i items app) (see (slice_index_or items i d))
  fold-next items i d app lt = ap (λ n. upto n items app) (add-one i) ∙ next items i d app lt
