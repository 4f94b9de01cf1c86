-- The same block by block and core by core: folds over all accesses, each of which skips what is not of its block or core.
use Rattle.std.specs.Prelude.{◌≡◌, ℕ, true, if◌then◌else◌, ◌==◌, List, [], ◌∷◌, Option, IfSome, ⊤}
use Rattle.rv_core.specs.Core.{block_of, is_reserved}
use Rattle.sn_consistency.specs.Projections.{BlockState}
use Rattle.access_check.specs.declared.access.Access.{Access}
use Rattle.access_check.specs.Accesses.{seen_by, is_done}
use Rattle.access_check.specs.Legal.{MemoryState, block_after, reserved_after, value_in}

-- what the access's block asks of it
pub record BlockAllows (v : BlockState) (a : Access) : Type 0 where
  pub seen : IfSome (seen_by a.operation) (λ value. value ≡ value_in v.content a)
  pub intact : is_done a.operation ≡ true → v.intact a.core ≡ true

-- what its core's own accesses ask of it
abbrev pub CoreAllows : Option ℕ → Access → Type 0
CoreAllows reserved a = is_done a.operation ≡ true → is_reserved reserved (block_of a.address) ≡ true

-- block b allows its accesses, each after the earlier ones
abbrev pub BlockAllowsAll : ℕ → BlockState → List Access → Type 0
BlockAllowsAll b v [] = ⊤
BlockAllowsAll b v (a ∷ accesses) = (b ≡ block_of a.address → BlockAllows v a) × BlockAllowsAll b (block_after b v a) accesses

-- core n allows its accesses, each after its own earlier ones
abbrev pub CoreAllowsAll : ℕ → Option ℕ → List Access → Type 0
CoreAllowsAll n reserved [] = ⊤
CoreAllowsAll n reserved (a ∷ accesses) =
    (n ≡ a.core → CoreAllows reserved a)
    × CoreAllowsAll n (if n == a.core then reserved_after reserved a else reserved) accesses

-- all projections are good
pub record AllAllow (m : MemoryState) (accesses : List Access) : Type 0 where
  pub blocks : (b : ℕ) → BlockAllowsAll b (m.blocks b) accesses
  pub cores : (n : ℕ) → CoreAllowsAll n (m.reserved n) accesses
