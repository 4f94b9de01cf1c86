-- Accesses are legal exactly where all projections are good.
use Rattle.std.proofs.Common.{ℕ, List, [], ◌∷◌, refl, sym, subst}
use Rattle.rv_core.specs.Core.{block_of}
use Rattle.access_check.specs.declared.access.Access.{Access}
use Rattle.access_check.specs.Legal.{MemoryState, AreLegal, memory_after}
use Rattle.access_check.specs.Projections.{BlockAllows, CoreAllows, BlockAllowsAll, CoreAllowsAll, AllAllow}

blocks_to : (m : MemoryState) (accesses : List Access) → AreLegal m accesses → (b : ℕ) → BlockAllowsAll b (m.blocks b) accesses
blocks_to m [] g b = tt
blocks_to m (a ∷ accesses) g b = (
  (λ e. subst (λ k. BlockAllows (m.blocks k) a) (sym e) (record { seen = g.0.seen; intact = g.0.intact })),
  blocks_to (memory_after m a) accesses g.1 b,
)

cores_to : (m : MemoryState) (accesses : List Access) → AreLegal m accesses → (n : ℕ) → CoreAllowsAll n (m.reserved n) accesses
cores_to m [] g n = tt
cores_to m (a ∷ accesses) g n = (
  (λ e. subst (λ k. CoreAllows (m.reserved k) a) (sym e) g.0.reserved),
  cores_to (memory_after m a) accesses g.1 n,
)

pub projected : (m : MemoryState) (accesses : List Access) → AreLegal m accesses → AllAllow m accesses
projected m accesses g = record { blocks = blocks_to m accesses g; cores = cores_to m accesses g }

legal_by : (m : MemoryState) (accesses : List Access) → ((b : ℕ) → BlockAllowsAll b (m.blocks b) accesses) →
    ((n : ℕ) → CoreAllowsAll n (m.reserved n) accesses) → AreLegal m accesses
legal_by m [] p q = tt
legal_by m (a ∷ accesses) p q =
    let h = (p (block_of a.address)).0 refl in (
      record { seen = h.seen; reserved = (q a.core).0 refl; intact = h.intact },
      legal_by (memory_after m a) accesses (λ b. (p b).1) (λ n. (q n).1),
    )

pub from_projected : (m : MemoryState) (accesses : List Access) → AllAllow m accesses → AreLegal m accesses
from_projected m accesses g = legal_by m accesses g.blocks g.cores
