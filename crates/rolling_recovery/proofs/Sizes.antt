-- The blocks of a part are counted one after another.
use Rattle.std.proofs.Common.{◌≡◌, ℕ, zero, suc, ◌+◌, ◌≤◌, Bool, true, false, cond, refl, ap, ◌∙◌, arith, add-one}
use Rattle.sn_model.specs.Caches.{block_count}
use Rattle.sn_machine.specs.Machine.{MachineData}
use Rattle.rolling_recovery.specs.Parts.{is_in_part, blocks_below, part_size}

pub none-below : (m : MachineData) (n : ℕ) → 0 ≡ blocks_below 0 m n
unfolding blocks_below
none-below m n = refl

one-more_suc : (m : MachineData) (n block count weight : ℕ) → count ≡ blocks_below block m n →
    weight ≡ cond (is_in_part m n block) 1 0 → count + weight ≡ blocks_below (suc block) m n
unfolding blocks_below
one-more_suc m n block count weight e f = rw (e, f) refl

pub one-more : (m : MachineData) (n block count weight : ℕ) → count ≡ blocks_below block m n →
    weight ≡ cond (is_in_part m n block) 1 0 → count + weight ≡ blocks_below (block + 1) m n
one-more m n block count weight e f = rw add-one (one-more_suc m n block count weight e f)

pub one-at_most : (b : Bool) (count weight number : ℕ) → count ≤ number → weight ≡ cond b 1 0 → count + weight ≤ number + 1
one-at_most true count weight number l e = omega (arith, l, e)
one-at_most false count weight number l e = omega (arith, l, e)

pub all-below : (m : MachineData) (n count blocks : ℕ) → blocks ≡ block_count → count ≡ blocks_below blocks m n → count ≡ part_size m n
unfolding part_size
all-below m n count blocks e f = f ∙ ap (λ k. blocks_below k m n) e
