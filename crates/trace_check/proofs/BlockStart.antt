-- A block at the start of a program.
use Rattle.std.proofs.Common.{◌≡◌, ℕ, zero, suc, ◌+◌, ◌-◌, ◌*◌, ◌<◌, ◌≤◌, ◌⊎◌, inl, inr, false, List, ◌∷◌, take, drop, replicate, refl}
use Rattle.std.proofs.Common.{sym, ap, ◌∙◌, arith}
use Rattle.std.proofs.lemmas.Bool.{cases_order}
use Rattle.std.proofs.lemmas.List.{get_or-replicate}
use Rattle.std.proofs.Math.ListN.{get_or-eq_default}
use Rattle.sn_base.specs.Blocks.{ram_start, ram_size}
use Rattle.sn_base.specs.Nodes.{has_node}
use Rattle.sn_base.specs.Image.{ImageData, SegmentData, byte_at, bytes_from}
use Rattle.rv_core.specs.Core.{is_reserved, start_of}
use Rattle.rv_core.specs.Flat.{flat_start, first_cores, core_at, initial_memory}
use Rattle.sn_consistency.specs.Words.{block_in}
use Rattle.sn_consistency.specs.Projections.{block_of_state}
use Rattle.trace_check.specs.declared.cell.Cell.{Cell}
use Rattle.trace_check.specs.Cells.{Stands}
use Rattle.trace_check.specs.CellPlaces.{first_cell}
use Rattle.trace_check.proofs.CorePlaces.{core_of, count_cores}

-- the bytes of a block are a part of those of memory
drop_bytes : (k m a : ℕ) (segments : List SegmentData) → drop k (bytes_from (k + m) segments a) ≡ bytes_from m segments (a + k)
drop_bytes zero m a segments = let e : a ≡ a + 0 = omega arith in let f : 0 + m ≡ m = omega arith in ap (λ x. bytes_from x segments a) f ∙ ap (bytes_from m segments) e
drop_bytes (suc k) m a segments =
    let f : suc k + m ≡ suc (k + m) = omega arith in
    let e : a + 1 + k ≡ a + suc k = omega arith in
    ap (λ x. drop (suc k) (bytes_from x segments a)) f ∙ drop_bytes k m (a + 1) segments ∙ ap (bytes_from m segments) e

take_bytes : (k m a : ℕ) (segments : List SegmentData) → take k (bytes_from (k + m) segments a) ≡ bytes_from k segments a
take_bytes zero m a segments = refl
take_bytes (suc k) m a segments =
    let f : suc k + m ≡ suc (k + m) = omega arith in
    ap (λ x. take (suc k) (bytes_from x segments a)) f ∙ ap (λ xs. byte_at segments a ∷ xs) (take_bytes k m (a + 1) segments)

part_of : (n k m a : ℕ) (segments : List SegmentData) → n ≡ k + (64 + m) → take 64 (drop k (bytes_from n segments a)) ≡ bytes_from 64 segments (a + k)
part_of n k m a segments e =
    ap (λ x. take 64 (drop k (bytes_from x segments a))) e ∙ ap (take 64) (drop_bytes k (64 + m) a segments) ∙ take_bytes 64 m (a + k) segments

initial_is : (image : ImageData) (b : ℕ) → b < 65536 → block_in (initial_memory image) b ≡ bytes_from 64 image.segments (ram_start + 64 * b)
unfolding block_in initial_memory
initial_is image b l = part_of ram_size (64 * b) (ram_size - (64 * b + 64)) ram_start image.segments (omega (arith, l))

-- no core has reserved anything
free : (image : ImageData) (N n b : ℕ) → is_reserved (core_at (flat_start image N) n).reservation b ≡ false
free image N n b = go (cases_order n N)
  where
    past : N ≤ n → is_reserved (core_at (flat_start image N) n).reservation b ≡ false
    past l = ap (λ c. is_reserved c.reservation b) (get_or-eq_default (first_cores N image.entry) (start_of 0 0) (let c = count_cores image.entry N in omega (arith, c, l)))

    go : ((n ≡ N) ⊎ ((n < N) ⊎ (N < n))) → is_reserved (core_at (flat_start image N) n).reservation b ≡ false
    go (inl e) = past (omega (arith, e))
    go (inr (inl l)) = ap (λ c. is_reserved c.reservation b) (core_of image N n l)
    go (inr (inr l)) = past (omega (arith, l))

unmarked : (n : ℕ) → has_node (replicate 16 false) n ≡ false
unmarked n = go (cases_order n 16)
  where
    past : 16 ≤ n → has_node (replicate 16 false) n ≡ false
    past l = get_or-eq_default (replicate 16 false) false l

    go : ((n ≡ 16) ⊎ ((n < 16) ⊎ (16 < n))) → has_node (replicate 16 false) n ≡ false
    go (inl e) = past (omega (arith, e))
    go (inr (inl l)) = get_or-replicate 16 n false false l
    go (inr (inr l)) = past (omega (arith, l))

pub first_stands : (image : ImageData) (N b : ℕ) (cell : Cell) → b < 65536 → cell ≡ first_cell image b → Stands cell (block_of_state (flat_start image N) b)
first_stands image N b cell l f = record {
  content = ap (λ x. x.content) f ∙ sym (initial_is image b l);
  intact = λ n. ap (λ x. has_node x.intact n) f ∙ unmarked n ∙ sym (free image N n b);
}
