-- Memory before the first access.
use Rattle.std.proofs.Common.{◌≡◌, ◌≢◌, ℕ, zero, suc, ◌-◌, ◌*◌, ◌%◌, ◌<◌, ◌≤◌, ◌⊎◌, inl, inr, ◌==◌, true, false, cond, List, [], ◌∷◌, ◌++◌, take, replicate, get_or, slice_get, Some, None, length, refl, sym, subst, ap, ◌∙◌, arith}
use Rattle.std.proofs.lemmas.List.{take-replicate, drop-replicate, length-replicate}
use Rattle.std.proofs.lemmas.List.{get_or-set_same, get_or-set_other, get_or-replicate}
use Rattle.std.proofs.lemmas.Bool.{cases_order}
use Rattle.std.proofs.lemmas.Bool.Decides.{nat_tests}
use Rattle.std.proofs.Math.ListN.{get_or-eq_default, set}
use Rattle.byteorder.specs.Endian.{little_bytes}
use Rattle.sn_base.specs.Blocks.{ram_start, ram_size, stored_in}
use Rattle.sn_base.specs.Nodes.{has_node}
use Rattle.sn_base.specs.Image.{ImageData}
use Rattle.sn_base.specs.declared.block.Width.TheVariants.{Word}
use Rattle.rv_core.specs.declared.state.CoreState.{CoreState}
use Rattle.rv_core.specs.Core.{block_of, start_of}
use Rattle.rv_core.specs.Flat.{first_cores, flat_start, core_at}
use Rattle.sn_consistency.proofs.BlockLaws.{store_block}
use Rattle.sn_consistency.proofs.MemoryLaws.{length-stored_in}
use Rattle.sn_consistency.specs.Words.{block_in}
use Rattle.access_check.specs.declared.access.StartWord.{StartWord}
use Rattle.access_check.specs.declared.blocks.Blocks.{Blocks}
use Rattle.access_check.specs.declared.cell.Cell.{Cell}
use Rattle.access_check.specs.Accesses.{IsFitting}
use Rattle.access_check.specs.Legal.{zeros, memory_of, with_words}
use Rattle.access_check.specs.Blocks.{IsWide, Shows, Stands}

pub zero_block : (b : ℕ) → b < 65536 → block_in zeros b ≡ replicate 64 0
unfolding block_in zeros
zero_block b l = ap (take 64) (drop-replicate (64 * b) ram_size 0) ∙ take-replicate 64 (ram_size - 64 * b) 0 (omega (arith, l))

length_zeros : (n : ℕ) → length (replicate {A = ℕ} n 0) ≡ n
length_zeros n = length-replicate n 0

pub zeros_size : length zeros ≡ ram_size
unfolding zeros
zeros_size = length_zeros ram_size

unmarked : (n : ℕ) → has_node (replicate 16 false) n ≡ false
unmarked n = go (cases_order n 16)
  where
    past : 16 ≤ n → has_node (replicate 16 false) n ≡ false
    past l = get_or-eq_default (replicate 16 false) false l

    go : ((n ≡ 16) ⊎ ((n < 16) ⊎ (16 < n))) → has_node (replicate 16 false) n ≡ false
    go (inl e) = past (omega (arith, e))
    go (inr (inl l)) = get_or-replicate 16 n false false l
    go (inr (inr l)) = past (omega (arith, l))

-- a block of zeros that nobody has accessed
abbrev pub zero_cell : Cell
zero_cell = record { content = replicate 64 0; intact = replicate 16 false }

pub zero_stands : (b : ℕ) → b < 65536 → Stands zero_cell ((memory_of zeros).blocks b)
zero_stands b l = record { content = sym (zero_block b l); intact = unmarked }

-- no core has a reservation before its first instruction
with_last : (cores : List CoreState) (core d : CoreState) → ((n : ℕ) → (get_or cores n d).reservation ≡ None) → core.reservation ≡ None →
    d.reservation ≡ None → (n : ℕ) → (get_or (cores ++ core ∷ []) n d).reservation ≡ None
with_last [] core d h e f zero = e
with_last [] core d h e f (suc n) = f
with_last (x ∷ cores) core d h e f zero = h zero
with_last (x ∷ cores) core d h e f (suc n) = with_last cores core d (λ k. h (suc k)) e f n

first_free : (entry nodes n : ℕ) → (get_or (first_cores nodes entry) n (start_of 0 0)).reservation ≡ None
first_free entry zero n = refl
first_free entry (suc nodes) n = with_last (first_cores nodes entry) (start_of nodes entry) (start_of 0 0) (first_free entry nodes) refl refl n

pub start_free : (image : ImageData) (nodes n : ℕ) → (core_at (flat_start image nodes) n).reservation ≡ None
start_free image nodes n = first_free image.entry nodes n

-- a word stored in memory's bytes is stored in its block's cell
pub word_size : (bytes : List ℕ) (address word : ℕ) → length bytes ≡ ram_size → IsFitting Word address →
    length (stored_in bytes (address - ram_start) (little_bytes 4 word)) ≡ ram_size
word_size bytes address word e f =
    length-stored_in (address - ram_start) (little_bytes 4 word) bytes (omega (arith, e, f.0, f.1)) ∙ e

module _ (before after : Blocks) (cell : Cell) (bytes : List ℕ) (address word : ℕ) (size : length bytes ≡ ram_size)
    (fits : IsFitting Word address) (wide : IsWide before) (shows : Shows before (memory_of bytes)) where
  abbrev q : ℕ
  q = block_of address

  abbrev stored : List ℕ
  stored = stored_in bytes (address - ram_start) (little_bytes 4 word)

  abbrev put_in : List ℕ → List ℕ
  put_in content = stored_in content ((address - ram_start) % 64) (little_bytes 4 word)

  abbrev IsAt : ℕ → Cell → Type 0
  IsAt b d = Stands (get_or (set before.cells.items q cell) b d) ((memory_of stored).blocks b)

  store : (b : ℕ) → block_in stored b ≡ cond (b == q) (put_in (block_in bytes b)) (block_in bytes b)
  store b = store_block bytes Word word address b size fits.0 fits.1 fits.2

  other : (b : ℕ) (d : Cell) → b < 65536 → b ≢ q → IsAt b d
  other b d l n =
      let t : (b == q) ≡ false = grind (arith, nat_tests) in
      let s = shows.cells b d l in
      let e = get_or-set_other before.cells.items q b cell d n in
      record {
        content = ap (λ x. x.content) e ∙ s.content ∙ sym (store b ∙ ap (λ x. cond x (put_in (block_in bytes b)) (block_in bytes b)) t);
        intact = λ k. ap (λ x. has_node x.intact k) e ∙ s.intact k;
      }

  module _ (content : cell.content ≡ put_in (get_or before.cells.items (block_of address) cell).content)
      (intact : cell.intact ≡ (get_or before.cells.items (block_of address) cell).intact) where
    here : (b : ℕ) (d : Cell) → b < 65536 → b ≡ q → IsAt b d
    here b d l n =
        let t : (b == q) ≡ true = grind (arith, nat_tests) in
        let m : q < 65536 = omega (arith, l, n) in
        let w : q < length before.cells.items = omega (arith, m, wide) in
        let s = shows.cells q cell m in
        let e : get_or (set before.cells.items q cell) b d ≡ cell
        = ap (λ j. get_or (set before.cells.items q cell) j d) n ∙ get_or-set_same before.cells.items q cell d w in
        record {
          content = ap (λ x. x.content) e ∙ content ∙ ap put_in (s.content ∙ ap (block_in bytes) (sym n))
              ∙ sym (store b ∙ ap (λ x. cond x (put_in (block_in bytes b)) (block_in bytes b)) t);
          intact = λ k. ap (λ x. has_node x.intact k) e ∙ ap (λ x. has_node x k) intact ∙ s.intact k;
        }

    go : (b : ℕ) (d : Cell) → b < 65536 → ((b ≡ q) ⊎ ((b < q) ⊎ (q < b))) → IsAt b d
    go b d l (inl e) = here b d l e
    go b d l (inr (inl h)) = other b d l (omega (arith, h))
    go b d l (inr (inr h)) = other b d l (omega (arith, h))

    pub put_shows : after.cells.items ≡ set before.cells.items (block_of address) cell → after.reserved ≡ before.reserved →
        Shows after (memory_of (stored_in bytes (address - ram_start) (little_bytes 4 word)))
    put_shows items reserved = record {
      cells = λ b d l. subst (λ xs. Stands (get_or xs b d) ((memory_of stored).blocks b)) (sym items) (go b d l (cases_order b q));
      reserved = λ n d l. ap (λ xs. get_or xs n d) reserved ∙ shows.reserved n d l;
    }

-- one word more
pub words_more : (bytes : List ℕ) (words : List StartWord) (k : ℕ) (w : StartWord) → slice_get words k ≡ Some w →
    with_words bytes (take (suc k) words) ≡ stored_in (with_words bytes (take k words)) (w.address - ram_start) (little_bytes 4 w.word)
words_more bytes [] k w e = absurd (cc)
words_more bytes (x ∷ words) zero w e =
    let i : x ≡ w = cc in
    ap (λ y. stored_in bytes (y.address - ram_start) (little_bytes 4 y.word)) i
words_more bytes (x ∷ words) (suc k) w e = words_more (stored_in bytes (x.address - ram_start) (little_bytes 4 x.word)) words k w e
