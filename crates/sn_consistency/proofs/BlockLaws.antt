-- A step's access and its write, in the memory of bytes and in the block.
use Rattle.std.proofs.Common.{◌≡◌, ℕ, ◌+◌, ◌-◌, ◌*◌, ◌/◌, ◌%◌, ◌<◌, ◌≤◌, Bool, true, false, not, ◌&&◌, cond, ◌==◌, Option, Some, None, List}
use Rattle.std.proofs.Common.{length, drop, get_or, refl, ap, ◌∙◌, sym, arith}
use Rattle.std.proofs.lemmas.Bool.Decides.{nat_tests}
use Rattle.std.proofs.lemmas.List.{get_or-drop}
use Rattle.byteorder.specs.Endian.{little_number, little_bytes}
use Rattle.byteorder.specs.Numbers.{length-bytes_low_first}
use Rattle.sn_base.specs.Blocks.{ram_start, ram_size, bytes_of, stored_in}
use Rattle.sn_base.specs.Image.{ImageData}
use Rattle.sn_base.specs.declared.block.Write.{Write}
use Rattle.sn_base.specs.declared.block.Width.{Width}
use Rattle.sn_base.specs.declared.block.Width.TheVariants.{Byte, Half, Word}
use Rattle.rv_core.specs.declared.state.CoreState.{CoreState}
use Rattle.rv_core.specs.declared.step.Record.{Record}
use Rattle.rv_core.specs.declared.step.Want.{Want}
use Rattle.rv_core.specs.declared.step.Want.TheVariants.{Nothing, Load, Store, Amo, Lr, Sc, Input}
use Rattle.rv_core.specs.Core.{bare, block_of, is_reserved}
use Rattle.rv_core.specs.Flat.{seen_by, word_at, memory_after_write, after_write}
use Rattle.rv_core.specs.Step.{want_of, next_of}
use Rattle.sn_consistency.specs.Words.{kind, kind_of, block, address_of, place, content_after, write_block, reads, writes, block_word}
use Rattle.sn_consistency.specs.Words.{block_in}
use Rattle.sn_consistency.specs.Laws.{WriteFits}
use Rattle.sn_consistency.proofs.CoreLaws.{write_fits}
use Rattle.sn_consistency.proofs.MemoryLaws.{length-stored_in, part, part_at, part-stored_in}

-- an aligned word of the memory is one of its block
word_part : (m : List ℕ) (o : ℕ) →
    little_number 4 (drop (o / 4 * 4) m) ≡ little_number 4 (drop (o % 64 / 4 * 4) (part m (o / 64)))
word_part m o =
    let p = o % 64 / 4 * 4 in
    let e : o / 4 * 4 ≡ 64 * (o / 64) + p = omega arith in
    let l : p + 4 ≤ 64 = omega arith in
    let byte = λ (k : ℕ) (s : k < 4).
    get_or-drop (o / 4 * 4) m k 0 ∙ ap (λ j. get_or m (j + k) 0) e
    ∙ ap (λ j. get_or m j 0) (let h : 64 * (o / 64) + p + k ≡ 64 * (o / 64) + (p + k) = omega arith in h)
    ∙ sym (part_at m (o / 64) (p + k) 0 (omega arith)) ∙ sym (get_or-drop p (part m (o / 64)) k 0) in
    let a = byte 0 (omega arith) in
    let b = byte 1 (omega arith) in
    let c = byte 2 (omega arith) in
    let d = byte 3 (omega arith) in
    cc

pub word_block : (m : List ℕ) (address : ℕ) →
    word_at m address ≡ block_word (block_in m (block_of address)) ((address - ram_start) % 64 / 4 * 4)
unfolding block_word block_in
word_block m address = word_part m (address - ram_start)

pub seen_block : (image : ImageData) (c : CoreState) (m : List ℕ) →
    seen_by (want_of image c) m ≡ cond (reads (kind image c)) (block_word (block_in m (block image c)) (place image c)) 0
unfolding kind kind_of block place address_of block_word block_in
seen_block image c m = of_want (want_of image c)
  where
    of_want : (w : Want) →
        seen_by w m ≡ cond (reads (kind_of w))
        (little_number 4 (drop ((address_of w - ram_start) % 64 / 4 * 4) (part m (block_of (address_of w))))) 0
    of_want Nothing = refl
    of_want (Load a) = word_part m (a - ram_start)
    of_want (Store a) = refl
    of_want (Amo a) = word_part m (a - ram_start)
    of_want (Lr a) = word_part m (a - ram_start)
    of_want (Sc a) = refl
    of_want Input = refl

-- a write inside one block
inside_block : (w : Width) (a : ℕ) → a % bytes_of w ≡ 0 → ram_start ≤ a → (a - ram_start) % 64 + bytes_of w ≤ 64
inside_block Byte a e l = omega arith
inside_block Half a e l = omega arith
inside_block Word a e l = omega arith

stored_part : (m : List ℕ) (w : Width) (v a b : ℕ) → length m ≡ ram_size → ram_start ≤ a →
    a + bytes_of w ≤ ram_start + ram_size → a % bytes_of w ≡ 0 →
    part (stored_in m (a - ram_start) (little_bytes (bytes_of w) v)) b
    ≡ cond (b == block_of a) (stored_in (part m b) ((a - ram_start) % 64) (little_bytes (bytes_of w) v)) (part m b)
stored_part m w v a b size low high aligned =
    let o = a - ram_start in
    let n : length (little_bytes (bytes_of w) v) ≡ bytes_of w = length-bytes_low_first 0 (bytes_of w) v in
    let i = inside_block w a aligned low in
    let e : o ≡ 64 * (o / 64) + o % 64 = omega arith in
    ap (λ p. part (stored_in m p (little_bytes (bytes_of w) v)) b) e
    ∙ part-stored_in m (little_bytes (bytes_of w) v) (o / 64) (o % 64) (omega arith) (omega arith) b

pub store_block : (m : List ℕ) (w : Width) (v a b : ℕ) → length m ≡ ram_size → ram_start ≤ a →
    a + bytes_of w ≤ ram_start + ram_size → a % bytes_of w ≡ 0 →
    block_in (stored_in m (a - ram_start) (little_bytes (bytes_of w) v)) b
    ≡ cond (b == block_of a) (stored_in (block_in m b) ((a - ram_start) % 64) (little_bytes (bytes_of w) v)) (block_in m b)
unfolding block_in
store_block = stored_part

-- what a step writes into memory, by blocks
module _ (image : ImageData) (c : CoreState) (r : Record) (m : List ℕ) (size : length m ≡ ram_size) where
  pub written_block : (b : ℕ) → block_in (memory_after_write m (next_of image c r.seen r.sc_done r.read).effect.write) b
      ≡ cond (writes (kind image c) r.sc_done && (b == block image c)) (content_after image c r (block_in m b)) (block_in m b)
  unfolding kind block content_after block_in
  written_block b =
      of_write (next_of image c r.seen r.sc_done r.read).effect.write (writes (kind_of (want_of image c)) r.sc_done)
      (address_of (want_of image c)) (write_fits image c r.seen r.sc_done r.read)
    where
      of_write : (w : Option Write) (q : Bool) (a : ℕ) → WriteFits a q w →
          part (memory_after_write m w) b ≡ cond (q && (b == block_of a)) (write_block w (part m b)) (part m b)
      of_write None q a f = rw f refl
      of_write (Some w) q a f =
          let s = stored_part m w.width w.value w.address b size (rw f.1 f.2) (rw f.1 f.3) (rw f.1 f.4) in
          rw (f.0, ← f.1) s

  -- the size of the memory stays
  pub length-written : length (memory_after_write m (next_of image c r.seen r.sc_done r.read).effect.write) ≡ ram_size
  length-written =
      of_write (next_of image c r.seen r.sc_done r.read).effect.write (writes (kind_of (want_of image c)) r.sc_done)
      (address_of (want_of image c)) (write_fits image c r.seen r.sc_done r.read)
    where
      of_write : (w : Option Write) (q : Bool) (a : ℕ) → WriteFits a q w → length (memory_after_write m w) ≡ ram_size
      of_write None q a f = size
      of_write (Some w) q a f =
          let n : length (little_bytes (bytes_of w.width) w.value)
          ≡ bytes_of w.width = length-bytes_low_first 0 (bytes_of w.width) w.value in
          length-stored_in (w.address - ram_start) (little_bytes (bytes_of w.width) w.value) m (omega (arith, f.1, f.2, f.3)) ∙ size

-- what a step leaves of another core: its reservation of the block that is written is cleared
module _ (k : CoreState) where
  after_bare : (w : Option Write) → bare (after_write w k) ≡ bare k
  after_bare None = refl
  after_bare (Some w) = go (is_reserved k.reservation (block_of w.address))
    where
      go : (q : Bool) → bare (cond q (bare k) k) ≡ bare k
      go true = refl
      go false = refl

  lost : (o : Option ℕ) (b d : ℕ) → is_reserved (cond (is_reserved o b) None o) d ≡ (is_reserved o d && not (d == b))
  lost None b d = refl
  lost (Some e) b d = grind (arith, nat_tests)

  after_held : (w : Option Write) (q : Bool) (a d : ℕ) → WriteFits a q w →
      is_reserved (after_write w k).reservation d ≡ (is_reserved k.reservation d && not (q && (d == block_of a)))
  after_held None q a d f = rw f (grind arith)
  after_held (Some w) q a d f =
      rw (f.0, ← f.1) (go (is_reserved k.reservation (block_of w.address)) refl (lost k.reservation (block_of w.address) d))
    where
      go : (q : Bool) → is_reserved k.reservation (block_of w.address) ≡ q →
          is_reserved (cond (is_reserved k.reservation (block_of w.address)) None k.reservation) d
          ≡ (is_reserved k.reservation d && not (d == block_of w.address))
          → is_reserved (cond q (bare k) k).reservation d ≡ (is_reserved k.reservation d && not (d == block_of w.address))
      go true e h = rw e at h
      go false e h = rw e at h

module _ (image : ImageData) (c : CoreState) (r : Record) (k : CoreState) where
  pub cleared_bare : bare (after_write (next_of image c r.seen r.sc_done r.read).effect.write k) ≡ bare k
  cleared_bare = after_bare k (next_of image c r.seen r.sc_done r.read).effect.write

  pub cleared_held : (b : ℕ) →
      is_reserved (after_write (next_of image c r.seen r.sc_done r.read).effect.write k).reservation b
      ≡ (is_reserved k.reservation b && not (writes (kind image c) r.sc_done && (b == block image c)))
  unfolding kind block
  cleared_held b =
      after_held k (next_of image c r.seen r.sc_done r.read).effect.write (writes (kind_of (want_of image c)) r.sc_done)
      (address_of (want_of image c)) b (write_fits image c r.seen r.sc_done r.read)
