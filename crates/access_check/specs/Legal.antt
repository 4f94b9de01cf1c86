-- Which accesses are legal: memory block by block, as the law of projections sees it, and each core's reservation.
use Rattle.std.specs.Prelude.{◌≡◌, ℕ, ◌-◌, ◌*◌, ◌/◌, ◌%◌, ◌^◌, ◌<◌, Bool, true, false, not, ◌&&◌, ◌||◌, if◌then◌else◌, ◌==◌, List, [], ◌∷◌}
use Rattle.std.specs.Prelude.{length, take, slice_get, Option, Some, None, is_some, IfSome, replicate, ⊤}
use Rattle.byteorder.specs.Endian.{little_bytes}
use Rattle.sn_base.specs.Blocks.{ram_start, ram_size, bytes_of, stored_in}
use Rattle.sn_base.specs.declared.block.Width.{Width}
use Rattle.rv_core.specs.Core.{block_of, is_reserved}
use Rattle.sn_consistency.specs.Words.{Content, block_word, write_block, block_in}
use Rattle.sn_consistency.specs.Projections.{BlockState}
use Rattle.access_check.specs.declared.access.Access.{Access}
use Rattle.access_check.specs.declared.access.StartWord.{StartWord}
use Rattle.access_check.specs.Accesses.{seen_by, written_by, write_of, is_lr, is_sc, is_done}

-- memory as its accesses leave it: each block by itself, and the block that each core has reserved by its own accesses
pub record MemoryState : Type 0 where
  pub blocks : ℕ → BlockState
  pub reserved : ℕ → Option ℕ

-- the bytes from an address on of the aligned word that holds it, as a number: what a load gives of the word that it saw
abbrev pub part_of : ℕ → ℕ → Width → ℕ
part_of word address width = word / 2 ^ (8 * (address % 4)) % 2 ^ (8 * bytes_of width)

-- the value that a block has where an access is
abbrev pub value_in : Content → Access → ℕ
value_in content a = part_of (block_word content ((a.address - ram_start) % 64 / 4 * 4)) a.address a.width

-- whether it writes block b
abbrev pub writes_to : Access → ℕ → Bool
writes_to a b = is_some (written_by a.operation) && (b == block_of a.address)

-- a block after an access to it or to another: what the writes so far leave, and for which core no other has written it
-- since that core's last LR of it
abbrev pub block_after : ℕ → BlockState → Access → BlockState
block_after b v a = record {
  content = if writes_to a b then write_block (write_of a) v.content else v.content;
  intact = λ n.
      if n == a.core then v.intact n || (is_lr a.operation && (b == block_of a.address))
      else v.intact n && not (writes_to a b);
}

-- a core's reservation after an access of its own: LR sets it to its block, SC clears it, done or not
abbrev pub reserved_after : Option ℕ → Access → Option ℕ
reserved_after old a = if is_lr a.operation then Some (block_of a.address) else if is_sc a.operation then None else old

-- memory after an access
abbrev pub memory_after : MemoryState → Access → MemoryState
memory_after m a = record {
  blocks = λ b. block_after b (m.blocks b) a;
  reserved = λ n. if n == a.core then reserved_after (m.reserved n) a else m.reserved n;
}

-- a read finds what the earlier writes leave; an SC that was done has its core's reservation, and no other core has
-- written the block since that core's last LR of it; a failed SC is always legal
pub record IsLegal (m : MemoryState) (a : Access) : Type 0 where
  pub seen : IfSome (seen_by a.operation) (λ value. value ≡ value_in (m.blocks (block_of a.address)).content a)
  pub reserved : is_done a.operation ≡ true → is_reserved (m.reserved a.core) (block_of a.address) ≡ true
  pub intact : is_done a.operation ≡ true → (m.blocks (block_of a.address)).intact a.core ≡ true

-- each in turn is legal
abbrev pub AreLegal : MemoryState → List Access → Type 0
AreLegal m [] = ⊤
AreLegal m (a ∷ accesses) = IsLegal m a × AreLegal (memory_after m a) accesses

-- memory after all of them
abbrev pub memory_after_all : MemoryState → List Access → MemoryState
memory_after_all m [] = m
memory_after_all m (a ∷ accesses) = memory_after_all (memory_after m a) accesses

-- the access at place p is the first that isn't legal after those before it
pub record IsFirstRefused (m : MemoryState) (accesses : List Access) (p : ℕ) : Type 0 where
  pub within : p < length accesses
  pub before : AreLegal m (take p accesses)
  pub none : (a : Access) → slice_get accesses p ≡ Some a → IsLegal (memory_after_all m (take p accesses)) a → ⊥

-- memory of these bytes before any access
abbrev pub memory_of : List ℕ → MemoryState
memory_of bytes = record {
  blocks = λ b. record { content = block_in bytes b; intact = λ n. false };
  reserved = λ n. None;
}

-- memory's bytes with words stored in them, one after another
abbrev pub with_words : List ℕ → List StartWord → List ℕ
with_words bytes [] = bytes
with_words bytes (w ∷ words) = with_words (stored_in bytes (w.address - ram_start) (little_bytes 4 w.word)) words

-- zeros in all of memory
unfoldable pub zeros : List ℕ
zeros = replicate ram_size 0

-- memory before the first access: these words, and 0 elsewhere
abbrev pub start_of : List StartWord → MemoryState
start_of words = memory_of (with_words zeros words)
