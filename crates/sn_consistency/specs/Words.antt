-- The core's step as the proofs read it: what each instruction wants, of which block, and what it leaves. No proof but
-- those of the core's own laws opens these words.
use Rattle.std.specs.Prelude.{ℕ, ◌-◌, ◌*◌, ◌/◌, ◌%◌, Bool, true, false, List, take, drop, Option, Some, None, option_to_list}
use Rattle.byteorder.specs.Endian.{little_number, little_bytes}
use Rattle.sn_base.specs.Blocks.{ram_start, bytes_of, stored_in}
use Rattle.sn_base.specs.Image.{ImageData}
use Rattle.sn_base.specs.declared.block.Write.{Write}
use Rattle.rv_core.specs.declared.state.CoreState.{CoreState}
use Rattle.rv_core.specs.declared.step.Record.{Record}
use Rattle.rv_core.specs.declared.step.Want.{Want}
use Rattle.rv_core.specs.declared.step.Want.TheVariants.{Nothing, Load, Store, Amo, Lr, Sc, Input}
use Rattle.rv_core.specs.Core.{block_of}
use Rattle.rv_core.specs.Step.{want_of, next_of}

-- what an instruction wants, without the address
pub data Kind : Type 0 where
  Idle : Kind
  Loads : Kind
  Stores : Kind
  Swaps : Kind
  Reserves : Kind
  Tries : Kind
  Takes : Kind

unfoldable pub kind_of : Want → Kind
kind_of Nothing = Idle
kind_of (Load address) = Loads
kind_of (Store address) = Stores
kind_of (Amo address) = Swaps
kind_of (Lr address) = Reserves
kind_of (Sc address) = Tries
kind_of Input = Takes

unfoldable pub address_of : Want → ℕ
address_of Nothing = 0
address_of (Load address) = address
address_of (Store address) = address
address_of (Amo address) = address
address_of (Lr address) = address
address_of (Sc address) = address
address_of Input = 0

-- whether it reads a block
abbrev pub reads : Kind → Bool
reads Loads = true
reads Swaps = true
reads Reserves = true
reads _ = false

-- whether it writes a block: an SC where it is done
abbrev pub writes : Kind → Bool → Bool
writes Stores done = true
writes Swaps done = true
writes Tries done = done
writes _ done = false

abbrev pub is_lr : Kind → Bool
is_lr Reserves = true
is_lr _ = false

abbrev pub is_sc : Kind → Bool
is_sc Tries = true
is_sc _ = false

-- whether it takes a byte of the input
abbrev pub takes : Kind → Bool
takes Takes = true
takes _ = false

-- what the core's next instruction does, of which block, and at which place of the block its aligned word stands
unfoldable pub kind : ImageData → CoreState → Kind
kind image c = kind_of (want_of image c)

unfoldable pub block : ImageData → CoreState → ℕ
block image c = block_of (address_of (want_of image c))

unfoldable pub place : ImageData → CoreState → ℕ
place image c = (address_of (want_of image c) - ram_start) % 64 / 4 * 4

-- the core after it, by what the record says of it
unfoldable pub next : ImageData → CoreState → Record → CoreState
next image c r = (next_of image c r.seen r.sc_done r.read).core

-- the bytes that it puts out
unfoldable pub puts : ImageData → CoreState → Record → List ℕ
puts image c r = option_to_list (next_of image c r.seen r.sc_done r.read).effect.out

-- the bytes of a block
abbrev pub Content : Type 0
Content = List ℕ

-- the word at a place of a block
unfoldable pub block_word : Content → ℕ → ℕ
block_word v place = little_number 4 (drop place v)

-- a block after a write to it
abbrev pub write_block : Option Write → Content → Content
write_block None v = v
write_block (Some w) v = stored_in v ((w.address - ram_start) % 64) (little_bytes (bytes_of w.width) w.value)

-- what the instruction makes of the block that it wants to write
unfoldable pub content_after : ImageData → CoreState → Record → Content → Content
content_after image c r v = write_block (next_of image c r.seen r.sc_done r.read).effect.write v

-- block b of a memory
unfoldable pub block_in : List ℕ → ℕ → Content
block_in memory b = take 64 (drop (64 * b) memory)
