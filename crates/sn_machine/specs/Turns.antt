-- What a node's step comes to, before it is done.
use Rattle.std.specs.Prelude.{◌≡◌, ℕ, ◌+◌, ◌<◌, ◌≤◌, ◌++◌, ◌%◌, true, false, map, Option, Some, None, Result, IfOk, ⊤}
use Rattle.sn_base.specs.Blocks.{ram_start, ram_size, bytes_of}
use Rattle.sn_base.specs.Image.{ImageData, word_fetched}
use Rattle.sn_base.specs.declared.block.Write.{Write as Written}
use Rattle.sn_base.specs.declared.config.Config.{Config}
use Rattle.sn_base.specs.declared.event.Answer.TheVariants.{Missed, Retired as WasRetired, NoInput}
use Rattle.output_commit.specs.Output.{Output}
use Rattle.rv_decode.specs.declared.instr.Instr.{Instr}
use Rattle.rv_decode.specs.Table.{instr_fits}
use Rattle.rv_core.specs.declared.state.Cause.{Cause}
use Rattle.rv_core.specs.Core.{block_of, is_reserved, is_running}
use Rattle.rv_core.specs.Step.{instruction_of}
use Rattle.sn_model.specs.declared.cache.Need.{Need}
use Rattle.sn_model.specs.declared.cache.Need.TheVariants.{Write}
use Rattle.sn_model.specs.Fabric.{Fabric, node_at}
use Rattle.sn_model.specs.Fabric as fabric
use Rattle.sn_model.specs.Access.{step_of_access, lacks_room, has_miss}
use Rattle.sn_model.specs.Machine.{State, processor_at}
use Rattle.sn_model.specs.Instructions.{FoundOutside, MachineStep, nothing_found, next_byte, is_retired, machine_step_refused, machine_step_of, step_of_retirement, record_with}
use Rattle.sn_model.specs.Instructions.{found_at, held_in}
use Rattle.consistent_cuts.specs.Events.{CanWrite}
use Rattle.consistent_cuts.specs.Accesses.{CanRetire}
use Rattle.sn_machine.specs.Parts.{held_as}
use Rattle.sn_machine.specs.declared.steps.NodeStep.{NodeStep}
use Rattle.sn_machine.specs.declared.steps.NodeStep.TheVariants.{Retires, Misses, Refused}

-- node n may do its next instruction, whichever it is: its core runs, and it waits for no block
pub record MayGoOn (s : State) (n : ℕ) : Type 0 where
  pub running : is_running (processor_at s n).core.end ≡ true
  pub no_miss : has_miss (node_at s.fabric n).cache.miss ≡ false

-- the instruction of the word at the program counter of node n's core, or why there is none
pub record IsNext (image : ImageData) (s : State) (n : ℕ) (instruction : Result Instr Cause) : Type 0 where
  pub same : instruction ≡ instruction_of (word_fetched image.segments (processor_at s n).core.pc)
  pub fits : IfOk instruction (λ instr. instr_fits instr ≡ true)

-- a step of node n that comes to x: it retires, it misses, or it is refused
abbrev pub ComesTo : ImageData → Config → State → ℕ → MachineStep → NodeStep → Type 0
ComesTo image config s n x (Retires did) = CanRetire image config s n × (did ≡ record_with n (found_at image s n)) × (x ≡ step_of_retirement image s n)
ComesTo image config s n x (Misses block need) =
    ((step_of_access config s.fabric n block need).answer ≡ Missed) × (x ≡ machine_step_of s (step_of_access config s.fabric n block need))
ComesTo image config s n x (Refused answer) = x ≡ machine_step_refused s answer

-- the same of an access of a block that an instruction wants, with what it finds
abbrev pub IsAccess : Config → Fabric → ℕ → ℕ → Need → FoundOutside → NodeStep → Type 0
IsAccess config s n block need found (Retires did) = ((step_of_access config s n block need).answer ≡ WasRetired) × (did ≡ record_with n found)
IsAccess config s n block need found (Misses b k) = (b ≡ block) × (k ≡ need) × ((step_of_access config s n block need).answer ≡ Missed)
IsAccess config s n block need found (Refused answer) =
    (is_retired answer ≡ false) × (step_of_access config s n block need ≡ fabric.step_refused s answer)

-- of a store-conditional: where the core hasn't reserved the block, it retires without an access
abbrev pub conditional : Config → State → ℕ → ℕ → NodeStep → Type 0
conditional config s n address turn = IsAccess config s.fabric n (block_of address) Write (record nothing_found { sc_done = true }) turn

pub record IsConditional (config : Config) (s : State) (n address : ℕ) (turn : NodeStep) : Type 0 where
  pub done : is_reserved (processor_at s n).core.reservation (block_of address) ≡ true → conditional config s n address turn
  pub undone : is_reserved (processor_at s n).core.reservation (block_of address) ≡ false → turn ≡ Retires (record_with n nothing_found)

-- of an input: the next byte, where one is left
abbrev pub input_turn : ℕ → Option ℕ → NodeStep
input_turn n None = Refused NoInput
input_turn n (Some byte) = Retires (record_with n (record nothing_found { read = Some byte }))

abbrev pub IsInput : State → ℕ → NodeStep → Type 0
IsInput s n turn = turn ≡ input_turn n (next_byte s n)

-- what is written, if anything, can be: its line may be written, at an aligned address of memory, and the log has the room
pub record CanBeWritten (config : Config) (s : Fabric) (n : ℕ) (w : Written) : Type 0 where
  pub low : ram_start ≤ w.address
  pub high : w.address < ram_start + ram_size
  pub aligned : w.address % bytes_of w.width ≡ 0
  pub can : CanWrite s n w
  pub room : lacks_room config (node_at s n) (block_of w.address) Write ≡ false

abbrev pub CanWriteAny : Config → Fabric → ℕ → Option Written → Type 0
CanWriteAny config s n None = ⊤
CanWriteAny config s n (Some w) = CanBeWritten config s n w

-- a byte that is put out, if any, is held
pub record PutsOut (before after : Output) (interval : ℕ) (out : Option ℕ) : Type 0 where
  pub held : map held_as after.held ≡ map held_as before.held ++ held_in interval out
  pub released : after.released ≡ before.released
  pub room : before.room ≤ after.room + 1
