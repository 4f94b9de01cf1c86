-- The accesses of a trace: what each record's instruction does in memory.
use Rattle.std.specs.Prelude.{ℕ, ◌*◌, ◌%◌, ◌^◌, Bool, true, false, List, [], ◌∷◌, ◌++◌, Option, Some, None, Result, Ok, option_to_list}
use Rattle.sn_base.specs.Blocks.{bytes_of}
use Rattle.sn_base.specs.Image.{ImageData, word_fetched}
use Rattle.sn_base.specs.declared.block.Width.{Width}
use Rattle.sn_base.specs.declared.block.Width.TheVariants.{Word}
use Rattle.sn_base.specs.declared.block.Write.{Write}
use Rattle.rv_decode.specs.declared.instr.Instr.{Instr}
use Rattle.rv_decode.specs.declared.instr.Instr.TheVariants.{Load as LoadInstr}
use Rattle.rv_core.specs.declared.state.CoreState.{CoreState}
use Rattle.rv_core.specs.declared.state.Cause.{Cause}
use Rattle.rv_core.specs.declared.step.Record.{Record}
use Rattle.rv_core.specs.declared.step.Want.{Want}
use Rattle.rv_core.specs.declared.step.Want.TheVariants as wants
use Rattle.rv_core.specs.Access.{width_of}
use Rattle.rv_core.specs.Flat.{flat_start, core_at}
use Rattle.rv_core.specs.Step.{want_of, next_of, instruction_of}
use Rattle.sn_consistency.specs.Projections.{core_step}
use Rattle.access_check.specs.declared.access.Access.{Access}
use Rattle.access_check.specs.declared.access.Operation.{Operation}
use Rattle.access_check.specs.declared.access.Operation.TheVariants.{Read, Write as Wrote, Lr, Sc, ScFail, Amo}
use Rattle.access_check.specs.Legal.{part_of}

-- how many bytes a load reads
abbrev pub load_width : Result Instr Cause → Width
load_width (Ok (LoadInstr op rd rs1 imm)) = width_of op
load_width _ = Word

-- the low bytes of a value, as a number
abbrev pub low_of : Width → ℕ → ℕ
low_of width value = value % 2 ^ (8 * bytes_of width)

-- an access of this core, at this address
abbrev pub access_at : ℕ → ℕ → Width → Operation → Option Access
access_at core address width operation = Some (record { core = core; address = address; width = width; operation = operation })

-- an access that writes, or would write
abbrev pub writing_at : ℕ → ℕ → (Width → ℕ → Operation) → Option Write → Option Access
writing_at core address operation None = None
writing_at core address operation (Some w) = access_at core address w.width (operation w.width (low_of w.width w.value))

-- a store-conditional that was done, or failed
abbrev pub sc_of : Bool → ℕ → Operation
sc_of true value = Sc value
sc_of false value = ScFail value

-- the access of an instruction that wants this: by the width of a load, by what the instruction writes, and would write
-- if it were a store-conditional that is done, and by its core, the word that it saw, and whether it is one that is done
abbrev pub access_by : Want → Width → Option Write → Option Write → ℕ → ℕ → Bool → Option Access
access_by wants.Nothing width write attempt core seen done = None
access_by (wants.Load address) width write attempt core seen done = access_at core address width (Read (part_of seen address width))
access_by (wants.Store address) width write attempt core seen done = writing_at core address (λ w value. Wrote value) write
access_by (wants.Amo address) width write attempt core seen done =
    writing_at core address (λ w value. Amo value (part_of seen address w)) write
access_by (wants.Lr address) width write attempt core seen done = access_at core address Word (Lr (part_of seen address Word))
access_by (wants.Sc address) width write attempt core seen done = writing_at core address (λ w value. sc_of done value) attempt
access_by wants.Input width write attempt core seen done = None

-- what the instruction writes where a store-conditional is done, or isn't
abbrev pub written_if : ImageData → CoreState → Record → Bool → Option Write
written_if image c r done = (next_of image c r.seen done r.read).effect.write

-- the core's next instruction, or why there is none
abbrev pub next_instruction : ImageData → CoreState → Result Instr Cause
next_instruction image c = instruction_of (word_fetched image.segments c.pc)

-- the access of a record that this core does, if its instruction is one
abbrev pub access_of : ImageData → CoreState → Record → Option Access
access_of image c r =
    access_by (want_of image c) (load_width (next_instruction image c)) (written_if image c r r.sc_done)
    (written_if image c r true) r.core r.seen r.sc_done

-- the accesses of records, in their order, from these cores on
abbrev pub accesses_from : ImageData → (ℕ → CoreState) → List Record → List Access
accesses_from image c [] = []
accesses_from image c (r ∷ rs) =
    option_to_list (access_of image (c r.core) r) ++ accesses_from image (λ n. core_step image n (c n) r) rs

-- the accesses of a trace of a program on so many nodes
abbrev pub accesses_of : ImageData → ℕ → List Record → List Access
accesses_of image nodes rs = accesses_from image (core_at (flat_start image nodes)) rs
