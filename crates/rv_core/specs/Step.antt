-- A core's step: what the next instruction wants, and the next core with what the instruction does outside. Sums are
-- modulo 2^32. (RISC-V Unprivileged ISA, "RV32I Base Integer Instruction Set" and "A" Standard Extension.)
use Rattle.std.specs.Prelude.{ℕ, ◌+◌, ◌*◌, ◌/◌, ◌%◌, ◌^◌, Bool, true, false, nat_eq, if◌then◌else◌, Option, Some, None, Result, Ok, Err}
use Rattle.std.specs.Prelude.{ok_or, unwrap_or}
use Rattle.sn_base.specs.Image.{ImageData, word_fetched}
use Rattle.sn_base.specs.declared.block.Width.{Width}
use Rattle.sn_base.specs.declared.block.Width.TheVariants.{Word}
use Rattle.rv_decode.specs.declared.instr.Instr.{Instr}
use Rattle.rv_decode.specs.declared.instr.Instr.TheVariants.{Lui, Auipc, Jal, Jalr, Branch, Load, Store, OpImm, Op, Fence, Ecall, Ebreak}
use Rattle.rv_decode.specs.declared.instr.Instr.TheVariants.{Lr, Sc, Amo}
use Rattle.rv_decode.specs.Decoded.{instruction_at}
use Rattle.rv_core.specs.declared.state.CoreState.{CoreState}
use Rattle.rv_core.specs.declared.state.End.TheVariants.{Exited}
use Rattle.rv_core.specs.declared.state.Cause.{Cause}
use Rattle.rv_core.specs.declared.state.Cause.TheVariants.{Illegal, FetchFault, MisalignedTarget, UnknownCall, Break}
use Rattle.rv_core.specs.declared.step.Want.{Want}
use Rattle.rv_core.specs.declared.step.Want.TheVariants.{Nothing, Load as LoadAt, Store as StoreAt, Amo as AmoAt, Lr as LrAt, Sc as ScAt}
use Rattle.rv_core.specs.declared.step.Want.TheVariants.{Input}
use Rattle.rv_core.specs.declared.step.Effect.{Effect}
use Rattle.rv_core.specs.Core.{register, with_register, core_with_trap, block_of}
use Rattle.rv_core.specs.Arithmetic.{sum, as_word, is_taken, imm_result, reg_result, amo_result, load_result}
use Rattle.rv_core.specs.Access.{width_of, fault_of}

-- the next core, and what the instruction does outside
pub record Next : Type 0 where
  pub core : CoreState
  pub effect : Effect

abbrev pub quiet : Effect
quiet = record { write = None; out = None }

-- the core alone changes
abbrev pub becomes : CoreState → Next
becomes core = record { core = core; effect = quiet }

-- the core changes and writes memory
abbrev pub writing : CoreState → ℕ → Width → ℕ → Next
writing core address width value =
    record { core = core; effect = record { write = Some (record { address = address; width = width; value = value }); out = None } }

-- the address of the next instruction in order
abbrev pub after : CoreState → ℕ
after core = (core.pc + 4) % 2 ^ 32

-- the core at the next instruction in order, alone or with a register written
abbrev pub core_in_order : CoreState → CoreState
core_in_order core = record core { pc = after core }

abbrev pub gets : CoreState → ℕ → ℕ → CoreState
gets core rd value = record core { pc = after core; x = with_register core rd value }

-- a taken branch, and a jump with its link; the target is a multiple of 4
abbrev pub branches : CoreState → ℕ → CoreState
branches core target = if nat_eq (target % 4) 0 then record core { pc = target } else core_with_trap core MisalignedTarget

abbrev pub jumps : CoreState → ℕ → ℕ → CoreState
jumps core rd target =
    if nat_eq (target % 4) 0 then record core { pc = target; x = with_register core rd (after core) } else core_with_trap core MisalignedTarget

-- the address of an access, and a jump's target without its lowest bit
abbrev pub address_in : CoreState → ℕ → ℕ → ℕ
address_in core rs1 imm = sum (register core rs1) imm

abbrev pub even : ℕ → ℕ
even n = n / 2 * 2

-- LR reads a word and reserves its block
abbrev pub reserves : CoreState → ℕ → ℕ → ℕ → CoreState
reserves core rd address seen = record (gets core rd seen) { reservation = Some (block_of address) }

-- SC gives 0 where it is done, and else 1; the reservation is gone in both cases
abbrev pub ends_reserved : CoreState → ℕ → ℕ → CoreState
ends_reserved core rd failed = record (gets core rd failed) { reservation = None }

abbrev pub conditionally : Bool → CoreState → ℕ → ℕ → ℕ → Next
conditionally true core rd address value = writing (ends_reserved core rd 0) address Word value
conditionally false core rd address value = becomes (ends_reserved core rd 1)

-- the low byte of a0 is put out
abbrev pub put_out : CoreState → Next
put_out core = record { core = core_in_order core; effect = record { write = None; out = Some (register core 10 % 256) } }

-- the byte read is in a0
abbrev pub took_in : CoreState → Option ℕ → CoreState
took_in core read = gets core 10 (unwrap_or read 0)

-- a call by its number in a7: 1 puts a byte out, 2 reads one, 93 ends the core with the code in a0
abbrev pub next_of_call : CoreState → Option ℕ → Next
next_of_call core read =
    if nat_eq (register core 17) 1 then put_out core
    else if nat_eq (register core 17) 2 then becomes (took_in core read)
    else if nat_eq (register core 17) 93 then becomes (record core { end = Exited (register core 10) })
    else becomes (core_with_trap core UnknownCall)

-- an access, where it doesn't trap
abbrev pub unless_fault : Option Cause → CoreState → Next → Next
unless_fault None core next = next
unless_fault (Some cause) core next = becomes (core_with_trap core cause)

-- each instruction, with the word seen, whether a store-conditional is done, and the byte read
abbrev pub does : ImageData → Instr → CoreState → ℕ → Bool → Option ℕ → Next
does image (Lui rd imm) core seen sc_done read = becomes (gets core rd imm)
does image (Auipc rd imm) core seen sc_done read = becomes (gets core rd (sum core.pc imm))
does image (Jal rd offset) core seen sc_done read = becomes (jumps core rd (sum core.pc (as_word offset)))
does image (Jalr rd rs1 imm) core seen sc_done read = becomes (jumps core rd (even (address_in core rs1 (as_word imm))))
does image (Branch op rs1 rs2 offset) core seen sc_done read =
    becomes (if is_taken op (register core rs1) (register core rs2) then branches core (sum core.pc (as_word offset)) else core_in_order core)
does image (Load op rd rs1 imm) core seen sc_done read =
    unless_fault (fault_of image (width_of op) false (address_in core rs1 (as_word imm))) core
    (becomes (gets core rd (load_result op (address_in core rs1 (as_word imm)) seen)))
does image (Store width rs1 rs2 imm) core seen sc_done read =
    unless_fault (fault_of image width true (address_in core rs1 (as_word imm))) core
    (writing (core_in_order core) (address_in core rs1 (as_word imm)) width (register core rs2))
does image (OpImm op rd rs1 imm) core seen sc_done read = becomes (gets core rd (imm_result op (register core rs1) (as_word imm)))
does image (Op op rd rs1 rs2) core seen sc_done read = becomes (gets core rd (reg_result op (register core rs1) (register core rs2)))
does image Fence core seen sc_done read = becomes (core_in_order core)
does image Ecall core seen sc_done read = next_of_call core read
does image Ebreak core seen sc_done read = becomes (core_with_trap core Break)
does image (Lr rd rs1) core seen sc_done read =
    unless_fault (fault_of image Word false (register core rs1)) core (becomes (reserves core rd (register core rs1) seen))
does image (Sc rd rs1 rs2) core seen sc_done read =
    unless_fault (fault_of image Word true (register core rs1)) core (conditionally sc_done core rd (register core rs1) (register core rs2))
does image (Amo op rd rs1 rs2) core seen sc_done read =
    unless_fault (fault_of image Word true (register core rs1)) core
    (writing (gets core rd seen) (register core rs1) Word (amo_result op seen (register core rs2)))

-- the instruction of the word at the program counter, or why there is none
abbrev pub instruction_of : Option ℕ → Result Instr Cause
instruction_of None = Err FetchFault
instruction_of (Some word) = ok_or (instruction_at word) Illegal

abbrev pub does_next : ImageData → Result Instr Cause → CoreState → ℕ → Bool → Option ℕ → Next
does_next image (Ok instr) core seen sc_done read = does image instr core seen sc_done read
does_next image (Err cause) core seen sc_done read = becomes (core_with_trap core cause)

-- the next core, with the word seen, whether a store-conditional is done, and the byte read
unfoldable pub next_of : ImageData → CoreState → ℕ → Bool → Option ℕ → Next
next_of image core seen sc_done read = does_next image (instruction_of (word_fetched image.segments core.pc)) core seen sc_done read

-- an access is wanted where it doesn't trap
abbrev pub wants_unless : Option Cause → Want → Want
wants_unless None want = want
wants_unless (Some cause) want = Nothing

abbrev pub wants : ImageData → Instr → CoreState → Want
wants image (Load op rd rs1 imm) core =
    wants_unless (fault_of image (width_of op) false (address_in core rs1 (as_word imm))) (LoadAt (address_in core rs1 (as_word imm)))
wants image (Store width rs1 rs2 imm) core =
    wants_unless (fault_of image width true (address_in core rs1 (as_word imm))) (StoreAt (address_in core rs1 (as_word imm)))
wants image Ecall core = if nat_eq (register core 17) 2 then Input else Nothing
wants image (Lr rd rs1) core = wants_unless (fault_of image Word false (register core rs1)) (LrAt (register core rs1))
wants image (Sc rd rs1 rs2) core = wants_unless (fault_of image Word true (register core rs1)) (ScAt (register core rs1))
wants image (Amo op rd rs1 rs2) core = wants_unless (fault_of image Word true (register core rs1)) (AmoAt (register core rs1))
wants image _ core = Nothing

abbrev pub wants_next : ImageData → Result Instr Cause → CoreState → Want
wants_next image (Ok instr) core = wants image instr core
wants_next image (Err cause) core = Nothing

-- what the next instruction wants
unfoldable pub want_of : ImageData → CoreState → Want
want_of image core = wants_next image (instruction_of (word_fetched image.segments core.pc)) core
