-- What a store-conditional would write is what it writes where it is done.
use Rattle.std.proofs.Common.{◌≡◌, ℕ, Bool, true, false, refl, ap, ◌∙◌, Option, Some, None, Result, Ok, Err}
use Rattle.std.specs.Prelude.{nat_eq, if◌then◌else◌}
use Rattle.sn_base.specs.Image.{ImageData}
use Rattle.sn_base.specs.declared.block.Width.{Width}
use Rattle.sn_base.specs.declared.block.Width.TheVariants.{Word}
use Rattle.sn_base.specs.declared.block.Write.{Write}
use Rattle.rv_decode.specs.declared.instr.Instr.{Instr}
use Rattle.rv_decode.specs.declared.instr.Instr.TheVariants.{Lui, Auipc, Jal, Jalr, Branch, Load, Store, OpImm, Op, Fence, Ecall, Ebreak}
use Rattle.rv_decode.specs.declared.instr.Instr.TheVariants.{Lr, Sc, Amo}
use Rattle.rv_core.specs.declared.state.CoreState.{CoreState}
use Rattle.rv_core.specs.declared.state.Cause.{Cause}
use Rattle.rv_core.specs.declared.step.Record.{Record}
use Rattle.rv_core.specs.declared.step.Want.{Want}
use Rattle.rv_core.specs.declared.step.Want.TheVariants as wanted
use Rattle.rv_core.specs.Arithmetic.{as_word}
use Rattle.rv_core.specs.Core.{register}
use Rattle.rv_core.specs.Access.{width_of, fault_of}
use Rattle.rv_core.specs.Step.{Next, next_of, want_of, wants_next, wants_unless, does_next, unless_fault, address_in}
use Rattle.access_check.specs.declared.access.Access.{Access}
use Rattle.access_check.specs.Executions.{access_by, access_of, load_width, next_instruction, written_if}
use Rattle.committed_accesses.specs.Cores.{attempt_of}

module _ (image : ImageData) (c : CoreState) (width : Width) (write : Option Write) (core seen : ℕ) (done : Bool) (read : Option ℕ) where
  -- by this instruction the same access comes of what the store-conditional would write and of what it writes if done
  abbrev Agrees : Result Instr Cause → Type 0
  Agrees i =
      access_by (wants_next image i c) width write (attempt_of (wants_next image i c) i c) core seen done
      ≡ access_by (wants_next image i c) width write (does_next image i c seen true read).effect.write core seen done

  by_fault : (i : Result Instr Cause) (next : Next) (want : Want) (o : Option Cause) →
      (access_by want width write (attempt_of want i c) core seen done ≡ access_by want width write next.effect.write core seen done) →
      access_by (wants_unless o want) width write (attempt_of (wants_unless o want) i c) core seen done
      ≡ access_by (wants_unless o want) width write (unless_fault o c next).effect.write core seen done
  by_fault i next want None e = e
  by_fault i next want (Some cause) e = refl

  by_call : (test : Bool) (attempt : Option Write) →
      access_by (if test then wanted.Input else wanted.Nothing) width write (attempt_of (if test then wanted.Input else wanted.Nothing) (Ok Ecall) c) core seen done
      ≡ access_by (if test then wanted.Input else wanted.Nothing) width write attempt core seen done
  by_call true attempt = refl
  by_call false attempt = refl

  agrees : (i : Result Instr Cause) → Agrees i
  agrees (Err cause) = refl
  agrees (Ok (Lui rd imm)) = refl
  agrees (Ok (Auipc rd imm)) = refl
  agrees (Ok (Jal rd offset)) = refl
  agrees (Ok (Jalr rd rs1 imm)) = refl
  agrees (Ok (Branch o rs1 rs2 offset)) = refl
  agrees (Ok (Load o rd rs1 imm)) = by_fault (Ok (Load o rd rs1 imm)) _ _ (fault_of image (width_of o) false (address_in c rs1 (as_word imm))) refl
  agrees (Ok (Store o rs1 rs2 imm)) = by_fault (Ok (Store o rs1 rs2 imm)) _ _ (fault_of image o true (address_in c rs1 (as_word imm))) refl
  agrees (Ok (OpImm o rd rs1 imm)) = refl
  agrees (Ok (Op o rd rs1 rs2)) = refl
  agrees (Ok Fence) = refl
  agrees (Ok Ecall) = by_call (nat_eq (register c 17) 2) _
  agrees (Ok Ebreak) = refl
  agrees (Ok (Lr rd rs1)) = by_fault (Ok (Lr rd rs1)) _ _ (fault_of image Word false (register c rs1)) refl
  agrees (Ok (Sc rd rs1 rs2)) = by_fault (Ok (Sc rd rs1 rs2)) _ _ (fault_of image Word true (register c rs1)) refl
  agrees (Ok (Amo o rd rs1 rs2)) = by_fault (Ok (Amo o rd rs1 rs2)) _ _ (fault_of image Word true (register c rs1)) refl

pub attempt_agrees : (image : ImageData) (c : CoreState) (r : Record) →
    access_by (want_of image c) (load_width (next_instruction image c)) (written_if image c r r.sc_done)
    (attempt_of (want_of image c) (next_instruction image c) c) r.core r.seen r.sc_done
    ≡ access_of image c r
unfolding want_of next_of
attempt_agrees image c r =
    agrees image c (load_width (next_instruction image c)) (written_if image c r r.sc_done) r.core r.seen r.sc_done r.read
    (next_instruction image c)

-- so the access that is put together of these is the record's
pub did_access : (image : ImageData) (c : CoreState) (r : Record) (i : Result Instr Cause) (w : Want) (width : Width) (write attempt : Option Write) (found : Option Access) →
    i ≡ next_instruction image c → w ≡ wants_next image i c → width ≡ load_width i →
    write ≡ (does_next image i c r.seen r.sc_done r.read).effect.write → attempt ≡ attempt_of w i c →
    found ≡ access_by w width write attempt r.core r.seen r.sc_done → found ≡ access_of image c r
unfolding want_of next_of
did_access image c r i w width write attempt found i_is w_is width_is write_is attempt_is found_is =
    found_is
    ∙ ap (λ (x : Option Write). access_by w width write x r.core r.seen r.sc_done) attempt_is
    ∙ ap (λ (x : Option Write). access_by w width x (attempt_of w i c) r.core r.seen r.sc_done) write_is
    ∙ ap (λ (x : Width). access_by w x (does_next image i c r.seen r.sc_done r.read).effect.write (attempt_of w i c) r.core r.seen r.sc_done) width_is
    ∙ ap (λ (x : Want). access_by x (load_width i) (does_next image i c r.seen r.sc_done r.read).effect.write (attempt_of x i c) r.core r.seen r.sc_done) w_is
    ∙ ap (λ (x : Result Instr Cause). access_by (wants_next image x c) (load_width x) (does_next image x c r.seen r.sc_done r.read).effect.write
    (attempt_of (wants_next image x c) x c) r.core r.seen r.sc_done) i_is
    ∙ attempt_agrees image c r
