-- The laws of the core's step: a reservation plays no part in it but by `sc_done`, only LR and SC change it, and what is
-- written stands at the wanted address, aligned and in memory.
use Rattle.std.proofs.Common.{◌≡◌, ℕ, ◌+◌, ◌%◌, ◌≤◌, Bool, true, false, not, ◌&&◌, ◌||◌, Option, Some, None, Result, Ok, Err, arith, refl}
use Rattle.std.proofs.Common.{nat_eq, if◌then◌else◌}
use Rattle.std.proofs.lemmas.Bool.{eqb-true}
use Rattle.std.proofs.lemmas.Bool.Decides.{nat_tests}
use Rattle.sn_base.specs.Blocks.{ram_start, ram_size, bytes_of}
use Rattle.sn_base.specs.Image.{ImageData, word_fetched, all_writable}
use Rattle.sn_base.specs.declared.block.Width.{Width}
use Rattle.sn_base.specs.declared.block.Width.TheVariants.{Byte, Half, Word}
use Rattle.rv_decode.specs.declared.instr.Instr.{Instr}
use Rattle.rv_decode.specs.declared.instr.Instr.TheVariants.{Lui, Auipc, Jal, Jalr, Branch, Load, Store, OpImm, Op, Fence, Ecall, Ebreak}
use Rattle.rv_decode.specs.declared.instr.Instr.TheVariants.{Lr, Sc, Amo}
use Rattle.rv_core.specs.declared.state.CoreState.{CoreState}
use Rattle.rv_core.specs.declared.state.Cause.{Cause}
use Rattle.rv_core.specs.declared.state.Cause.TheVariants.{MisalignedAccess, AccessFault, UnknownCall}
use Rattle.rv_core.specs.declared.state.End.TheVariants.{Exited}
use Rattle.rv_core.specs.declared.step.Want.{Want}
use Rattle.rv_core.specs.declared.step.Want.TheVariants.{Nothing, Load as LoadAt, Store as StoreAt, Amo as AmoAt, Lr as LrAt, Sc as ScAt}
use Rattle.rv_core.specs.declared.step.Want.TheVariants.{Input}
use Rattle.rv_core.specs.Core.{bare, register, core_with_trap}
use Rattle.rv_core.specs.Arithmetic.{as_word}
use Rattle.rv_core.specs.Access.{width_of, fault_of, is_in_memory}
use Rattle.rv_core.specs.Step.{want_of, next_of, wants, wants_next, wants_unless, does, does_next, instruction_of, address_in}
use Rattle.rv_core.specs.Step.{conditionally, Next, unless_fault, becomes, put_out, took_in}
use Rattle.rv_core.specs.Wanted.{reservation_after, IsAddress, IsInside, WriteFits}

-- ---- what an instruction wants doesn't depend on the reservation

wants_bare : (image : ImageData) (instr : Instr) (c : CoreState) → wants image instr (bare c) ≡ wants image instr c
wants_bare image (Lui rd imm) c = refl
wants_bare image (Auipc rd imm) c = refl
wants_bare image (Jal rd offset) c = refl
wants_bare image (Jalr rd rs1 imm) c = refl
wants_bare image (Branch op rs1 rs2 offset) c = refl
wants_bare image (Load op rd rs1 imm) c = refl
wants_bare image (Store width rs1 rs2 imm) c = refl
wants_bare image (OpImm op rd rs1 imm) c = refl
wants_bare image (Op op rd rs1 rs2) c = refl
wants_bare image Fence c = refl
wants_bare image Ecall c = refl
wants_bare image Ebreak c = refl
wants_bare image (Lr rd rs1) c = refl
wants_bare image (Sc rd rs1 rs2) c = refl
wants_bare image (Amo op rd rs1 rs2) c = refl

wants_next_bare : (image : ImageData) (found : Result Instr Cause) (c : CoreState) →
    wants_next image found (bare c) ≡ wants_next image found c
wants_next_bare image (Ok instr) c = wants_bare image instr c
wants_next_bare image (Err cause) c = refl

pub want_bare : (image : ImageData) (c : CoreState) → want_of image (bare c) ≡ want_of image c
unfolding want_of
want_bare image c = wants_next_bare image (instruction_of (word_fetched image.segments c.pc)) c

-- ---- nor does what it does

-- the same but for the reservation
record Alike (a b : Next) : Type 0 where
  core : bare a.core ≡ bare b.core
  effect : a.effect ≡ b.effect

does_alike : (image : ImageData) (instr : Instr) (c : CoreState) (seen : ℕ) (done : Bool) (read : Option ℕ) →
    Alike (does image instr (bare c) seen done read) (does image instr c seen done read)
does_alike image (Lui rd imm) c seen done read = record { core = refl; effect = refl }
does_alike image (Auipc rd imm) c seen done read = record { core = refl; effect = refl }
does_alike image (Jal rd offset) c seen done read = record { core = grind arith; effect = refl }
does_alike image (Jalr rd rs1 imm) c seen done read = record { core = grind arith; effect = refl }
does_alike image (Branch op rs1 rs2 offset) c seen done read = record { core = grind arith; effect = refl }
does_alike image (Load op rd rs1 imm) c seen done read = record { core = grind arith; effect = grind arith }
does_alike image (Store width rs1 rs2 imm) c seen done read = record { core = grind arith; effect = grind arith }
does_alike image (OpImm op rd rs1 imm) c seen done read = record { core = refl; effect = refl }
does_alike image (Op op rd rs1 rs2) c seen done read = record { core = refl; effect = refl }
does_alike image Fence c seen done read = record { core = refl; effect = refl }
does_alike image Ecall c seen done read = record { core = grind arith; effect = grind arith }
does_alike image Ebreak c seen done read = record { core = refl; effect = refl }
does_alike image (Lr rd rs1) c seen done read = record { core = grind arith; effect = grind arith }
does_alike image (Sc rd rs1 rs2) c seen done read = record { core = grind arith; effect = grind arith }
does_alike image (Amo op rd rs1 rs2) c seen done read = record { core = grind arith; effect = grind arith }

does_next_alike : (image : ImageData) (found : Result Instr Cause) (c : CoreState) (seen : ℕ) (done : Bool) (read : Option ℕ) →
    Alike (does_next image found (bare c) seen done read) (does_next image found c seen done read)
does_next_alike image (Ok instr) c seen done read = does_alike image instr c seen done read
does_next_alike image (Err cause) c seen done read = record { core = refl; effect = refl }

pub next_bare : (image : ImageData) (c : CoreState) (seen : ℕ) (done : Bool) (read : Option ℕ) →
    bare (next_of image (bare c) seen done read).core ≡ bare (next_of image c seen done read).core
unfolding next_of
next_bare image c seen done read = (does_next_alike image (instruction_of (word_fetched image.segments c.pc)) c seen done read).core

pub effect_bare : (image : ImageData) (c : CoreState) (seen : ℕ) (done : Bool) (read : Option ℕ) →
    (next_of image (bare c) seen done read).effect ≡ (next_of image c seen done read).effect
unfolding next_of
effect_bare image c seen done read = (does_next_alike image (instruction_of (word_fetched image.segments c.pc)) c seen done read).effect

-- ---- the reservation, and what is written

-- what an instruction wants lies in memory, what it makes of the reservation follows from what it wants, and so does
-- whether it writes, and where
record IsLawful (want : Want) (c : CoreState) (done : Bool) (next : Next) : Type 0 where
  inside : IsInside want
  reservation : next.core.reservation ≡ reservation_after want c.reservation
  write : WriteFits want done next.effect.write

-- an access that doesn't trap lies in memory at a multiple of its width
no-fault : (aligned inside : Bool) → (if not aligned then Some MisalignedAccess else if inside then None else Some AccessFault) ≡ None →
    (aligned ≡ true) × (inside ≡ true)
no-fault true true e = (refl, refl)
no-fault true false e = cc
no-fault false inside e = cc

in-memory : (address : ℕ) (rest : Bool) → (is_in_memory address && rest) ≡ true → IsAddress address
in-memory address rest h = (grind (arith, nat_tests), grind (arith, nat_tests))

ends-inside : (width : Width) (address : ℕ) → address % bytes_of width ≡ 0 → IsAddress address →
    address + bytes_of width ≤ ram_start + ram_size
ends-inside Byte address a i = omega (arith, i.1)
ends-inside Half address a i = omega (arith, i.1)
ends-inside Word address a i = omega (arith, i.1)

record IsAccess (width : Width) (address : ℕ) : Type 0 where
  inside : IsAddress address
  aligned : address % bytes_of width ≡ 0
  ends : address + bytes_of width ≤ ram_start + ram_size

access-of : (image : ImageData) (width : Width) (writes : Bool) (address : ℕ) → fault_of image width writes address ≡ None →
    IsAccess width address
access-of image width writes address e =
    let rest : Bool = not writes || all_writable (bytes_of width) image.segments address in
    let h : _ = no-fault (nat_eq (address % bytes_of width) 0) (is_in_memory address && rest) e in
    let a : address % bytes_of width ≡ 0 = eqb-true (address % bytes_of width) 0 h.0 in
    let i : IsAddress address = in-memory address rest h.1 in
    record { inside = i; aligned = a; ends = ends-inside width address a i }

-- an access, where it may trap
unless : (fault : Option Cause) (want : Want) (c : CoreState) (done : Bool) (next : Next) → (fault ≡ None → IsLawful want c done next) →
    IsLawful (wants_unless fault want) c done (unless_fault fault c next)
unless None want c done next f = f refl
unless (Some cause) want c done next f = record { inside = tt; reservation = refl; write = refl }

conditionally-lawful : (done : Bool) (c : CoreState) (rd address value : ℕ) → IsAccess Word address →
    IsLawful (ScAt address) c done (conditionally done c rd address value)
conditionally-lawful true c rd address value a =
    record { inside = a.inside; reservation = refl; write = (refl, refl, a.inside.0, a.ends, a.aligned) }
conditionally-lawful false c rd address value a = record { inside = a.inside; reservation = refl; write = refl }

called-lawful : (one two three : Bool) (c : CoreState) (done : Bool) (read : Option ℕ)
    → IsLawful (if two then Input else Nothing) c done
    (if one then put_out c else if two then becomes (took_in c read) else if three then becomes (record c { end = Exited (register c 10) })
    else becomes (core_with_trap c UnknownCall))
called-lawful true true three c done read = record { inside = tt; reservation = refl; write = refl }
called-lawful true false three c done read = record { inside = tt; reservation = refl; write = refl }
called-lawful false true three c done read = record { inside = tt; reservation = refl; write = refl }
called-lawful false false true c done read = record { inside = tt; reservation = refl; write = refl }
called-lawful false false false c done read = record { inside = tt; reservation = refl; write = refl }

lawful : (image : ImageData) (instr : Instr) (c : CoreState) (seen : ℕ) (done : Bool) (read : Option ℕ) →
    IsLawful (wants image instr c) c done (does image instr c seen done read)
lawful image (Lui rd imm) c seen done read = record { inside = tt; reservation = refl; write = refl }
lawful image (Auipc rd imm) c seen done read = record { inside = tt; reservation = refl; write = refl }
lawful image (Jal rd offset) c seen done read = record { inside = tt; reservation = grind arith; write = refl }
lawful image (Jalr rd rs1 imm) c seen done read = record { inside = tt; reservation = grind arith; write = refl }
lawful image (Branch op rs1 rs2 offset) c seen done read = record { inside = tt; reservation = grind arith; write = refl }
lawful image (Load op rd rs1 imm) c seen done read =
    let address : ℕ = address_in c rs1 (as_word imm) in
    unless (fault_of image (width_of op) false address) (LoadAt address) c done _
    (λ e. record { inside = (access-of image (width_of op) false address e).inside; reservation = refl; write = refl })
lawful image (Store width rs1 rs2 imm) c seen done read =
    let address : ℕ = address_in c rs1 (as_word imm) in
    unless (fault_of image width true address) (StoreAt address) c done _ (λ e.
    let a : IsAccess width address = access-of image width true address e in
    record { inside = a.inside; reservation = refl; write = (refl, refl, a.inside.0, a.ends, a.aligned) })
lawful image (OpImm op rd rs1 imm) c seen done read = record { inside = tt; reservation = refl; write = refl }
lawful image (Op op rd rs1 rs2) c seen done read = record { inside = tt; reservation = refl; write = refl }
lawful image Fence c seen done read = record { inside = tt; reservation = refl; write = refl }
lawful image Ecall c seen done read =
    called-lawful (nat_eq (register c 17) 1) (nat_eq (register c 17) 2) (nat_eq (register c 17) 93) c done read
lawful image Ebreak c seen done read = record { inside = tt; reservation = refl; write = refl }
lawful image (Lr rd rs1) c seen done read =
    unless (fault_of image Word false (register c rs1)) (LrAt (register c rs1)) c done _
    (λ e. record { inside = (access-of image Word false (register c rs1) e).inside; reservation = refl; write = refl })
lawful image (Sc rd rs1 rs2) c seen done read =
    unless (fault_of image Word true (register c rs1)) (ScAt (register c rs1)) c done _
    (λ e. conditionally-lawful done c rd (register c rs1) (register c rs2) (access-of image Word true (register c rs1) e))
lawful image (Amo op rd rs1 rs2) c seen done read =
    unless (fault_of image Word true (register c rs1)) (AmoAt (register c rs1)) c done _ (λ e.
    let a : IsAccess Word (register c rs1) = access-of image Word true (register c rs1) e in
    record { inside = a.inside; reservation = refl; write = (refl, refl, a.inside.0, a.ends, a.aligned) })

lawful-next : (image : ImageData) (found : Result Instr Cause) (c : CoreState) (seen : ℕ) (done : Bool) (read : Option ℕ) →
    IsLawful (wants_next image found c) c done (does_next image found c seen done read)
lawful-next image (Ok instr) c seen done read = lawful image instr c seen done read
lawful-next image (Err cause) c seen done read = record { inside = tt; reservation = refl; write = refl }

-- what is wanted lies in memory
pub want_inside : (image : ImageData) (c : CoreState) → IsInside (want_of image c)
unfolding want_of
want_inside image c = (lawful-next image (instruction_of (word_fetched image.segments c.pc)) c 0 false None).inside

-- only LR and SC change the reservation
pub next_reservation : (image : ImageData) (c : CoreState) (seen : ℕ) (done : Bool) (read : Option ℕ) →
    (next_of image c seen done read).core.reservation ≡ reservation_after (want_of image c) c.reservation
unfolding next_of want_of
next_reservation image c seen done read = (lawful-next image (instruction_of (word_fetched image.segments c.pc)) c seen done read).reservation

-- a write is there exactly where one is wanted, and where it is
pub write_fits : (image : ImageData) (c : CoreState) (seen : ℕ) (done : Bool) (read : Option ℕ) →
    WriteFits (want_of image c) done (next_of image c seen done read).effect.write
unfolding next_of want_of
write_fits image c seen done read = (lawful-next image (instruction_of (word_fetched image.segments c.pc)) c seen done read).write
