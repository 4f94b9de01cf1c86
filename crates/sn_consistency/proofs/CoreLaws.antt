-- The laws of the core's step: a reservation plays no part in it but by `sc_done`, only LR and SC change it, and what is written stands at the wanted address, aligned and in memory. These proofs alone open the step.
use Rattle.std.proofs.Common.{◌≡◌, ℕ, ◌+◌, ◌%◌, ◌<◌, ◌≤◌, Bool, true, false, Option, Some, None, Result, Ok, Err, refl, sym, ◌∙◌, arith}
use Rattle.std.proofs.lemmas.Bool.Decides.{nat_tests}
use Rattle.sn_base.specs.Blocks.{ram_start, ram_size, bytes_of}
use Rattle.sn_base.specs.Image.{ImageData, word_fetched}
use Rattle.sn_base.specs.declared.block.Write.{Write}
use Rattle.sn_base.specs.declared.block.Width.{Width}
use Rattle.sn_base.specs.declared.block.Width.TheVariants.{Byte, Half, Word}
use Rattle.rv_decode.specs.declared.instr.Instr.{Instr}
use Rattle.rv_decode.specs.declared.instr.Instr.TheVariants.{Load, Store, Ecall, Lr, Sc, Amo}
use Rattle.rv_core.specs.declared.state.CoreState.{CoreState}
use Rattle.rv_core.specs.declared.state.Cause.{Cause}
use Rattle.rv_core.specs.declared.step.Want.{Want}
use Rattle.rv_core.specs.declared.step.Want.TheVariants.{Store as StoreAt, Amo as AmoAt, Sc as ScAt}
use Rattle.rv_core.specs.Access.{width_of, fault_of}
use Rattle.rv_core.specs.Arithmetic.{as_word, amo_result, load_result}
use Rattle.rv_core.specs.Core.{bare, register}
use Rattle.rv_core.specs.Step.{Next, want_of, next_of, instruction_of, does, does_next, wants, wants_next, wants_unless, unless_fault}
use Rattle.rv_core.specs.Step.{becomes, writing, core_in_order, gets, reserves, conditionally, next_of_call, address_in}
use Rattle.sn_consistency.specs.Words.{kind_of, address_of, writes}
use Rattle.sn_consistency.specs.Laws.{own_reservation, WriteFits}

pub want_bare : (image : ImageData) (c : CoreState) → want_of image (bare c) ≡ want_of image c
unfolding want_of
want_bare image c = grind (arith, nat_tests)

pub next_bare : (image : ImageData) (c : CoreState) (seen : ℕ) (done : Bool) (read : Option ℕ) →
    bare (next_of image (bare c) seen done read).core ≡ bare (next_of image c seen done read).core
unfolding next_of
next_bare image c seen done read = grind (arith, nat_tests)

pub effect_bare : (image : ImageData) (c : CoreState) (seen : ℕ) (done : Bool) (read : Option ℕ) →
    (next_of image (bare c) seen done read).effect ≡ (next_of image c seen done read).effect
unfolding next_of
effect_bare image c seen done read = grind (arith, nat_tests)

pub next_reservation : (image : ImageData) (c : CoreState) (seen : ℕ) (done : Bool) (read : Option ℕ) →
    (next_of image c seen done read).core.reservation ≡ own_reservation (want_of image c) c.reservation
unfolding next_of want_of
next_reservation image c seen done read = grind (arith, nat_tests)

module _ (image : ImageData) (c : CoreState) (seen : ℕ) (done : Bool) (read : Option ℕ) where
  none_wanted : (next_of image c seen done read).effect.write ≡ None → writes (kind_of (want_of image c)) done ≡ false
  unfolding next_of want_of kind_of
  none_wanted e = grind (arith, nat_tests)

  -- an access that doesn't trap lies in memory, at a multiple of its width
  may_access : (width : Width) (writes : Bool) (a : ℕ) → fault_of image width writes a ≡ None →
      (ram_start ≤ a) × (a + bytes_of width ≤ ram_start + ram_size) × (a % bytes_of width ≡ 0)
  may_access Byte writes a e = (grind (arith, nat_tests), grind (arith, nat_tests), grind (arith, nat_tests))
  may_access Half writes a e =
      let m : a % 2 ≡ 0 = grind (arith, nat_tests) in
      let l : a < ram_start + ram_size = grind (arith, nat_tests) in
      (grind (arith, nat_tests), omega arith, m)
  may_access Word writes a e =
      let m : a % 4 ≡ 0 = grind (arith, nat_tests) in
      let l : a < ram_start + ram_size = grind (arith, nat_tests) in
      (grind (arith, nat_tests), omega arith, m)

  -- an access that writes, where it doesn't trap
  access_fits : (width : Width) (a : ℕ) (o : Option Cause) → fault_of image width true a ≡ o → (n : Next) (want : Want) (w : Write) →
      (n.effect.write ≡ Some w → (writes (kind_of want) done ≡ true) × (w.width ≡ width) × (w.address ≡ a) × (address_of want ≡ a)) →
      (unless_fault o c n).effect.write ≡ Some w →
      WriteFits (address_of (wants_unless o want)) (writes (kind_of (wants_unless o want)) done) (Some w)
  access_fits width a None q n want w f e =
      let g = f e in
      let b = may_access width true a q in
      (g.0, g.2 ∙ sym g.3, rw g.3 b.0, rw (g.3, g.1) b.1, rw (g.3, g.1) b.2)
  access_fits width a (Some cause) q n want w f e = absurd (cc)

  -- an access that only reads
  access_none : (o : Option Cause) (k : CoreState) (w : Write) → (unless_fault o c (becomes k)).effect.write ≡ Some w → ⊥
  access_none None k w e = cc
  access_none (Some cause) k w e = cc

  called_none : (next_of_call c read).effect.write ≡ None
  called_none = grind (arith, nat_tests)

  at_write : (i : Instr) (w : Write) → (does image i c seen done read).effect.write ≡ Some w →
      WriteFits (address_of (wants image i c)) (writes (kind_of (wants image i c)) done) (Some w)
  unfolding kind_of address_of
  at_write (Load o rd rs1 imm) w e =
      absurd (access_none (fault_of image (width_of o) false (address_in c rs1 (as_word imm)))
      (gets c rd (load_result o (address_in c rs1 (as_word imm)) seen)) w e)
  at_write (Lr rd rs1) w e = absurd (access_none (fault_of image Word false (register c rs1)) (reserves c rd (register c rs1) seen) w e)
  at_write (Store width rs1 rs2 imm) w e =
      let a = address_in c rs1 (as_word imm) in
      access_fits width a (fault_of image width true a) refl (writing (core_in_order c) a width (register c rs2)) (StoreAt a) w
      (λ h. (refl, cc, cc, refl)) e
  at_write (Sc rd rs1 rs2) w e =
      let a = register c rs1 in
      access_fits Word a (fault_of image Word true a) refl (conditionally done c rd a (register c rs2)) (ScAt a) w (of_done done refl) e
    where
      of_done : (d : Bool) → done ≡ d → (conditionally d c rd (register c rs1) (register c rs2)).effect.write ≡ Some w →
          (done ≡ true) × (w.width ≡ Word) × (w.address ≡ register c rs1) × (register c rs1 ≡ register c rs1)
      of_done true q h = (q, cc, cc, refl)
      of_done false q h = absurd (cc)
  at_write (Amo o rd rs1 rs2) w e =
      let a = register c rs1 in
      access_fits Word a (fault_of image Word true a) refl (writing (gets c rd seen) a Word (amo_result o seen (register c rs2)))
      (AmoAt a) w (λ h. (refl, cc, cc, refl)) e
  at_write Ecall w e = absurd (let h = called_none in cc)
  at_write i w e = absurd (cc)

  some_wanted : (w : Write) → (next_of image c seen done read).effect.write ≡ Some w →
      WriteFits (address_of (want_of image c)) (writes (kind_of (want_of image c)) done) (Some w)
  unfolding next_of want_of
  some_wanted w e = of_next (instruction_of (word_fetched image.segments c.pc)) e
    where
      of_next : (r : Result Instr Cause) → (does_next image r c seen done read).effect.write ≡ Some w →
          WriteFits (address_of (wants_next image r c)) (writes (kind_of (wants_next image r c)) done) (Some w)
      of_next (Ok i) h = at_write i w h
      of_next (Err cause) h = absurd (cc)

  pub write_fits : WriteFits (address_of (want_of image c)) (writes (kind_of (want_of image c)) done)
      (next_of image c seen done read).effect.write
  write_fits = go (next_of image c seen done read).effect.write refl
    where
      go : (o : Option Write) → (next_of image c seen done read).effect.write ≡ o →
          WriteFits (address_of (want_of image c)) (writes (kind_of (want_of image c)) done) o
      go None e = none_wanted e
      go (Some w) e = some_wanted w e
