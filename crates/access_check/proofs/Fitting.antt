-- The accesses of a trace lie in memory.
use Rattle.std.proofs.Common.{◌≡◌, ℕ, ◌+◌, ◌%◌, ◌<◌, Bool, true, false, List, [], ◌∷◌, All, Option, Some, None, Result, Ok, Err, cond, nat_eq}
use Rattle.std.proofs.Common.{option_to_list, IfSome, refl, arith}
use Rattle.std.proofs.lemmas.Bool.Decides.{nat_tests}
use Rattle.std.proofs.lemmas.List.Elements.{All-nil, All-cons, All-append}
use Rattle.sn_base.specs.Blocks.{ram_start, ram_size}
use Rattle.sn_base.specs.Image.{ImageData}
use Rattle.sn_base.specs.declared.block.Width.{Width}
use Rattle.sn_base.specs.declared.block.Width.TheVariants.{Byte, Half, Word}
use Rattle.sn_base.specs.declared.block.Write.{Write}
use Rattle.rv_decode.specs.declared.instr.Instr.{Instr}
use Rattle.rv_decode.specs.declared.instr.Instr.TheVariants.{Load, Store, Ecall, Lr, Sc, Amo}
use Rattle.rv_core.specs.declared.state.CoreState.{CoreState}
use Rattle.rv_core.specs.declared.state.Cause.{Cause}
use Rattle.rv_core.specs.declared.step.Record.{Record}
use Rattle.rv_core.specs.declared.step.Want.{Want}
use Rattle.rv_core.specs.declared.step.Want.TheVariants as wanted
use Rattle.rv_core.specs.Access.{width_of, fault_of}
use Rattle.rv_core.specs.Arithmetic.{as_word}
use Rattle.rv_core.specs.Core.{register}
use Rattle.rv_core.specs.Step.{want_of, wants, wants_next, wants_unless, address_in}
use Rattle.sn_consistency.specs.Words.{kind_of, address_of, writes}
use Rattle.sn_consistency.specs.Laws.{WriteFits}
use Rattle.sn_consistency.specs.Projections.{core_step}
use Rattle.sn_consistency.proofs.CoreLaws.{write_fits}
use Rattle.access_check.specs.declared.access.Access.{Access}
use Rattle.access_check.specs.Accesses.{IsFitting, IsFittingAccess}
use Rattle.access_check.specs.Executions.{access_by, access_of, accesses_from, load_width, next_instruction, written_if}

-- an access that doesn't trap lies in memory, at a multiple of its width
may_access : (image : ImageData) (width : Width) (w : Bool) (a : ℕ) → fault_of image width w a ≡ None → IsFitting width a
may_access image Byte w a e = (grind (arith, nat_tests), grind (arith, nat_tests), grind (arith, nat_tests))
may_access image Half w a e =
    let m : a % 2 ≡ 0 = grind (arith, nat_tests) in
    let l : a < ram_start + ram_size = grind (arith, nat_tests) in
    (grind (arith, nat_tests), omega arith, m)
may_access image Word w a e =
    let m : a % 4 ≡ 0 = grind (arith, nat_tests) in
    let l : a < ram_start + ram_size = grind (arith, nat_tests) in
    (grind (arith, nat_tests), omega arith, m)

-- what an instruction that reads wants fits its width
abbrev ReadFits : Width → Want → Type 0
ReadFits width (wanted.Load a) = IsFitting width a
ReadFits width (wanted.Lr a) = IsFitting Word a
ReadFits width w = Unit {0}

unless_fits : (image : ImageData) (width : Width) (w : Bool) (a : ℕ) (o : Option Cause) → fault_of image width w a ≡ o → (load : Width) (want : Want) →
    (IsFitting width a → ReadFits load want) → ReadFits load (wants_unless o want)
unless_fits image width w a None e load want f = f (may_access image width w a e)
unless_fits image width w a (Some cause) e load want f = tt

if_fits : (q : Bool) → ReadFits Word (cond q wanted.Input wanted.Nothing)
if_fits true = tt
if_fits false = tt

wants_fit : (image : ImageData) (i : Instr) (c : CoreState) → ReadFits (load_width (Ok i)) (wants image i c)
wants_fit image (Load op rd rs1 imm) c =
    let a = address_in c rs1 (as_word imm) in
    unless_fits image (width_of op) false a (fault_of image (width_of op) false a) refl (width_of op) (wanted.Load a) (λ h. h)
wants_fit image (Store width rs1 rs2 imm) c =
    let a = address_in c rs1 (as_word imm) in
    unless_fits image width true a (fault_of image width true a) refl Word (wanted.Store a) (λ h. tt)
wants_fit image Ecall c = if_fits (nat_eq (register c 17) 2)
wants_fit image (Lr rd rs1) c =
    let a = register c rs1 in
    unless_fits image Word false a (fault_of image Word false a) refl Word (wanted.Lr a) (λ h. h)
wants_fit image (Sc rd rs1 rs2) c =
    let a = register c rs1 in
    unless_fits image Word true a (fault_of image Word true a) refl Word (wanted.Sc a) (λ h. tt)
wants_fit image (Amo op rd rs1 rs2) c =
    let a = register c rs1 in
    unless_fits image Word true a (fault_of image Word true a) refl Word (wanted.Amo a) (λ h. tt)
wants_fit image i c = tt

next_fits : (image : ImageData) (r : Result Instr Cause) (c : CoreState) → ReadFits (load_width r) (wants_next image r c)
next_fits image (Ok i) c = wants_fit image i c
next_fits image (Err cause) c = tt

want_fits : (image : ImageData) (c : CoreState) → ReadFits (load_width (next_instruction image c)) (want_of image c)
unfolding want_of
want_fits image c = next_fits image (next_instruction image c) c

-- so does what it writes
write_place : (w : Write) (a : ℕ) (q : Bool) → WriteFits a q (Some w) → IsFitting w.width a
write_place w a q f = (f.2, f.3, f.4)

access_fits : (w : Want) (width : Width) (o t : Option Write) (core seen : ℕ) (done : Bool) → ReadFits width w →
    WriteFits (address_of w) (writes (kind_of w) done) o → WriteFits (address_of w) (writes (kind_of w) true) t →
    IfSome (access_by w width o t core seen done) IsFittingAccess
unfolding kind_of address_of
access_fits wanted.Nothing width o t core seen done r f g = tt
access_fits wanted.Input width o t core seen done r f g = tt
access_fits (wanted.Load a) width o t core seen done r f g = r
access_fits (wanted.Lr a) width o t core seen done r f g = r
access_fits (wanted.Store a) width None t core seen done r f g = tt
access_fits (wanted.Store a) width (Some w) t core seen done r f g = write_place w a true f
access_fits (wanted.Amo a) width None t core seen done r f g = tt
access_fits (wanted.Amo a) width (Some w) t core seen done r f g = write_place w a true f
access_fits (wanted.Sc a) width o None core seen done r f g = tt
access_fits (wanted.Sc a) width o (Some w) core seen done r f g = write_place w a true g

of_record : (image : ImageData) (c : CoreState) (r : Record) → IfSome (access_of image c r) IsFittingAccess
of_record image c r =
    access_fits (want_of image c) (load_width (next_instruction image c)) (written_if image c r r.sc_done)
    (written_if image c r true) r.core r.seen r.sc_done (want_fits image c)
    (write_fits image c r.seen r.sc_done r.read) (write_fits image c r.seen true r.read)

pub all_fit : (image : ImageData) (c : ℕ → CoreState) (rs : List Record) → All IsFittingAccess (accesses_from image c rs)
all_fit image c [] = All-nil IsFittingAccess
all_fit image c (r ∷ rs) =
    All-append IsFittingAccess (option_to_list (access_of image (c r.core) r)) (accesses_from image (λ n. core_step image n (c n) r) rs)
    (go (access_of image (c r.core) r) (of_record image (c r.core) r)) (all_fit image (λ n. core_step image n (c n) r) rs)
  where
    go : (o : Option Access) → IfSome o IsFittingAccess → All IsFittingAccess (option_to_list o)
    go None h = All-nil IsFittingAccess
    go (Some a) h = All-cons IsFittingAccess a [] h (All-nil IsFittingAccess)
