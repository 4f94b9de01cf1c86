-- An instruction that retires: what its core and its line need, and what it comes to.
use Rattle.std.proofs.Common.{◌≡◌, ℕ, ◌+◌, ◌-◌, ◌<◌, ◌≤◌, Bool, true, false, [], ◌∷◌, ◌++◌, length, get_or, Option, Some, None, Result, refl, sym, ap, ◌∙◌}
use Rattle.std.proofs.Common.{subst, arith}
use Rattle.std.specs.Prelude.{◌%◌, nat_lt, is_some}
use Rattle.std.proofs.lemmas.Bool.Decides.{nat_tests}
use Rattle.std.proofs.lemmas.List.{map-append, map-set}
use Rattle.sn_base.specs.Blocks.{ram_start, ram_size, bytes_of}
use Rattle.sn_base.specs.Image.{ImageData}
use Rattle.sn_base.specs.declared.block.Width.{Width}
use Rattle.sn_base.specs.declared.block.Width.TheVariants.{Byte, Half, Word}
use Rattle.sn_base.specs.declared.block.Write.{Write}
use Rattle.sn_base.specs.declared.config.Config.{Config}
use Rattle.sn_base.specs.declared.event.Answer.TheVariants.{Retired}
use Rattle.rv_decode.specs.declared.instr.Instr.{Instr}
use Rattle.rv_core.specs.declared.state.Cause.{Cause}
use Rattle.rv_core.specs.declared.state.CoreState.{CoreState}
use Rattle.rv_core.specs.declared.step.Effect.{Effect}
use Rattle.rv_core.specs.declared.step.Record.{Record}
use Rattle.rv_core.specs.declared.step.Want.{Want}
use Rattle.rv_core.specs.declared.step.Want.TheVariants as want
use Rattle.rv_core.specs.Core.{block_of, is_input, holds_reservation}
use Rattle.rv_core.specs.Step.{Next, want_of, wants_next, next_of, does_next}
use Rattle.rv_core.specs.Wanted.{WriteFits}
use Rattle.rv_core.proofs.CoreLaws.{write_fits}
use Rattle.consistent_cuts.specs.Events.{CanUse}
use Rattle.sn_model.specs.declared.cache.Need.TheVariants as need
use Rattle.sn_model.specs.Fabric.{node_at}
use Rattle.sn_model.specs.Machine.{State, Processor, processor_at}
use Rattle.sn_model.specs.Instructions.{found_at, found_by, next_with, record_with, step_of_retirement, taken_by, written_by}
use Rattle.consistent_cuts.specs.Accesses.{CanServe, CanServeWant, CanRetire}
use Rattle.consistent_cuts.proofs.Places.{same_length, same_known, same_point}
use Rattle.sn_machine.specs.declared.processor.Processor.{Processor as ProcessorUnit}
use Rattle.sn_machine.specs.declared.hardware.Hardware.{Hardware}
use Rattle.sn_machine.specs.Parts.{processor_as, state_of, unit_at, IsWhole, Does}
use Rattle.sn_machine.specs.Turns.{IsNext, CanBeWritten, CanWriteAny, PutsOut}
use Rattle.sn_machine.proofs.Parts.{processor-at, is_here, unit-read}
use Rattle.sn_machine.proofs.Turns.{core-read, wants-next}
use Rattle.sn_machine.proofs.Units.{HasUnit, KeepsKnown, unit-whole, unit-room, unit_placed}

-- what its core is given, and what that does

done-reserved : (s : State) (n : ℕ) (w : Want) → (found_by s n w).sc_done ≡ true → holds_reservation (processor_at s n).core w ≡ true
done-reserved s n want.Nothing e = absurd cc
done-reserved s n (want.Load a) e = absurd cc
done-reserved s n (want.Store a) e = absurd cc
done-reserved s n (want.Amo a) e = absurd cc
done-reserved s n (want.Lr a) e = absurd cc
done-reserved s n (want.Sc a) e = e
done-reserved s n want.Input e = absurd cc

byte-read : (config : Config) (s : State) (n : ℕ) (w : Want) (done : Bool) → CanServeWant w done config s n →
    is_some (found_by s n w).read ≡ is_input w
byte-read config s n want.Nothing done can = refl
byte-read config s n (want.Load a) done can = refl
byte-read config s n (want.Store a) done can = refl
byte-read config s n (want.Amo a) done can = refl
byte-read config s n (want.Lr a) done can = refl
byte-read config s n (want.Sc a) done can = refl
byte-read config s n want.Input done can =
    let t : nat_lt (taken_by s n) (length (processor_at s n).given) ≡ true = grind (arith, nat_tests) in rw t refl

module _ (image : ImageData) (config : Config) (s : State) (n : ℕ) (instruction : Result Instr Cause) (did : Record) (core : CoreState) (next : IsNext image s n instruction)
    (found : did ≡ record_with n (found_at image s n)) (is : core ≡ (processor_at s n).core) where
  pub given-reserved : did.sc_done ≡ true → holds_reservation core (wants_next image instruction core) ≡ true
  given-reserved = rw (found, is, wants-next image s n instruction next) (done-reserved s n (want_of image (processor_at s n).core))

  pub given-byte : CanRetire image config s n → is_some did.read ≡ is_input (wants_next image instruction core)
  given-byte can =
      rw (found, is, wants-next image s n instruction next)
      (byte-read config s n (want_of image (processor_at s n).core) (found_at image s n).sc_done can.served)

  does-next : does_next image instruction core did.seen did.sc_done did.read ≡ next_with image (processor_at s n) (found_at image s n)
  unfolding next_of
  does-next = rw (found, is, next.same) refl

-- what it writes can be written

inside : (a : ℕ) (width : Width) → a + bytes_of width ≤ ram_start + ram_size → a < ram_start + ram_size
inside a Byte l = omega (arith, l)
inside a Half l = omega (arith, l)
inside a Word l = omega (arith, l)

module _ (config : Config) (s : State) (n : ℕ) where
  writes : (a : ℕ) (x : Write) → x.address ≡ a → ram_start ≤ x.address → x.address + bytes_of x.width ≤ ram_start + ram_size →
      x.address % bytes_of x.width ≡ 0 →
      CanServe config s.fabric n (block_of a) need.Write → CanBeWritten config s.fabric n x
  writes a x e low high aligned can = record {
    low = low;
    high = inside x.address x.width high;
    aligned = aligned;
    can = record { line = subst (λ b. CanUse s.fabric n (block_of b)) (sym e) can.line; writable = rw e can.serving };
    room = rw e can.room;
  }

  writes_wanting : (w : Want) (done : Bool) (x : Option Write) → WriteFits w done x → CanServeWant w done config s n →
      CanWriteAny config s.fabric n x
  writes_wanting w done None fits can = tt
  writes_wanting want.Nothing done (Some x) fits can = absurd (let h = fits.0 in cc)
  writes_wanting want.Input done (Some x) fits can = absurd (let h = fits.0 in cc)
  writes_wanting (want.Load a) done (Some x) fits can = absurd (let h = fits.0 in cc)
  writes_wanting (want.Lr a) done (Some x) fits can = absurd (let h = fits.0 in cc)
  writes_wanting (want.Store a) done (Some x) fits can = writes a x fits.1 fits.2 fits.3 fits.4 can
  writes_wanting (want.Amo a) done (Some x) fits can = writes a x fits.1 fits.2 fits.3 fits.4 can
  writes_wanting (want.Sc a) true (Some x) fits can = writes a x fits.1 fits.2 fits.3 fits.4 can
  writes_wanting (want.Sc a) false (Some x) fits can = absurd (let h = fits.0 in cc)

pub can-write : (image : ImageData) (h : Hardware) (n : ℕ) (instruction : Result Instr Cause) (did : Record) (core : CoreState) (effect : Effect) →
    CanRetire image h.fabric.config (state_of h) n → IsNext image (state_of h) n instruction → did ≡ record_with n (found_at image (state_of h) n) →
    core ≡ (processor_at (state_of h) n).core → effect ≡ (does_next image instruction core did.seen did.sc_done did.read).effect →
    CanWriteAny h.fabric.config h.fabric.fabric n effect.write
can-write image h n instruction did core effect can next found is does =
    let e : effect ≡ (next_with image (processor_at (state_of h) n) (found_at image (state_of h) n)).effect = does
    ∙ ap (λ (x : Next). x.effect) (does-next image h.fabric.config (state_of h) n instruction did core next found is) in
    rw e (writes_wanting h.fabric.config (state_of h) n (want_of image (processor_at (state_of h) n).core)
    (found_at image (state_of h) n).sc_done _
    (write_fits image (processor_at (state_of h) n).core (found_at image (state_of h) n).seen (found_at image (state_of h) n).sc_done
    (found_at image (state_of h) n).read) can.served)

-- what it comes to

pub retire-does : (image : ImageData) (h g : Hardware) (n place interval : ℕ) (instruction : Result Instr Cause) (did : Record) (x : ProcessorUnit) (core : CoreState)
    (effect : Effect) → IsWhole h → CanRetire image h.fabric.config (state_of h) n → IsNext image (state_of h) n instruction →
    did ≡ record_with n (found_at image (state_of h) n) → interval ≡ (node_at h.fabric.fabric n).now → place ≡ n →
    x ≡ get_or h.processors.items place x → core ≡ (does_next image instruction x.core did.seen did.sc_done did.read).core →
    effect ≡ (does_next image instruction x.core did.seen did.sc_done did.read).effect →
    g.fabric.fabric ≡ written_by h.fabric.fabric n effect.write → g.fabric.config ≡ h.fabric.config →
    HasUnit h (record g { history = h.history; output = h.output }) place (record x { core = core }) →
    g.history ≡ record h.history {
      pending = h.history.pending ++ record { interval = interval; entry = did } ∷ [];
      room = h.history.room - 1;
    } → PutsOut h.output g.output interval effect.out → g.is_carried ≡ false →
    Does h g Retired (step_of_retirement image (state_of h) n)
retire-does image h g n place interval instruction did x core effect w can next found at i r cores effects fabric sizes unit history puts is =
    let here = is_here h n w can.node in
    let e = unit-read h n place x w can.node i r in
    let y = record (unit_at h.processors.items n) { core = core } in
    let middle = record g { history = h.history; output = h.output } in
    let same : HasUnit h middle n y = unit_placed h middle n place y i (rw e at unit) in
    let keeps : KeepsKnown h.fabric.fabric g.fabric.fabric = record {
      count = rw fabric (same_length h.fabric.fabric n effect.write);
      known = rw fabric (λ m. same_known h.fabric.fabric n m effect.write can.node);
      point = rw fabric (same_point h.fabric.fabric n effect.write);
    } in
    let whole = unit-whole h middle n y same here w keeps refl in
    let p = processor-at h n here in
    let does = does-next image h.fabric.config (state_of h) n instruction did x.core next found (core-read h n place x w can.node i r) in
    let core_is : core ≡ (next_with image (processor_at (state_of h) n) (found_at image (state_of h) n)).core = cores
    ∙ ap (λ (y : Next). y.core) does in
    let effect_is : effect ≡ (next_with image (processor_at (state_of h) n) (found_at image (state_of h) n)).effect = effects
    ∙ ap (λ (y : Next). y.effect) does in
    let checkpoints_are : (processor_at (state_of h) n).checkpoints
    ≡ (unit_at h.processors.items n).checkpoints.cores = ap (λ (q : Processor). q.checkpoints) p in
    let given_is : (processor_at (state_of h) n).given ≡ (unit_at h.processors.items n).input.given = ap (λ (q : Processor). q.given) p in
    record {
      state =
          rw (
            fabric,
            same.processors,
            same.controller,
            history,
            puts.held,
            puts.released,
            map-set processor_as h.processors.items n y,
            map-append,
            at,
            found,
            core_is,
            effect_is,
            checkpoints_are,
            given_is,
          ) refl;
      says = refl;
      sent = rw is refl;
      sizes = sizes;
      whole = record { count = whole.count; known = whole.known; point = whole.point };
      room = λ events room. record {
        records = rw history (let a = room.records in omega (arith, a));
        bytes = let a = room.bytes in let b = puts.room in omega (arith, a, b);
        given = (unit-room h middle n y same here (omega arith) events room).given;
      };
    }
