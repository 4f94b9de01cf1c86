-- What a node's step comes to.
use Rattle.std.proofs.Common.{◌≡◌, ◌≢◌, ℕ, ◌<◌, ◌≤◌, Bool, true, false, not, ◌&&◌, nat_le, if◌then◌else◌, List, length, get_or, Some, None, Result}
use Rattle.std.proofs.Common.{refl, sym, ap, ◌∙◌, subst, arith}
use Rattle.std.specs.Prelude.{nat_lt, slice_index}
use Rattle.std.proofs.lemmas.Bool.Decides.{nat_tests}
use Rattle.sn_base.specs.Image.{ImageData}
use Rattle.sn_base.specs.declared.config.Config.{Config}
use Rattle.sn_base.specs.declared.event.Answer.{Answer}
use Rattle.sn_base.specs.declared.event.Answer.TheVariants.{Retired, Missed, Waits, NeedsEvict, LogFull, NetFull}
use Rattle.rv_decode.specs.declared.instr.Instr.{Instr}
use Rattle.rv_core.specs.declared.state.Cause.{Cause}
use Rattle.rv_core.specs.declared.state.CoreState.{CoreState}
use Rattle.rv_core.specs.declared.step.Record.{Record}
use Rattle.rv_core.specs.declared.step.Want.{Want}
use Rattle.rv_core.specs.declared.step.Want.TheVariants.{Nothing, Load, Store, Amo, Lr, Sc, Input}
use Rattle.rv_core.specs.Core.{block_of, is_reserved, is_running}
use Rattle.rv_core.specs.Step.{want_of, wants_next}
use Rattle.rv_core.specs.Wanted.{IsAddress, IsInside}
use Rattle.rv_core.proofs.CoreLaws.{want_inside}
use Rattle.sn_history.specs.History as history
use Rattle.sn_model.specs.declared.cache.Need.{Need}
use Rattle.sn_model.specs.declared.cache.Need.TheVariants as needs
use Rattle.sn_model.specs.Access.{step_of_access, step_of_miss, has_miss, serves, lacks_room, word_found}
use Rattle.sn_model.specs.Caches.{block_count, line_of, is_present, puts_on, frames_taken}
use Rattle.sn_model.specs.Fabric.{Fabric, node_at, step_refused, step_with_answer}
use Rattle.sn_model.specs.Instructions.{FoundOutside, nothing_found, found_by, record_with, step_of_instruction, step_wanting, accessing, is_retired}
use Rattle.sn_model.specs.Instructions.{next_byte, taken_by}
use Rattle.sn_model.specs.Machine.{State, Processor, processor_at}
use Rattle.sn_model.specs.Net.{is_full}
use Rattle.consistent_cuts.specs.Accesses.{CanServe, CanServeWant, CanRetire}
use Rattle.consistent_cuts.proofs.SteppedCases.{served_by_line}
use Rattle.consistent_cuts.proofs.Granted.{writable_present}
use Rattle.sn_machine.specs.declared.steps.NodeStep.{NodeStep}
use Rattle.sn_machine.specs.declared.steps.NodeStep.TheVariants.{Retires, Misses, Refused}
use Rattle.sn_machine.specs.declared.processor.Processor.{Processor as ProcessorUnit}
use Rattle.sn_machine.specs.declared.hardware.Hardware.{Hardware}
use Rattle.sn_machine.specs.Parts.{state_of, IsWhole}
use Rattle.sn_machine.specs.Turns.{IsNext, ComesTo, IsAccess, IsConditional, IsInput}
use Rattle.sn_machine.proofs.Parts.{processor-at, is_here, unit-read}
use Rattle.sn_machine.proofs.Lists.{taken-is}

-- an access that neither is served nor misses leaves all as it is
module _ (config : Config) (s : Fabric) (n b : ℕ) (need : Need) where
  refused_by : (a p c d e f : Bool) (answer : Answer) → answer ≢ Retired → answer ≢ Missed →
      answer ≡ (if a then step_refused s Waits else if p then step_refused s Waits
      else if c then (if d then step_refused s LogFull else step_with_answer s Retired) else if e then step_refused s NeedsEvict
      else if f then step_refused s NetFull else step_of_miss s n b need).answer →
      (is_retired answer ≡ false)
      × ((if a then step_refused s Waits else if p then step_refused s Waits else if c then (if d then step_refused s LogFull else step_with_answer s Retired)
      else if e then step_refused s NeedsEvict else if f then step_refused s NetFull else step_of_miss s n b need) ≡ step_refused s answer)
  refused_by true p c d e f answer r m is = (rw is refl, rw is refl)
  refused_by false true c d e f answer r m is = (rw is refl, rw is refl)
  refused_by false false true true e f answer r m is = (rw is refl, rw is refl)
  refused_by false false true false e f answer r m is = absurd (r is)
  refused_by false false false d true f answer r m is = (rw is refl, rw is refl)
  refused_by false false false d false true answer r m is = (rw is refl, rw is refl)
  refused_by false false false d false false answer r m is = absurd (m is)

  pub access-refused : (answer : Answer) → answer ≢ Retired → answer ≢ Missed → answer ≡ (step_of_access config s n b need).answer →
      (is_retired answer ≡ false) × (step_of_access config s n b need ≡ step_refused s answer)
  access-refused answer r m is =
      refused_by (has_miss (node_at s n).cache.miss) (puts_on (node_at s n).cache.put b) (serves need (line_of (node_at s n).cache b).state)
      (lacks_room config (node_at s n) b need)
      (not (is_present (line_of (node_at s n).cache b).state) && nat_le config.ways (frames_taken (node_at s n).cache config.sets b))
      (is_full s 1) answer r m is

  -- a line that serves a read or a write is there
  serving-present : (k : Need) → CanServe config s n b k → is_present (line_of (node_at s n).cache b).state ≡ true
  serving-present needs.Read can = can.serving
  serving-present needs.Write can = writable_present (line_of (node_at s n).cache b).state can.serving

  pub served-present : n < length s.nodes → b < block_count → (step_of_access config s n b need).answer ≡ Retired →
      is_present (line_of (node_at s n).cache b).state ≡ true
  served-present l low is = serving-present need (served_by_line config s n b l low need (ap is_retired is))

-- what the access that an instruction wants makes of the step

pub block_low : (address : ℕ) → IsAddress address → block_of address < block_count
block_low address inside = omega (arith, inside.0, inside.1)

module _ (image : ImageData) (config : Config) (s : State) (n : ℕ) (l : n < length s.fabric.nodes) (running : is_running (processor_at s n).core.end ≡ true) (no_miss : has_miss (node_at s.fabric n).cache.miss ≡ false) where
  step_is : (w : Want) → want_of image (processor_at s n).core ≡ w → step_of_instruction image config s n ≡ step_wanting image config s n w
  step_is w e = rw (running, no_miss, e) refl

  pub can-retire : (w : Want) → want_of image (processor_at s n).core ≡ w → CanServeWant w (found_by s n w).sc_done config s n →
      CanRetire image config s n
  can-retire w e served =
      record {
        node = l;
        running = running;
        no_miss = no_miss;
        served = subst (λ w. CanServeWant w (found_by s n w).sc_done config s n) (sym e) served;
      }

  module _ (w : Want) (a : ℕ) (k : Need) (found : FoundOutside) (e : want_of image (processor_at s n).core ≡ w) (inside : IsAddress a)
      (is : step_wanting image config s n w ≡ accessing image config s n a k) (finds : found_by s n w ≡ found)
      (serve : CanServe config s.fabric n (block_of a) k → CanServeWant w found.sc_done config s n) where
    pub access-comes : (turn : NodeStep) → IsAccess config s.fabric n (block_of a) k found turn →
        ComesTo image config s n (step_of_instruction image config s n) turn
    access-comes (Retires did) h = (
      can-retire w e (rw finds (serve (served_by_line config s.fabric n (block_of a) l (block_low a inside) k (ap is_retired h.0)))),
      h.1 ∙ ap (record_with n) (sym finds ∙ ap (found_by s n) (sym e)),
      step_is w e ∙ is ∙ rw h.0 refl,
    )
    access-comes (Misses b need) h = (rw (h.0, h.1) h.2, step_is w e ∙ is ∙ rw (h.0, h.1, h.2) refl)
    access-comes (Refused answer) h = step_is w e ∙ is ∙ rw (h.1, h.0) refl

  pub load-comes : (a : ℕ) (turn : NodeStep) → want_of image (processor_at s n).core ≡ Load a →
      IsAccess config s.fabric n (block_of a) needs.Read (record nothing_found { seen = word_found s.fabric n a }) turn →
      ComesTo image config s n (step_of_instruction image config s n) turn
  load-comes a turn e h =
      access-comes (Load a) a needs.Read (record nothing_found { seen = word_found s.fabric n a }) e
      (subst IsInside e (want_inside image (processor_at s n).core)) refl refl (λ can. can) turn h

  pub reserved-comes : (a : ℕ) (turn : NodeStep) → want_of image (processor_at s n).core ≡ Lr a →
      IsAccess config s.fabric n (block_of a) needs.Read (record nothing_found { seen = word_found s.fabric n a }) turn →
      ComesTo image config s n (step_of_instruction image config s n) turn
  reserved-comes a turn e h =
      access-comes (Lr a) a needs.Read (record nothing_found { seen = word_found s.fabric n a }) e
      (subst IsInside e (want_inside image (processor_at s n).core)) refl refl (λ can. can) turn h

  pub store-comes : (a : ℕ) (turn : NodeStep) → want_of image (processor_at s n).core ≡ Store a →
      IsAccess config s.fabric n (block_of a) needs.Write nothing_found turn → ComesTo image config s n (step_of_instruction image config s n) turn
  store-comes a turn e h =
      access-comes (Store a) a needs.Write nothing_found e (subst IsInside e (want_inside image (processor_at s n).core)) refl refl
      (λ can. can) turn h

  pub amo-comes : (a : ℕ) (turn : NodeStep) → want_of image (processor_at s n).core ≡ Amo a →
      IsAccess config s.fabric n (block_of a) needs.Write (record nothing_found { seen = word_found s.fabric n a }) turn →
      ComesTo image config s n (step_of_instruction image config s n) turn
  amo-comes a turn e h =
      access-comes (Amo a) a needs.Write (record nothing_found { seen = word_found s.fabric n a }) e
      (subst IsInside e (want_inside image (processor_at s n).core)) refl refl (λ can. can) turn h

  pub conditional-comes : (a : ℕ) (turn : NodeStep) → want_of image (processor_at s n).core ≡ Sc a → IsConditional config s n a turn →
      ComesTo image config s n (step_of_instruction image config s n) turn
  conditional-comes a turn e h = go (is_reserved (processor_at s n).core.reservation (block_of a)) refl
    where
      unreserved : is_reserved (processor_at s n).core.reservation (block_of a) ≡ false →
          ComesTo image config s n (step_of_instruction image config s n) (Retires (record_with n nothing_found))
      unreserved q = (
        can-retire (Sc a) e (subst (λ (done : Bool). CanServeWant (Sc a) done config s n) (sym q) tt),
        rw e (rw q refl),
        step_is (Sc a) e
            ∙ rw q refl,
      )

      go : (b : Bool) → is_reserved (processor_at s n).core.reservation (block_of a) ≡ b →
          ComesTo image config s n (step_of_instruction image config s n) turn
      go true q =
          access-comes (Sc a) a needs.Write (record nothing_found { sc_done = true }) e
          (subst IsInside e (want_inside image (processor_at s n).core)) (rw q refl) (rw q refl) (λ can. can) turn (h.done q)
      go false q = rw (h.undone q) (unreserved q)

  pub nothing-comes : (did : Record) → want_of image (processor_at s n).core ≡ Nothing → did ≡ record_with n nothing_found →
      ComesTo image config s n (step_of_instruction image config s n) (Retires did)
  nothing-comes did e is = (can-retire Nothing e tt, is ∙ ap (record_with n) (ap (found_by s n) (sym e)), step_is Nothing e)

  pub input-comes : (turn : NodeStep) → want_of image (processor_at s n).core ≡ Input → IsInput s n turn →
      ComesTo image config s n (step_of_instruction image config s n) turn
  input-comes turn e h = go (nat_lt (taken_by s n) (length (processor_at s n).given)) refl
    where
      go : (more : Bool) → nat_lt (taken_by s n) (length (processor_at s n).given) ≡ more →
          ComesTo image config s n (step_of_instruction image config s n) turn
      go true q = rw h (rw q (can-retire Input e (grind (arith, nat_tests)), rw e (rw q refl), step_is Input e ∙ rw q refl))
      go false q = rw h (rw q (step_is Input e ∙ rw q refl))

pub inside-of : (image : ImageData) (core : CoreState) (found v : Want) → found ≡ want_of image core → found ≡ v → IsInside v
inside-of image core found v e is = subst IsInside (sym e ∙ is) (want_inside image core)

-- an instruction that is next wants what its core wants
pub wants-next : (image : ImageData) (s : State) (n : ℕ) (instruction : Result Instr Cause) → IsNext image s n instruction →
    wants_next image instruction (processor_at s n).core ≡ want_of image (processor_at s n).core
unfolding want_of
wants-next image s n instruction next = ap (λ i. wants_next image i (processor_at s n).core) next.same

-- what the code asks of a processor that it read, of that node

module _ (h : Hardware) (n place : ℕ) (x : ProcessorUnit) (w : IsWhole h) (l : n < length h.fabric.fabric.nodes) (i : place ≡ n) (r : x ≡ get_or h.processors.items place x) where
  pub core-read : x.core ≡ (processor_at (state_of h) n).core
  core-read =
      ap (λ (y : ProcessorUnit). y.core) (unit-read h n place x w l i r) ∙ ap (λ (p : Processor). p.core) (sym (processor-at h n (is_here h n w l)))

  pub want-read : (image : ImageData) (instruction : Result Instr Cause) (found v : Want) → IsNext image (state_of h) n instruction →
      found ≡ wants_next image instruction x.core → found ≡ v → want_of image (processor_at (state_of h) n).core ≡ v
  want-read image instruction found v next e is =
      sym (wants-next image (state_of h) n instruction next) ∙ ap (wants_next image instruction) (sym core-read) ∙ sym e ∙ is

  pub inside-read : (image : ImageData) (instruction : Result Instr Cause) (found v : Want) → IsNext image (state_of h) n instruction →
      found ≡ wants_next image instruction x.core → found ≡ v → IsInside v
  inside-read image instruction found v next e is =
      subst IsInside (want-read image instruction found v next e is) (want_inside image (processor_at (state_of h) n).core)

-- the next byte of input

module _ (h : Hardware) (n place : ℕ) (x : ProcessorUnit) (given : List ℕ) (taken : ℕ) (w : IsWhole h) (l : n < length h.fabric.fabric.nodes)
    (i : place ≡ n) (r : x ≡ get_or h.processors.items place x)
    (gives : given ≡ x.input.given) (takes : taken ≡ history.taken_by h.history n) where
  given_is : (processor_at (state_of h) n).given ≡ given
  given_is =
      ap (λ (p : Processor). p.given) (processor-at h n (is_here h n w l))
      ∙ ap (λ (y : ProcessorUnit). y.input.given) (sym (unit-read h n place x w l i r)) ∙ sym gives

  taken_is : taken_by (state_of h) n ≡ taken
  taken_is = sym (takes ∙ taken-is h n)

  pub no-byte : length given ≤ taken → next_byte (state_of h) n ≡ None
  no-byte few = let t : nat_lt taken (length given) ≡ false = grind (arith, nat_tests) in rw (given_is, taken_is, t) refl

  pub some-byte : taken < length given → next_byte (state_of h) n ≡ Some (slice_index given taken)
  some-byte more = let t : nat_lt taken (length given) ≡ true = grind (arith, nat_tests) in rw (given_is, taken_is, t) refl
