-- What an event comes to that changes one processor.
use Rattle.std.specs.Prelude.{nat_eq}
use Rattle.std.proofs.Common.{◌≡◌, ◌≢◌, ℕ, ◌+◌, ◌-◌, ◌<◌, ◌≤◌, Bool, true, false, [], ◌∷◌, ◌++◌, length, get_or, set, Some, None, refl, sym}
use Rattle.std.proofs.Common.{ap, ◌∙◌, subst, arith, length-set, ⊎_elim, if◌then◌else◌}
use Rattle.std.proofs.lemmas.List.{map-set, get_or-set_same, get_or-set_other}
use Rattle.std.proofs.lemmas.Bool.{cases_eq}
use Rattle.std.proofs.lemmas.Bool.Decides.{nat_tests}
use Rattle.sn_base.specs.declared.event.Answer.{Answer}
use Rattle.sn_base.specs.declared.event.Answer.TheVariants.{Given, Edged, CheckpointsFull, Evicted, MissOpen, PutOpen, NetFull, PutBegun}
use Rattle.rv_core.specs.declared.state.CoreState.{CoreState}
use Rattle.reg_ckpt.specs.Checkpoints.{next}
use Rattle.sn_model.specs.declared.net.News.TheVariants.{LostCopy}
use Rattle.sn_model.specs.declared.cache.LineState.{LineState}
use Rattle.sn_model.specs.declared.cache.LineState.TheVariants as line
use Rattle.sn_model.specs.Caches.{line_of, misses_on}
use Rattle.sn_model.specs.Fabric.{Fabric, FabricStep, node_at, with_node, first_node, step_refused, step_with_answer}
use Rattle.sn_model.specs.Machine.{Processor, with_processor}
use Rattle.sn_model.specs.MachineEvents.{step_of_input, edges, machine_step_with_news, state_after_news, with_checkpoint, core_without_reservation}
use Rattle.sn_model.specs.Instructions.{machine_step_of}
use Rattle.sn_model.specs.Net.{is_full}
use Rattle.sn_model.specs.NodeEvents.{step_of_eviction, evicts, begins_put, has_put, step_of_edge, after_edge, checkpoint_limit}
use Rattle.sn_fabric.specs.Fabric.{IsAfter}
use Rattle.consistent_cuts.proofs.Clocks.{IsSameClocks, same_clocks, part_set}
use Rattle.consistent_cuts.proofs.Hearings.{Rightly}
use Rattle.sn_machine.specs.Input.{InputData}
use Rattle.sn_machine.specs.declared.processor.Processor.{Processor as ProcessorUnit}
use Rattle.sn_machine.specs.declared.hardware.Hardware.{Hardware}
use Rattle.sn_machine.specs.Sound.{IsSound}
use Rattle.sn_machine.specs.Parts.{processor_as, state_of, unit_at, no_unit, IsWhole, HasRoom, Does}
use Rattle.sn_machine.proofs.Parts.{processor-at, is_here, unit-read, HasSameRest, carried-does}

-- what is known of the recovery point stays
pub record KeepsKnown (s t : Fabric) : Type 0 where
  pub count : length t.nodes ≡ length s.nodes
  pub known : (n : ℕ) → (node_at t n).known ≡ (node_at s n).known
  pub point : t.point ≡ s.point

pub keeps_by_clocks : (s t : Fabric) → IsSameClocks s t → KeepsKnown s t
keeps_by_clocks s t c = record { count = c.count; known = c.known; point = c.point }

pub keeps-same : (s : Fabric) → KeepsKnown s s
keeps-same s = record { count = refl; known = λ n. refl; point = refl }

-- one processor changes, and besides it only the fabric
pub record HasUnit (old new : Hardware) (n : ℕ) (y : ProcessorUnit) : Type 0 where
  pub processors : new.processors.items ≡ set old.processors.items n y
  pub controller : new.controller ≡ old.controller
  pub history : new.history ≡ old.history
  pub output : new.output ≡ old.output

module _ (h g : Hardware) (n : ℕ) (y : ProcessorUnit) (same : HasUnit h g n y) where
  pub unit-state : state_of g ≡ with_processor (record (state_of h) { fabric = g.fabric.fabric }) n (processor_as y)
  unit-state =
      rw (same.processors, same.controller, same.history, same.output)
      (ap (λ ps. record (state_of h) { fabric = g.fabric.fabric; processors = ps }) (map-set processor_as h.processors.items n y))

  module _ (l : n < length h.processors.items) where
    pub each_unit : (P : ℕ → ProcessorUnit → Type 0) → P n y → ((m : ℕ) → m ≢ n → P m (unit_at h.processors.items m)) → (m : ℕ) →
        P m (unit_at g.processors.items m)
    each_unit P here there m = rw same.processors
        (⊎_elim (λ (e : m ≡ n). rw e (rw (get_or-set_same h.processors.items n y no_unit l) here))
        (λ ne. rw (get_or-set_other h.processors.items n m y no_unit ne) (there m ne)) (cases_eq m n))

    pub unit-whole : IsWhole h → KeepsKnown h.fabric.fabric g.fabric.fabric →
        y.checkpoints.first ≡ (unit_at h.processors.items n).checkpoints.first → IsWhole g
    unit-whole w keeps first = record {
      count = rw same.processors (length-set h.processors.items n y ∙ w.count ∙ sym keeps.count);
      known = λ m lm. each_unit (λ k x. k < length g.processors.items → x.checkpoints.first ≡ (node_at g.fabric.fabric k).known)
          (λ lk. first ∙ w.known n l ∙ sym (keeps.known n)) (λ k ne lk. w.known k (low k lk) ∙ sym (keeps.known k)) m lm;
      point = rw same.controller (w.point ∙ sym keeps.point);
    }
      where
        low : (k : ℕ) → k < length g.processors.items → k < length h.processors.items
        low k lk = let e = ap length same.processors ∙ length-set h.processors.items n y in omega (arith, e, lk)

    pub unit-room : (unit_at h.processors.items n).input.room ≤ y.input.room + 1 → (events : ℕ) → HasRoom (events + 1) h → HasRoom events g
    unit-room more events room = record {
      records = rw same.history (let a = room.records in omega (arith, a));
      bytes = rw same.output (let a = room.bytes in omega (arith, a));
      given = λ m lm. each_unit (λ k x. k < length g.processors.items → events ≤ x.input.room)
          (λ lk. let a = room.given n l in omega (arith, a, more)) (λ k ne lk. let a = room.given k (low k lk) in omega (arith, a)) m lm;
    }
      where
        low : (k : ℕ) → k < length g.processors.items → k < length h.processors.items
        low k lk = let e = ap length same.processors ∙ length-set h.processors.items n y in omega (arith, e, lk)

-- at the place of the node that was meant
pub unit_placed : (h g : Hardware) (n place : ℕ) (y : ProcessorUnit) → place ≡ n → HasUnit h g place y → HasUnit h g n y
unit_placed h g n place y i same = subst (λ (k : ℕ). HasUnit h g k y) i same

-- a byte is given
given-there : (h g : Hardware) (n byte : ℕ) (input : InputData) → IsWhole h → n < length h.processors.items →
    HasUnit h g n (record (unit_at h.processors.items n) { input = input }) →
    input ≡ record {
      given = (unit_at h.processors.items n).input.given ++ byte ∷ [];
      room = (unit_at h.processors.items n).input.room - 1;
    } → g.fabric ≡ h.fabric → g.is_carried ≡ false →
    Does h g Given (step_of_input (state_of h) n byte)
given-there h g n byte input w here same gives fabric is = record {
  state = unit-state h g n (record (unit_at h.processors.items n) { input = input }) same ∙ rw (fabric, gives, processor-at h n here) refl;
  says = refl;
  sent = rw is refl;
  sizes = rw fabric refl;
  whole =
      unit-whole h g n (record (unit_at h.processors.items n) { input = input }) same here w (rw fabric (keeps-same h.fabric.fabric)) refl;
  room = unit-room h g n (record (unit_at h.processors.items n) { input = input }) same here (rw gives (omega arith));
}

pub given-does : (h g : Hardware) (n byte place : ℕ) (x : ProcessorUnit) (input : InputData) → IsWhole h → n < length h.fabric.fabric.nodes →
    place ≡ n → x ≡ get_or h.processors.items place x → HasUnit h g place (record x { input = input }) →
    input ≡ record { given = x.input.given ++ byte ∷ []; room = x.input.room - 1 } → g.fabric ≡ h.fabric → g.is_carried ≡ false →
    Does h g Given (step_of_input (state_of h) n byte)
given-does h g n byte place x input w l i r same gives fabric is =
    let e = unit-read h n place x w l i r in
    given-there h g n byte input w (is_here h n w l) (rw (i, e) at same) (rw e at gives) fabric is

-- an edge

module _ (h g : Hardware) (n : ℕ) (w : IsWhole h) (l : n < length h.fabric.fabric.nodes) where
  abbrev s : Fabric
  s = h.fabric.fabric

  -- one that is refused
  pub edge-refused : (answer : Answer) → ((k : ℕ) → answer ≢ Edged k) → IsAfter h.fabric g.fabric answer (step_of_edge s n) → HasSameRest h g →
      g.is_carried ≡ true →
      Does h g answer (edges (state_of h) n (step_of_edge s n))
  edge-refused answer not after same is = go (nat_eq ((node_at s n).now - (node_at s n).known) checkpoint_limit) after
    where
      go : (full : Bool) → IsAfter h.fabric g.fabric answer
          (if full then step_refused s CheckpointsFull
          else step_with_answer (with_node s n (after_edge (node_at s n))) (Edged ((node_at s n).now + 1))) →
          Does h g answer (edges (state_of h) n
          (if full then step_refused s CheckpointsFull else step_with_answer (with_node s n (after_edge (node_at s n))) (Edged ((node_at s n).now + 1))))
      go true a = carried-does h g answer (step_refused s CheckpointsFull) w a (same_clocks s) same is
      go false a = absurd (not ((node_at s n).now + 1) a.answer)

  -- one that is done
  after_keeps : KeepsKnown s (with_node s n (after_edge (node_at s n)))
  after_keeps = record {
    count = length-set s.nodes n (after_edge (node_at s n));
    known = λ m. part_set (λ x. x.known) s.nodes n m (after_edge (node_at s n)) first_node refl;
    point = refl;
  }

  pub edge-done : (k : ℕ) (y : ProcessorUnit) → IsAfter h.fabric g.fabric (Edged k) (step_of_edge s n) → HasUnit h g n y →
      processor_as y ≡ with_checkpoint (processor_as (unit_at h.processors.items n)) →
      y.checkpoints.first ≡ (unit_at h.processors.items n).checkpoints.first → y.input ≡ (unit_at h.processors.items n).input →
      g.is_carried ≡ true → Does h g (Edged k) (edges (state_of h) n (step_of_edge s n))
  edge-done k y after same is first input carried = go (nat_eq ((node_at s n).now - (node_at s n).known) checkpoint_limit) after
    where
      here : n < length h.processors.items
      here = is_here h n w l

      go : (full : Bool) → IsAfter h.fabric g.fabric (Edged k)
          (if full then step_refused s CheckpointsFull
          else step_with_answer (with_node s n (after_edge (node_at s n))) (Edged ((node_at s n).now + 1))) →
          Does h g (Edged k) (edges (state_of h) n
          (if full then step_refused s CheckpointsFull else step_with_answer (with_node s n (after_edge (node_at s n))) (Edged ((node_at s n).now + 1))))
      go true a = absurd (let e = a.answer in cc)
      go false a = record {
        state = unit-state h g n y same ∙ rw (a.left, is, processor-at h n here) refl;
        says = a.answer;
        sent = rw (carried, a.left) refl;
        sizes = rw a.left refl;
        whole = unit-whole h g n y same here w (rw a.left after_keeps) first;
        room = unit-room h g n y same here (rw input (omega arith));
      }

  -- which has the number after that of the newest checkpoint, and there is room for it
  pub edge-number : (k : ℕ) → IsSound (state_of h) → Edged k ≡ (step_of_edge s n).answer →
      (k ≡ next (unit_at h.processors.items n).checkpoints) × (length (unit_at h.processors.items n).checkpoints.cores < 5)
  edge-number k sound e = go (nat_eq ((node_at s n).now - (node_at s n).known) checkpoint_limit) refl e
    where
      here : n < length h.processors.items
      here = is_here h n w l

      count : (node_at s n).known + length (unit_at h.processors.items n).checkpoints.cores ≡ (node_at s n).now + 1
      count = ap (λ (p : Processor). (node_at s n).known + length p.checkpoints) (sym (processor-at h n here)) ∙ sound.shape.checkpoints n l

      go : (full : Bool) → nat_eq ((node_at s n).now - (node_at s n).known) checkpoint_limit ≡ full →
          Edged k ≡ (if full then step_refused s CheckpointsFull
          else step_with_answer (with_node s n (after_edge (node_at s n))) (Edged ((node_at s n).now + 1))).answer →
          (k ≡ next (unit_at h.processors.items n).checkpoints) × (length (unit_at h.processors.items n).checkpoints.cores < 5)
      go true full e = absurd cc
      go false full e =
          let is : k ≡ (node_at s n).now + 1 = cc in
          let first = w.known n here in
          let c = count in
          let few = (sound.times n l).few in
          let low = (sound.times n l).known in
          let high = (sound.times n l).reached in
          let not_full : (node_at s n).now - (node_at s n).known ≢ 4 = grind (arith, nat_tests) in
          (omega (arith, is, first, c), omega (arith, c, few, low, high, not_full))

-- an eviction

module _ (s : Fabric) (n block : ℕ) where
  -- a copy is lost exactly where the answer says so
  abbrev Tells : FabricStep → Type 0
  Tells moved = (moved.answer ≡ Evicted → moved.told ≡ Some (LostCopy n block)) × (moved.answer ≢ Evicted → moved.told ≡ None)

  putting_tells : (a b : Bool) (moved : FabricStep) → moved.answer ≡ PutBegun → moved.told ≡ None →
      Tells (if a then step_refused s PutOpen else if b then step_refused s NetFull else moved)
  putting_tells true b moved is told = (λ e. absurd cc, λ e. refl)
  putting_tells false true moved is told = (λ e. absurd cc, λ e. refl)
  putting_tells false false moved is told = (λ e. absurd cc, λ e. told)

  begins_tells : Tells (begins_put s n block)
  begins_tells = putting_tells (has_put (node_at s n).cache.put) (is_full s 1) _ refl refl

  evicts_tells : (state : LineState) → Tells (evicts s n block state)
  evicts_tells line.Absent = (λ e. absurd cc, λ e. refl)
  evicts_tells line.Shared = (λ e. refl, λ e. absurd (e refl))
  evicts_tells line.Owned = begins_tells
  evicts_tells line.Modified = begins_tells
  evicts_tells line.Exclusive = begins_tells

  evicting_tells : (a : Bool) → Tells (if a then step_refused s MissOpen else evicts s n block (line_of (node_at s n).cache block).state)
  evicting_tells true = (λ e. absurd cc, λ e. refl)
  evicting_tells false = evicts_tells (line_of (node_at s n).cache block).state

  pub evicted-tells : Tells (step_of_eviction s n block)
  evicted-tells = evicting_tells (misses_on (node_at s n).cache.miss block)

-- what is heard, where nothing is and where a copy is lost
pub hearing-none : (h g : Hardware) (said : Answer) (moved : FabricStep) → IsWhole h → IsAfter h.fabric g.fabric said moved →
    Rightly h.fabric.fabric moved.fabric moved.told → moved.told ≡ None → HasSameRest h g → g.is_carried ≡ true →
    Does h g said (machine_step_with_news (state_of h) moved)
hearing-none h g said moved w after right none same is =
    subst (λ t. Does h g said (machine_step_of (state_after_news (state_of h) t) moved)) (sym none)
    (carried-does h g said moved w after (subst (Rightly h.fabric.fabric moved.fabric) none right) same is)

pub hearing-lost : (h g : Hardware) (said : Answer) (moved : FabricStep) (n block : ℕ) (core : CoreState) → IsWhole h →
    n < length h.fabric.fabric.nodes → IsAfter h.fabric g.fabric said moved → Rightly h.fabric.fabric moved.fabric moved.told →
    moved.told ≡ Some (LostCopy n block) → HasUnit h g n (record (unit_at h.processors.items n) { core = core }) →
    core ≡ core_without_reservation (unit_at h.processors.items n).core block → g.is_carried ≡ true →
    Does h g said (machine_step_with_news (state_of h) moved)
hearing-lost h g said moved n block core w l after right lost same un is =
    let here = is_here h n w l in
    let clocks : IsSameClocks h.fabric.fabric moved.fabric = (subst (Rightly h.fabric.fabric moved.fabric) lost right).1 in
    record {
      state =
          unit-state h g n (record (unit_at h.processors.items n) { core = core }) same
          ∙ rw (lost, after.left, un, processor-at h n here) refl;
      says = after.answer;
      sent = rw (is, after.left) refl;
      sizes = rw after.left refl;
      whole =
          unit-whole h g n (record (unit_at h.processors.items n) { core = core }) same here w
          (rw after.left (keeps_by_clocks h.fabric.fabric moved.fabric clocks)) refl;
      room = unit-room h g n (record (unit_at h.processors.items n) { core = core }) same here (omega arith);
    }

-- the same of a processor that was read
pub hearing-lost-at : (h g : Hardware) (said : Answer) (moved : FabricStep) (n block place : ℕ) (x : ProcessorUnit) (core : CoreState) → IsWhole h →
    n < length h.fabric.fabric.nodes → IsAfter h.fabric g.fabric said moved → Rightly h.fabric.fabric moved.fabric moved.told →
    moved.told ≡ Some (LostCopy n block) → place ≡ n → x ≡ get_or h.processors.items place x →
    HasUnit h g place (record x { core = core }) → core ≡ core_without_reservation x.core block → g.is_carried ≡ true →
    Does h g said (machine_step_with_news (state_of h) moved)
hearing-lost-at h g said moved n block place x core w l after right lost i r same un is =
    let e = unit-read h n place x w l i r in
    hearing-lost h g said moved n block core w l after right lost (rw (i, e) at same) (rw e at un) is
