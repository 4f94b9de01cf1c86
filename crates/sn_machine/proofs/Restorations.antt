-- What a recovery comes to.
use Rattle.std.proofs.Common.{◌≡◌, ◌≢◌, ℕ, zero, suc, ◌+◌, ◌-◌, ◌<◌, true, List, [], ◌∷◌, ◌++◌, length, map, max, take, drop, get_or, set}
use Rattle.std.proofs.Common.{replicate, Option, Some, None, refl, sym, ap, ◌∙◌, arith, drop-cons}
use Rattle.std.proofs.lemmas.List.{length-map}
use Rattle.std.proofs.lemmas.List.Edits.{map_over_more}
use Rattle.std.proofs.lemmas.Option.{get_or_from_slice_get}
use Rattle.sn_base.specs.declared.event.Answer.{Answer}
use Rattle.sn_base.specs.declared.event.Answer.TheVariants.{Recovered, CutOff}
use Rattle.sn_base.specs.declared.event.Undo.{Undo}
use Rattle.rv_core.specs.declared.state.CoreState.{CoreState}
use Rattle.reg_ckpt.specs.Checkpoints.{Checkpoints, HasCheckpoint, core_at, freed_below, dropped_above}
use Rattle.interval_list.specs.WaitingList.{waiting_below}
use Rattle.route_plan.specs.Routes.{first_cut_off}
use Rattle.consistent_cuts.proofs.Recovery.{each_node}
use Rattle.sn_model.specs.Fabric.{Fabric, node_at, step_refused}
use Rattle.sn_model.specs.Machine.{Processor}
use Rattle.sn_model.specs.MachineEvents.{restored_processors, restored_processor, restored_rest, restores}
use Rattle.sn_model.specs.PointEvents.{step_of_recovery, recovers, fabric_restored_to, restored_node, living_switches, undone_count}
use Rattle.sn_fabric.specs.Fabric.{IsAfter}
use Rattle.consistent_cuts.proofs.Clocks.{same_clocks}
use Rattle.sn_machine.specs.declared.processor.Processor.{Processor as ProcessorUnit}
use Rattle.sn_machine.specs.declared.hardware.Hardware.{Hardware}
use Rattle.sn_machine.specs.Parts.{processor_as, state_of, unit_at, IsWhole, Does}
use Rattle.sn_machine.specs.Restored.{kept_core, restored_unit}
use Rattle.sn_machine.specs.Sound.{IsSound}
use Rattle.sn_machine.proofs.Lists.{held-dropped}
use Rattle.sn_machine.proofs.Parts.{processor-at, HasSameRest, carried-does}

-- one processor: the checkpoint alone is left

one_left : (xs : List CoreState) (i : ℕ) (d : CoreState) → i < length xs → take 1 (drop i xs) ≡ get_or xs i d ∷ []
one_left xs i d l = ap (take 1) (drop-cons xs i d l)

pub restored-one : (x : ProcessorUnit) (k : ℕ) (core : CoreState) (kept : Checkpoints) → HasCheckpoint x.checkpoints k →
    core_at x.checkpoints k ≡ Some core → kept ≡ dropped_above (freed_below x.checkpoints k) k →
    record { core = core; checkpoints = kept; input = x.input } ≡ restored_unit k x
restored-one x k core kept is at leaves =
    let first : max x.checkpoints.first k ≡ k = (let a = is.from in omega (arith, a)) in
    let i : k - x.checkpoints.first < length x.checkpoints.cores = (let a = is.from in let b = is.below in omega (arith, a, b)) in
    let one : k + 1 - k ≡ 1 = omega arith in
    let c : core ≡ kept_core k x = sym (get_or_from_slice_get x.checkpoints.cores (k - x.checkpoints.first) core x.core at) in
    rw (leaves, first, one, one_left x.checkpoints.cores (k - x.checkpoints.first) x.core i, c) refl

-- and all of them
pub restored-more : (k : ℕ) (old mid : List ProcessorUnit) (i : ℕ) (x y : ProcessorUnit) → i < length old →
    mid ≡ map (restored_unit k) (take i old) ++ drop i old → x ≡ get_or mid i x → y ≡ restored_unit k x →
    set mid i y ≡ map (restored_unit k) (take (i + 1) old) ++ drop (i + 1) old
restored-more k old mid i x y l is at restores = rw restores (map_over_more (restored_unit k) old mid i x l is at)

-- as the definitions restore them

core_as : (x : ProcessorUnit) (known k : ℕ) → x.checkpoints.first ≡ known →
    processor_as (restored_unit k x) ≡ restored_processor (processor_as x) known k
core_as x known k e = rw (← e) refl

pub restored-shown : (fabric : Fabric) (k n : ℕ) (xs : List ProcessorUnit) →
    ((m : ℕ) → m < length xs → (unit_at xs m).checkpoints.first ≡ (node_at fabric (n + m)).known) →
    map processor_as (map (restored_unit k) xs) ≡ restored_processors fabric k n (map processor_as xs)
restored-shown fabric k n [] first = refl
restored-shown fabric k n (x ∷ xs) first =
    let here : x.checkpoints.first
    ≡ (node_at fabric n).known = (let e : n + 0 ≡ n = omega arith in first 0 (omega arith) ∙ ap (λ j. (node_at fabric j).known) e) in
    let rest = restored-shown fabric k (n + 1) xs
    (λ m l. (let e : n + suc m ≡ n + 1 + m = omega arith in first (suc m) (omega (arith, l)) ∙ ap (λ j. (node_at fabric j).known) e)) in
    ap (λ p. p ∷ map processor_as (map (restored_unit k) xs)) (core_as x (node_at fabric n).known k here)
    ∙ ap (λ ps. restored_processor (processor_as x) (node_at fabric n).known k ∷ ps) rest

all_same : (p : ℕ) (xs : List ℕ) → replicate (length xs) p ≡ map (λ (k : ℕ). p) xs
all_same p [] = refl
all_same p (x ∷ xs) = ap (λ ys. p ∷ ys) (all_same p xs)

unit-mapped : (k : ℕ) (xs : List ProcessorUnit) (n : ℕ) → n < length xs → unit_at (map (restored_unit k) xs) n ≡ restored_unit k (unit_at xs n)
unit-mapped k [] n l = absurd (omega arith)
unit-mapped k (x ∷ xs) zero l = refl
unit-mapped k (x ∷ xs) (suc n) l = unit-mapped k xs n (omega (arith, l))

-- checkpoint k is kept at each node, where k is the recovery point
pub kept-all : (h : Hardware) → IsWhole h → IsSound (state_of h) → (n : ℕ) → n < length h.processors.items →
    HasCheckpoint (unit_at h.processors.items n).checkpoints h.fabric.fabric.point
kept-all h w sound n l =
    let here : n < length h.fabric.fabric.nodes = (let e = w.count in omega (arith, e, l)) in
    let first = w.known n l in
    let count = ap (λ (p : Processor). (node_at h.fabric.fabric n).known + length p.checkpoints) (sym (processor-at h n l))
    ∙ sound.shape.checkpoints n here in
    let low = (sound.times n here).known in
    let high = (sound.times n here).reached in
    record { from = omega (arith, first, low); below = omega (arith, first, count, high) }

restored_count : (s : Fabric) (k : ℕ) → length (fabric_restored_to s k).nodes ≡ length s.nodes
unfolding fabric_restored_to
restored_count s k = length-map s.nodes (restored_node k)

restored_known : (s : Fabric) (n : ℕ) → n < length s.nodes → (node_at (fabric_restored_to s s.point) n).known ≡ s.point
unfolding fabric_restored_to
restored_known s n l = each_node (λ m x y. m < length s.nodes → y.known ≡ s.point) s (λ m k h. refl) (λ m k h. absurd (omega arith)) n l

restored_point : (s : Fabric) (k : ℕ) → (fabric_restored_to s k).point ≡ s.point
unfolding fabric_restored_to
restored_point s k = refl

module _ (h g : Hardware) (w : IsWhole h) (sound : IsSound (state_of h)) where
  abbrev s : Fabric
  s = h.fabric.fabric

  -- a machine whose nodes aren't joined
  pub recover-refused : (answer : Answer) → ((undo : Undo) → answer ≢ Recovered undo) →
      IsAfter h.fabric g.fabric answer (step_of_recovery s s.point) → HasSameRest h g → g.is_carried ≡ true →
      Does h g answer (restores (state_of h) (step_of_recovery s s.point))
  recover-refused answer not after same is = go (first_cut_off (living_switches s)) after
    where
      go : (cut : Option (ℕ × ℕ)) → IsAfter h.fabric g.fabric answer (recovers s s.point cut) →
          Does h g answer (restores (state_of h) (recovers s s.point cut))
      go (Some pair) a = carried-does h g answer (step_refused s (CutOff pair.0 pair.1)) w a (same_clocks s) same is
      go None a = absurd (not (record { to = s.point; undone = undone_count s s.point; dropped = length s.net.flights }) a.answer)

  -- one that is back
  pub recover-done : (answer : Answer) (undo : Undo) → answer ≡ Recovered undo → IsAfter h.fabric g.fabric answer (step_of_recovery s s.point) →
      g.processors.items ≡ map (restored_unit s.point) h.processors.items →
      g.controller ≡ record h.controller { reported = replicate (length h.controller.reported) h.controller.point } →
      g.history ≡ record h.history { pending = [] } → g.output ≡ record h.output { held = waiting_below s.point h.output.held } →
      g.is_carried ≡ true →
      Does h g answer (restores (state_of h) (step_of_recovery s s.point))
  unfolding restored_rest
  recover-done answer undo said after processors controller history output is = go (first_cut_off (living_switches s)) after
    where
      go : (cut : Option (ℕ × ℕ)) → IsAfter h.fabric g.fabric answer (recovers s s.point cut) →
          Does h g answer (restores (state_of h) (recovers s s.point cut))
      go (Some pair) a = absurd (let e = sym said ∙ a.answer in cc)
      go None a = record {
        state =
            rw (
              a.left,
              processors,
              controller,
              history,
              output,
              restored-shown s s.point 0 h.processors.items
                  (λ m l. w.known m l ∙ (let e : m ≡ 0 + m = omega arith in ap (λ j. (node_at s j).known) e)),
              w.point,
              all_same s.point h.controller.reported,
              held-dropped s.point h.output.held sound.held,
            ) refl;
        says = a.answer;
        sent = rw (is, a.left) refl;
        sizes = rw a.left refl;
        whole = record {
          count =
              rw (processors, a.left) (length-map h.processors.items (restored_unit s.point) ∙ w.count ∙ sym (restored_count s s.point));
          known =
              rw (processors, a.left)
              (λ n l. let here : n < length h.processors.items = (let e = length-map h.processors.items (restored_unit s.point) in
              omega (arith, e, l)) in
              ap (λ (x : ProcessorUnit). x.checkpoints.first) (unit-mapped s.point h.processors.items n here)
              ∙ sym (restored_known s n (let e = w.count in omega (arith, e, here))));
          point = rw (controller, a.left) (w.point ∙ sym (restored_point s s.point));
        };
        room = λ events room. record {
          records = rw history (let x = room.records in omega (arith, x));
          bytes = rw output (let x = room.bytes in omega (arith, x));
          given =
              rw processors (λ n l. let here : n < length h.processors.items = (let e = length-map h.processors.items
              (restored_unit s.point) in omega (arith, e, l)) in
              rw (unit-mapped s.point h.processors.items n here) (let x = room.given n here in omega (arith, x)));
        };
      }
