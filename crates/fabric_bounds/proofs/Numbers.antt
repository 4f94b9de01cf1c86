-- How far each event takes the numbers.
use Rattle.std.proofs.Common.{◌≡◌, ◌∙◌, ℕ, suc, ◌+◌, ◌*◌, ◌<◌, ◌≤◌, false, List, [], ◌∷◌, length, refl, sym, subst, arith, nat_lt, Option}
use Rattle.std.proofs.Common.{Some, None}
use Rattle.std.proofs.lemmas.Bool.Decides.{nat_tests}
use Rattle.sn_base.specs.Image.{ImageData}
use Rattle.sn_base.specs.declared.block.Write.{Write as Written}
use Rattle.sn_base.specs.declared.config.Config.{Config}
use Rattle.rv_core.specs.Core.{block_of}
use Rattle.sn_model.specs.Access.{node_to_write}
use Rattle.sn_model.specs.Fabric.{Fabric, Node, FabricStep, node_at, first_node, first_fabric}
use Rattle.sn_model.specs.FabricEvents.{FabricEvent, Access, Write, Evict, Edge, Hop, Deliver, Lose, Kill, Report, Advance, Recover}
use Rattle.sn_model.specs.FabricEvents.{moved_by}
use Rattle.sn_model.specs.PointEvents.{step_of_recovery, recovers, fabric_restored_to, living_switches}
use Rattle.route_plan.specs.Routes.{first_cut_off}
use Rattle.fabric_coherence.specs.View.{GhostState}
use Rattle.fabric_coherence.specs.Coherent.{FabricInvariant, Keeps}
use Rattle.fabric_coherence.specs.Events.{MayBe}
use Rattle.fabric_coherence.specs.Runs.{IsFabricRun, fabric_after}
use Rattle.fabric_coherence.proofs.KeptEvents.{each_keeps}
use Rattle.fabric_coherence.proofs.NodesStay.{nodes_same}
use Rattle.fabric_coherence.proofs.Recovery.{each_node, replicated}
use Rattle.fabric_bounds.specs.Counts.{most_sent, SendsFew, CountsTo}
use Rattle.fabric_bounds.proofs.Steps.{IsStep}
use Rattle.fabric_bounds.proofs.Events.{event_step}

-- what an event makes of the numbers: each interval rises by one at most, or goes back to the recovery point
pub record Rises (s : Fabric) (x : FabricStep) : Type 0 where
  pub sends : SendsFew s x
  pub nows : (n : ℕ) → n < length s.nodes → (e : ℕ) → (node_at s n).now ≤ e → s.point ≤ e → (node_at x.fabric n).now ≤ e + 1
  pub point : x.fabric.point ≤ s.point + 1

rises : (config : Config) (s : Fabric) (x : FabricStep) → IsStep config s x → Rises s x
rises config s x step = record {
  sends = step.sends;
  nows = λ n l e h g. omega (arith, (step.nodes n l).now);
  point = step.point;
}

-- a write, with a log that has the room
roomy : Config → Fabric → ℕ → Written → Config
roomy config s n w = record config { log = length (node_to_write (node_at s n) (block_of w.address)).log }

not_less : (k : ℕ) → nat_lt k k ≡ false
not_less k = grind (arith, nat_tests)

write_rises : (config : Config) (s : Fabric) (t : GhostState) (n : ℕ) (w : Written) → FabricInvariant s t → MayBe s (Write n w) →
    Rises s (moved_by config s (Write n w))
unfolding moved_by roomy
write_rises config s t n w kept may = rises (roomy config s n w) s (moved_by config s (Write n w))
    (event_step (roomy config s n w) s t (Write n w) kept may (not_less (length (node_to_write (node_at s n) (block_of w.address)).log)) tt)

-- a recovery
none_more : (k : ℕ) → k ≡ k + 0
none_more k = omega arith

restored_now : (s : Fabric) (n : ℕ) → n < length s.nodes → (node_at (fabric_restored_to s s.point) n).now ≡ s.point
unfolding fabric_restored_to
restored_now s n l = each_node (λ m x y. m < length s.nodes → y.now ≡ s.point) s (λ m k h. refl) (λ m k h. absurd (omega arith)) n l

restored_point : (s : Fabric) (k : ℕ) → (fabric_restored_to s k).point ≡ s.point
unfolding fabric_restored_to
restored_point s k = refl

restored_next : (s : Fabric) (k : ℕ) → (fabric_restored_to s k).net.next_id ≡ s.net.next_id
unfolding fabric_restored_to
restored_next s k = refl

recovers_rises : (s : Fabric) (cut : Option (ℕ × ℕ)) → Rises s (recovers s s.point cut)
recovers_rises s (Some pair) =
    record { sends = record { few = omega arith; numbers = none_more s.net.next_id }; nows = λ n l e h g. omega arith; point = omega arith }
recovers_rises s None = record {
  sends = record { few = omega arith; numbers = restored_next s s.point ∙ none_more s.net.next_id };
  nows = λ n l e h g. omega (arith, restored_now s n l);
  point = omega (arith, restored_point s s.point);
}

recover_rises : (config : Config) (s : Fabric) (k : ℕ) → k ≡ s.point → Rises s (moved_by config s (Recover k))
unfolding moved_by
recover_rises config s k e = subst (λ j. Rises s (step_of_recovery s j)) (sym e) (recovers_rises s (first_cut_off (living_switches s)))

event_rises : (config : Config) (s : Fabric) (t : GhostState) (event : FabricEvent) → FabricInvariant s t → MayBe s event →
    Rises s (moved_by config s event)
event_rises config s t (Write n w) kept may = write_rises config s t n w kept may
event_rises config s t (Recover k) kept may = recover_rises config s k may
event_rises config s t (Access n block need) kept may = rises config s _ (event_step config s t (Access n block need) kept may tt tt)
event_rises config s t (Evict n block) kept may = rises config s _ (event_step config s t (Evict n block) kept may tt tt)
event_rises config s t (Edge n) kept may = rises config s _ (event_step config s t (Edge n) kept may tt tt)
event_rises config s t (Hop id) kept may = rises config s _ (event_step config s t (Hop id) kept may tt tt)
event_rises config s t (Deliver id) kept may = rises config s _ (event_step config s t (Deliver id) kept may tt tt)
event_rises config s t (Lose id) kept may = rises config s _ (event_step config s t (Lose id) kept may tt tt)
event_rises config s t (Kill switch) kept may = rises config s _ (event_step config s t (Kill switch) kept may tt tt)
event_rises config s t (Report n) kept may = rises config s _ (event_step config s t (Report n) kept may tt tt)
event_rises config s t (Advance k) kept may = rises config s _ (event_step config s t (Advance k) kept may tt tt)

pub event_sends : (config : Config) (s : Fabric) (t : GhostState) (event : FabricEvent) → FabricInvariant s t → MayBe s event →
    SendsFew s (moved_by config s event)
event_sends config s t event kept may = (event_rises config s t event kept may).sends

-- so a run takes them no further than its length says

pub start_counts : (image : ImageData) (nodes : ℕ) → CountsTo 0 (first_fabric image nodes)
start_counts image nodes = record {
  numbers = omega arith;
  nows = λ n l. subst (λ (x : Node). x.now ≤ 0) (sym (replicated nodes n first_node)) (omega arith);
  point = omega arith;
}

one_more : (e : ℕ) (s : Fabric) (x : FabricStep) → length x.fabric.nodes ≡ length s.nodes → Rises s x → CountsTo e s → CountsTo (e + 1) x.fabric
one_more e s x count step counts = record {
  numbers = next_number s.net.next_id x.fabric.net.next_id (length x.sent) counts.numbers step.sends.few step.sends.numbers;
  nows = λ n l. let k : n < length s.nodes = subst (λ c. n < c) count l in step.nows n k e (counts.nows n k) counts.point;
  point = omega (arith, step.point, counts.point);
}
  where
    next_number : (old new sent : ℕ) → old ≤ most_sent * e + 1 → sent ≤ most_sent → new ≡ old + sent → new ≤ most_sent * (e + 1) + 1
    next_number old new sent h f g = omega arith

pub run_counts : (config : Config) (e : ℕ) (s : Fabric) (events : List FabricEvent) → Keeps s → CountsTo e s → IsFabricRun config s events →
    CountsTo (e + length events) (fabric_after config s events)
run_counts config e s [] keeps counts run = subst (λ k. CountsTo k s) (none_more e) counts
run_counts config e s (event ∷ events) keeps counts run =
    subst (λ k. CountsTo k (fabric_after config (moved_by config s event).fabric events)) (then_one e (length events))
    (run_counts config (e + 1) (moved_by config s event).fabric events (each_keeps config s event keeps run.0)
    (one_more e s (moved_by config s event) (nodes_same config s event) (event_rises config s keeps.0 event keeps.1 run.0) counts) run.1)
  where
    then_one : (a b : ℕ) → a + 1 + b ≡ a + suc b
    then_one a b = omega arith

pub counts_from_the_start : (config : Config) (s : Fabric) (events : List FabricEvent) → Keeps s → CountsTo 0 s → IsFabricRun config s events →
    CountsTo (length events) (fabric_after config s events)
counts_from_the_start config s events keeps counts run =
    subst (λ k. CountsTo k (fabric_after config s events)) (none_before (length events)) (run_counts config 0 s events keeps counts run)
  where
    none_before : (k : ℕ) → 0 + k ≡ k
    none_before k = omega arith

pub far_from_the_end : (s : Fabric) (events : ℕ) → CountsTo events s → events ≤ 4000000000 → s.net.next_id < 9223372036854775808
far_from_the_end s events counts few = far s.net.next_id events counts.numbers few
  where
    far : (next events : ℕ) → next ≤ most_sent * events + 1 → events ≤ 4000000000 → next < 9223372036854775808
    far next events h g = omega arith
