-- Every event keeps the bounds, and so does every run.
use Rattle.std.proofs.Common.{◌≡◌, ◌∙◌, ◌⊎◌, inl, inr, ⊎_elim, ℕ, ◌<◌, ◌≤◌, List, [], ◌∷◌, length, refl, sym, subst, arith, Option, Some}
use Rattle.std.proofs.Common.{None}
use Rattle.std.specs.Prelude.{slice_index_or, replicate, map}
use Rattle.sn_base.specs.Image.{ImageData}
use Rattle.sn_base.specs.declared.config.Config.{Config}
use Rattle.sn_base.specs.declared.event.Answer.TheVariants.{CutOff}
use Rattle.sn_model.specs.Caches.{empty_cache}
use Rattle.sn_model.specs.Fabric.{Fabric, Node, FabricStep, node_at, first_node, first_fabric}
use Rattle.sn_model.specs.FabricEvents.{FabricEvent, Access, Write, Evict, Edge, Hop, Deliver, Lose, Kill, Report, Advance, Recover}
use Rattle.sn_model.specs.FabricEvents.{moved_by}
use Rattle.sn_model.specs.PointEvents.{step_of_recovery, recovers, fabric_restored_to, restored_node, living_switches}
use Rattle.route_plan.specs.Routes.{first_cut_off}
use Rattle.sn_model.proofs.Taken.{fits-none}
use Rattle.fabric_coherence.specs.View.{GhostState, block_seen}
use Rattle.fabric_coherence.specs.Leads.{is_framed, KeepsFrames}
use Rattle.fabric_coherence.specs.Coherent.{FabricInvariant}
use Rattle.fabric_coherence.specs.Events.{MayBe}
use Rattle.fabric_coherence.specs.Runs.{fabric_after}
use Rattle.fabric_coherence.specs.Start.{first_ghost}
use Rattle.fabric_coherence.proofs.KeptEvents.{each_keeps_frames}
use Rattle.fabric_coherence.proofs.NodesStay.{nodes_same}
use Rattle.fabric_coherence.proofs.Recovery.{each_node, replicated}
use Rattle.fabric_bounds.specs.Bounds.{CacheFits, EdgeFits, IsBounded, KeepsBounds, HasLogRoom, IsServedRun}
use Rattle.fabric_bounds.proofs.Steps.{IsStep, same_step}
use Rattle.fabric_bounds.proofs.Events.{IsNoRecovery, event_step}
use Rattle.fabric_bounds.proofs.Cuts.{framed_takes, cut_fits}

-- the start

empty_fits : (config : Config) → CacheFits config empty_cache
empty_fits config = fits-none config.sets config.ways

first_at : (nodes n : ℕ) → slice_index_or (replicate nodes first_node) n first_node ≡ first_node
first_at nodes n = replicated nodes n first_node

pub start_bounded : (image : ImageData) (config : Config) (nodes : ℕ) → IsBounded config (first_fabric image nodes) first_ghost
start_bounded image config nodes = record {
  logs = λ n l. subst (λ (x : Node). length x.log ≤ config.log) (sym (first_at nodes n)) (omega arith);
  net = omega arith;
  frames = λ n l. subst (λ (x : Node). CacheFits config x.cache) (sym (first_at nodes n)) (empty_fits config);
  edges = λ n j l. (empty_cache, empty_fits config, λ b low e. absurd (cc));
}

-- an event

edge_fits : (config : Config) (s : Fabric) (t u : GhostState) → KeepsFrames s t u → IsBounded config s t → (n j : ℕ) → n < length s.nodes →
    EdgeFits config u n j
edge_fits config s t u frames bounded n j l = either (frames n j)
  where
    before : EdgeFits config t n j
    before = bounded.edges n j l

    either : ((b : ℕ) → u.framed b n j ≡ t.framed b n j) ⊎ ((b : ℕ) → u.framed b n j ≡ is_framed (block_seen s t b) n) →
        EdgeFits config u n j
    either (inl same) = (before.0, before.1, λ b low e. before.2 b low (sym (same b) ∙ e))
    either (inr new) = ((node_at s n).cache, bounded.frames n l, λ b low e. sym (framed_takes s t n b) ∙ (sym (new b) ∙ e))

stepped : (config : Config) (s : Fabric) (t u : GhostState) (x : FabricStep) → length x.fabric.nodes ≡ length s.nodes → IsStep config s x →
    KeepsFrames s t u → IsBounded config s t → IsBounded config x.fabric u
stepped config s t u x count step frames bounded = record {
  logs = λ n l. (step.nodes n (there n l)).log (bounded.logs n (there n l));
  net = step.net bounded.net;
  frames = λ n l. (step.nodes n (there n l)).frames (bounded.frames n (there n l));
  edges = λ n j l. edge_fits config s t u frames bounded n j (there n l);
}
  where
    there : (n : ℕ) → n < length x.fabric.nodes → n < length s.nodes
    there n l = subst (λ c. n < c) count l

-- a recovery

restored_bounded : (config : Config) (s : Fabric) (t u : GhostState) → length (fabric_restored_to s s.point).nodes ≡ length s.nodes → FabricInvariant s t →
    KeepsFrames s t u → IsBounded config s t → IsBounded config (fabric_restored_to s s.point) u
unfolding fabric_restored_to
restored_bounded config s t u count kept frames bounded = record {
  logs =
      λ n l. each_node (λ m x y. m < length s.nodes → length y.log ≤ config.log) s (λ m k h. omega arith) (λ m k h. omega arith) n
      (there n l);
  net = omega arith;
  frames =
      λ n l. each_node (λ m x y. m < length s.nodes → CacheFits config y.cache) s
      (λ m k h. cut_fits config s t kept bounded m s.point h (omega arith)) (λ m k h. absurd (omega arith)) n (there n l);
  edges = λ n j l. edge_fits config s t u frames bounded n j (there n l);
}
  where
    there : (n : ℕ) → n < length (map (restored_node s.point) s.nodes) → n < length s.nodes
    there n l = subst (λ c. n < c) count l

recovers_bounded : (config : Config) (s : Fabric) (t u : GhostState) (cut : Option (ℕ × ℕ)) →
    length (recovers s s.point cut).fabric.nodes ≡ length s.nodes → FabricInvariant s t → KeepsFrames s t u → IsBounded config s t →
    IsBounded config (recovers s s.point cut).fabric u
recovers_bounded config s t u (Some pair) count kept frames bounded =
    stepped config s t u (recovers s s.point (Some pair)) count (same_step config s (CutOff pair.0 pair.1)) frames bounded
recovers_bounded config s t u None count kept frames bounded = restored_bounded config s t u count kept frames bounded

recover_bounded : (config : Config) (s : Fabric) (t u : GhostState) (k : ℕ) → k ≡ s.point →
    length (moved_by config s (Recover k)).fabric.nodes ≡ length s.nodes → FabricInvariant s t → KeepsFrames s t u → IsBounded config s t →
    IsBounded config (moved_by config s (Recover k)).fabric u
unfolding moved_by
recover_bounded config s t u k e =
    subst (λ j. length (step_of_recovery s j).fabric.nodes ≡ length s.nodes → FabricInvariant s t → KeepsFrames s t u → IsBounded config s t →
    IsBounded config (step_of_recovery s j).fabric u) (sym e)
    (recovers_bounded config s t u (first_cut_off (living_switches s)))

-- a recovery, or another event
no_recovery_or : (event : FabricEvent) → ((k : ℕ) × (event ≡ Recover k)) ⊎ IsNoRecovery event
no_recovery_or (Recover k) = inl (k, refl)
no_recovery_or (Access n block need) = inr tt
no_recovery_or (Write n w) = inr tt
no_recovery_or (Evict n block) = inr tt
no_recovery_or (Edge n) = inr tt
no_recovery_or (Hop id) = inr tt
no_recovery_or (Deliver id) = inr tt
no_recovery_or (Lose id) = inr tt
no_recovery_or (Kill switch) = inr tt
no_recovery_or (Report n) = inr tt
no_recovery_or (Advance k) = inr tt

event_bounded : (config : Config) (s : Fabric) (t u : GhostState) (event : FabricEvent) → FabricInvariant s t → MayBe s event → HasLogRoom config s event →
    KeepsFrames s t u → IsBounded config s t → IsBounded config (moved_by config s event).fabric u
event_bounded config s t u event kept may room frames bounded = ⊎_elim
    (λ (r : (k : ℕ) × (event ≡ Recover k)). subst (λ e. MayBe s e → IsBounded config (moved_by config s e).fabric u) (sym r.1)
    (λ (m : r.0 ≡ s.point). recover_bounded config s t u r.0 m (nodes_same config s (Recover r.0)) kept frames bounded) may)
    (λ (other : IsNoRecovery event). stepped config s t u (moved_by config s event) (nodes_same config s event)
    (event_step config s t event kept may room other) frames bounded)
    (no_recovery_or event)

pub each_keeps_bounds : (config : Config) (s : Fabric) (event : FabricEvent) → KeepsBounds config s → MayBe s event →
    HasLogRoom config s event → KeepsBounds config (moved_by config s event).fabric
each_keeps_bounds config s event k may room =
    let g = each_keeps_frames config s k.0 event k.1 may in
    (g.0, g.1, event_bounded config s k.0 g.0 event k.1 may room g.2 k.2)

pub run_keeps_bounds : (config : Config) (s : Fabric) (events : List FabricEvent) → KeepsBounds config s → IsServedRun config s events →
    KeepsBounds config (fabric_after config s events)
run_keeps_bounds config s [] k run = k
run_keeps_bounds config s (event ∷ events) k run =
    run_keeps_bounds config (moved_by config s event).fabric events (each_keeps_bounds config s event k run.0.0 run.0.1) run.1
