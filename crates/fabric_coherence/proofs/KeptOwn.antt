-- A clock edge and a recovery lead every block on.
use Rattle.std.proofs.Common.{◌≡◌, ◌⊎◌, inl, inr, ⊎_elim, ◌∙◌, ℕ, suc, ◌+◌, ◌-◌, ◌<◌, ◌≤◌, Bool, true, false, List, [], ◌∷◌, length, refl}
use Rattle.std.proofs.Common.{ap, sym, subst, arith, if◌then◌else◌, nat_eq, map, length-set, Option, Some, None}
use Rattle.std.proofs.lemmas.Bool.{cases_eq}
use Rattle.std.proofs.lemmas.Bool.Decides.{nat_tests}
use Rattle.sn_coherence.specs.Block.{set, set_row}
use Rattle.std.proofs.lemmas.List.{length-map, length-replicate}
use Rattle.log_buffer.specs.Log.{LogEntry}
use Rattle.sn_base.specs.declared.event.Answer.TheVariants.{CheckpointsFull, Edged, CutOff}
use Rattle.route_plan.specs.Routes.{first_cut_off}
use Rattle.sn_model.specs.Caches.{Line, block_count}
use Rattle.sn_model.specs.Homes.{HomeEntry}
use Rattle.sn_model.specs.FabricEvents as event
use Rattle.sn_model.specs.Fabric.{Fabric, node_at, with_node, home_of, FabricStep, step_refused, step_with_answer}
use Rattle.sn_model.specs.NodeEvents.{step_of_edge, after_edge, checkpoint_limit}
use Rattle.sn_model.specs.PointEvents.{step_of_recovery, recovers, fabric_restored_to, restored_node, restored_lines, restored_homes, living_switches}
use Rattle.sn_coherence.specs.OtherEvents.{edge, recover}
use Rattle.sn_coherence.specs.Events.{Edge, Recover, Allows}
use Rattle.sn_coherence.specs.Records.{unreserves, rolls_back}
use Rattle.fabric_coherence.specs.View.{GhostState, block_seen}
use Rattle.fabric_coherence.specs.Steps.{IsShaped}
use Rattle.fabric_coherence.specs.Sends.{IsNetShaped}
use Rattle.fabric_coherence.specs.NodeSeen.{ghost_after_edge, ghost_after_recovery}
use Rattle.fabric_coherence.specs.Coherent.{FabricInvariant}
use Rattle.fabric_coherence.specs.Recorded.{noted_by}
use Rattle.fabric_coherence.specs.Leads.{is_framed, KeepsFrames, Goes}
use Rattle.fabric_coherence.proofs.NetShape.{with_node-shaped, restored-shaped}
use Rattle.fabric_coherence.proofs.NodeOther.{edge-seen}
use Rattle.fabric_coherence.proofs.Recovery.{recovery-seen, each_node, restored_home_at}
use Rattle.fabric_coherence.proofs.KeptCommon.{frames_stay, event_leads, goes_each, as_it_is}

-- there is room for a checkpoint
has_room : (now known : ℕ) → nat_eq (now - known) checkpoint_limit ≡ false → now ≤ known + 4 → now < known + 4
has_room now known e l = grind (arith, nat_tests)

-- a row of frames with a new edge: at it stands h, and else what stood before
edge_row : (f : ℕ → ℕ → ℕ → Bool) (h : ℕ → ℕ → Bool) (n k m j : ℕ) →
    ((b : ℕ) → set_row (f b) n (set (f b n) k (h b n)) m j ≡ f b m j) ⊎ ((b : ℕ) → set_row (f b) n (set (f b n) k (h b n)) m j ≡ h b m)
edge_row f h n k m j = ⊎_elim
    (λ (e : m ≡ n). ⊎_elim
    (λ (d : j ≡ k). inr (λ b. edge_at b e d))
    (λ (d : j ≡ k → ⊥). inl (λ b. edge_past b (λ g i. d i)))
    (cases_eq j k))
    (λ (e : m ≡ n → ⊥). inl (λ b. edge_past b (λ g i. e g)))
    (cases_eq m n)
  where
    edge_at : (b : ℕ) → m ≡ n → j ≡ k → set_row (f b) n (set (f b n) k (h b n)) m j ≡ h b m
    edge_at b e d = grind (arith, nat_tests)

    edge_past : (b : ℕ) → (m ≡ n → j ≡ k → ⊥) → set_row (f b) n (set (f b n) k (h b n)) m j ≡ f b m j
    edge_past b e = grind (arith, nat_tests)

module _ (s : Fabric) (t : GhostState) (kept : FabricInvariant s t) (n : ℕ) (l : n < length s.nodes) where
  edge_frames : KeepsFrames s t (ghost_after_edge s t n)
  edge_frames m j = edge_row t.framed (λ b x. is_framed (block_seen s t b) x) n ((node_at s n).now + 1) m j

  edge_goes : nat_eq ((node_at s n).now - (node_at s n).known) checkpoint_limit ≡ false →
      Goes s t (λ b r. unreserves r n) (with_node s n (after_edge (node_at s n))) (ghost_after_edge s t n)
  edge_goes e =
      goes_each s t (λ b r. unreserves r n) (with_node s n (after_edge (node_at s n))) (ghost_after_edge s t n)
      (length-set s.nodes n (after_edge (node_at s n))) edge_frames
      (with_node-shaped s n (after_edge (node_at s n)) kept.shape l (kept.shape.lines n l))
      (λ b. edge (block_seen s t b) n) (λ b w. edge-seen s t n b l)
      (λ b w. event_leads (length s.nodes) (block_seen s t b) (Edge n) (allowed b w) (λ r. allowed b w))
    where
      allowed : (b : ℕ) → b < block_count → Allows (length s.nodes) (block_seen s t b) (Edge n)
      allowed b w = (l, has_room (node_at s n).now (node_at s n).known e ((kept.blocks b w).clocks.now_known n l))

  abbrev edged_by : Bool → FabricStep
  edged_by full =
      if full then step_refused s CheckpointsFull else step_with_answer (with_node s n (after_edge (node_at s n))) (Edged ((node_at s n).now + 1))

  -- a clock edge
  pub edged_goes : (u : GhostState) × Goes s t (noted_by s (event.Edge n) (step_of_edge s n)) (step_of_edge s n).fabric u
  edged_goes = either (nat_eq ((node_at s n).now - (node_at s n).known) checkpoint_limit) refl
    where
      either : (full : Bool) → nat_eq ((node_at s n).now - (node_at s n).known) checkpoint_limit ≡ full →
          (u : GhostState) × Goes s t (noted_by s (event.Edge n) (edged_by full)) (edged_by full).fabric u
      either true e = as_it_is s t CheckpointsFull kept.shape
      either false e = (ghost_after_edge s t n, edge_goes e)

-- a recovery

length-restored_lines : (log : List LogEntry) (k block : ℕ) (lines : List Line) → length (restored_lines log k block lines) ≡ length lines
length-restored_lines log k block [] = refl
length-restored_lines log k block (line ∷ lines) = ap suc (length-restored_lines log k (block + 1) lines)

length-restored_homes : (s : Fabric) (k block : ℕ) (homes : List HomeEntry) → length (restored_homes s k block homes) ≡ length homes
length-restored_homes s k block [] = refl
length-restored_homes s k block (entry ∷ homes) = ap suc (length-restored_homes s k (block + 1) homes)

module _ (s : Fabric) (shape : IsShaped s) where
  pub length-restored_nodes : length (fabric_restored_to s s.point).nodes ≡ length s.nodes
  unfolding fabric_restored_to
  length-restored_nodes = length-map s.nodes (restored_node s.point)

  lines_restored : (m : ℕ) → m < length s.nodes → length (node_at (fabric_restored_to s s.point) m).cache.lines ≡ block_count
  unfolding fabric_restored_to
  lines_restored m l = each_node (λ m x y. m < length s.nodes → length y.cache.lines ≡ block_count) s
      (λ m q r. length-restored_lines (node_at s m).log s.point 0 (node_at s m).cache.lines ∙ shape.lines m r)
      (λ m q r. absurd (omega arith)) m l

  homes_restored : length (fabric_restored_to s s.point).homes ≡ block_count
  unfolding fabric_restored_to
  homes_restored = length-restored_homes s s.point 0 s.homes ∙ shape.homes

  sharers_restored : (b : ℕ) → b < block_count → length (home_of (fabric_restored_to s s.point) b).sharers ≡ 16
  unfolding fabric_restored_to
  sharers_restored b l =
      ap (λ (e : HomeEntry). length e.sharers) (restored_home_at s s.point b (subst (λ k. b < k) (sym shape.homes) l))
      ∙ length-replicate 16 false

  net_restored : IsNetShaped (fabric_restored_to s s.point).net (length (fabric_restored_to s s.point).nodes)
  unfolding fabric_restored_to
  net_restored = restored-shaped s.net (length (map (restored_node s.point) s.nodes))

  pub recovery-shaped : IsShaped (fabric_restored_to s s.point)
  recovery-shaped = record {
    some = subst (λ k. 1 ≤ k) (sym length-restored_nodes) shape.some;
    few = subst (λ k. k ≤ 16) (sym length-restored_nodes) shape.few;
    lines = λ m l. lines_restored m (subst (λ k. m < k) length-restored_nodes l);
    homes = homes_restored;
    sharers = sharers_restored;
    below = net_restored.below;
    within = net_restored.within;
    rising = net_restored.rising;
  }

module _ (s : Fabric) (t : GhostState) (kept : FabricInvariant s t) where
  restored_goes : Goes s t (λ b r. rolls_back r (length s.nodes) s.point) (fabric_restored_to s s.point) (ghost_after_recovery t)
  restored_goes =
      goes_each s t (λ b r. rolls_back r (length s.nodes) s.point) (fabric_restored_to s s.point) (ghost_after_recovery t)
      (length-restored_nodes s kept.shape) (frames_stay s t) (recovery-shaped s kept.shape)
      (λ b. recover (length s.nodes) (block_seen s t b)) (λ b w. recovery-seen s t b kept.shape w)
      (λ b w. event_leads (length s.nodes) (block_seen s t b) Recover tt (λ r. tt))

  recovers_goes : (cut : Option (ℕ × ℕ)) →
      (u : GhostState) × Goes s t (noted_by s (event.Recover s.point) (recovers s s.point cut)) (recovers s s.point cut).fabric u
  recovers_goes (Some pair) = as_it_is s t (CutOff pair.0 pair.1) kept.shape
  recovers_goes None = (ghost_after_recovery t, restored_goes)

  -- a recovery
  pub recovered_goes : (k : ℕ) → k ≡ s.point →
      (u : GhostState) × Goes s t (noted_by s (event.Recover k) (step_of_recovery s k)) (step_of_recovery s k).fabric u
  recovered_goes k e =
      subst (λ j. (u : GhostState) × Goes s t (noted_by s (event.Recover j) (step_of_recovery s j)) (step_of_recovery s j).fabric u) (sym e)
      (recovers_goes (first_cut_off (living_switches s)))
