-- Where a saved machine goes on it is as a recovery leaves a machine: just the cut, which is the last state of what is committed.
use Rattle.std.proofs.Common.{◌≡◌, ◌≢◌, ℕ, ◌+◌, ◌<◌, ◌≤◌, Bool, true, false, cond, List, [], ◌∷◌, length, refl, sym, ap, ◌∙◌, subst, arith, nat_eq}
use Rattle.std.proofs.Common.{Option, Some, None}
use Rattle.std.proofs.lemmas.Bool.Decides.{nat_tests}
use Rattle.std.proofs.lemmas.List.{get_or-replicate}
use Rattle.std.proofs.lemmas.List.FromFn.{get_or-map-range_with_len}
use Rattle.sn_base.specs.Image.{ImageData}
use Rattle.rv_core.specs.Core.{bare}
use Rattle.rv_core.specs.Flat.{FlatState, core_at}
use Rattle.rv_core.specs.Execution.{end_of}
use Rattle.sn_model.specs.declared.cache.LineState.TheVariants.{Absent, Modified}
use Rattle.sn_model.specs.Caches.{Line, line_of, block_count}
use Rattle.sn_model.specs.Fabric.{Fabric, Node, node_at, home_of}
use Rattle.sn_model.specs.Homes.{Holder, HomeEntry, Itself, OfCache}
use Rattle.sn_model.specs.Machine.{State, Processor, processor_at, first_processor}
use Rattle.sn_model.specs.PointEvents.{restored_line}
use Rattle.sn_model.specs.RecoveryPoint.{IsRestored, IsRestoredNode, IsOwned, block_in}
use Rattle.fabric_bounds.specs.Resumed.{content_owned, cache_resumed, node_resumed, holder_resumed, processor_resumed, flat_resumed, resumed}
use Rattle.fabric_bounds.specs.Saved.{Saved, IsAccepted, owner_in}
use Rattle.fabric_bounds.specs.Start.{is_home_owned, owner_or_zero}
use Rattle.fabric_bounds.proofs.KeptResumed.{count_resumed, node_resumed_is, line_resumed, home_resumed_is, owner_low}

module _ (image : ImageData) (saved : Saved) (accepted : IsAccepted image saved) where
  abbrev N : ℕ
  N = saved.config.nodes

  abbrev point : ℕ
  point = saved.marks.point

  abbrev flat : FlatState
  flat = flat_resumed image saved

  abbrev content : ℕ → List ℕ
  content = block_in flat.memory

  abbrev s : State
  s = resumed image saved

  count : length s.fabric.nodes ≡ N
  count = count_resumed N point saved.marks.next_id saved.owners content saved.marks.dead

  low : (n : ℕ) → n < length s.fabric.nodes → n < N
  low n l = subst (λ c. n < c) count l

  node_is : (n : ℕ) → n < N → node_at s.fabric n ≡ node_resumed saved.owners content point n
  node_is n l = node_resumed_is N point saved.marks.next_id saved.owners content saved.marks.dead n l

  processor_is : (n : ℕ) → n < N → processor_at s n ≡ processor_resumed flat saved.given n
  processor_is n l = get_or-map-range_with_len (processor_resumed flat saved.given) 0 N n n (first_processor 0 0) l (omega arith)

  line_is : (n b : ℕ) → n < N → b < block_count →
      line_of (node_at s.fabric n).cache b ≡ restored_line (content_owned (owner_in saved.owners b) n (content b))
  line_is n b l within = ap (λ (x : Node). line_of x.cache b) (node_is n l) ∙ line_resumed saved.owners content n b within

  restored_node : (n : ℕ) → n < N → IsRestoredNode (node_at s.fabric n) point
  restored_node n l = let e = node_is n l in record {
    now = ap (λ x. x.now) e;
    known = ap (λ x. x.known) e;
    log = ap (λ x. x.log) e;
    miss = ap (λ x. x.cache.miss) e;
    put = ap (λ x. x.cache.put) e;
  }

  owned_by : (b : ℕ) → b < block_count → (o : Option ℕ) → owner_in saved.owners b ≡ o →
      IsOwned s.fabric b (content b) (holder_resumed o (content b))
  owned_by b within None e = (
    refl,
    λ n l. ap (λ (x : Line). x.state) (line_is n b (low n l) within ∙ ap (λ o. restored_line (content_owned o n (content b))) e),
  )
  owned_by b within (Some owner) e = (
    subst (λ c. owner < c) (sym count) there,
    line_is owner b there within ∙ ap (λ o. restored_line (content_owned o owner (content b))) e
        ∙ ap (λ q. restored_line (cond q (Some (content b)) None)) itself,
    λ n l other. ap (λ (x : Line). x.state)
        (line_is n b (low n l) within ∙ ap (λ o. restored_line (content_owned o n (content b))) e
        ∙ ap (λ q. restored_line (cond q (Some (content b)) None)) (another n other)),
  )
    where
      there : owner < N
      there =
          subst (λ o. owner_or_zero o < N) e (owner_low N saved.owners b accepted.form.blocks (ap is_home_owned e))

      itself : nat_eq owner owner ≡ true
      itself = grind (arith, nat_tests)

      another : (n : ℕ) → n ≢ owner → nat_eq owner n ≡ false
      another n other = grind (arith, nat_tests)

  home_is : (b : ℕ) → b < block_count → (home_of s.fabric b).holder ≡ holder_resumed (owner_in saved.owners b) (content b)
  home_is b within = ap (λ (e : HomeEntry). e.holder) (home_resumed_is saved.owners content b within)

  pub resumed_restored : IsRestored s (end_of image N saved.committed)
  resumed_restored = record {
    nodes = λ n l. restored_node n (low n l);
    registers = λ n l. ap (λ (p : Processor). p.core) (processor_is n (low n l));
    reported = λ n l. get_or-replicate N n point 0 (low n l);
    taken = λ n l. omega arith;
    blocks =
        λ b l. subst (IsOwned s.fabric b (content b)) (sym (home_is b l)) (owned_by b l (owner_in saved.owners b) refl);
    sharers = λ b l. ap (λ (e : HomeEntry). e.sharers) (home_resumed_is saved.owners content b l);
    transactions = λ b l. ap (λ (e : HomeEntry). e.transaction) (home_resumed_is saved.owners content b l);
    net = refl;
    pending = refl;
    held = refl;
  }
