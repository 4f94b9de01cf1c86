-- An access that its line serves: a load, an LR, a store, an SC that is done and one that isn't, as events of every block.
use Rattle.std.proofs.Common.{◌≡◌, ◌≢◌, ◌∙◌, ℕ, ◌+◌, ◌<◌, ◌≤◌, Bool, true, false, List, length, refl, sym, subst, arith, nat_eq, length-set}
use Rattle.std.proofs.Common.{if◌then◌else◌}
use Rattle.std.proofs.lemmas.Bool.Decides.{nat_tests}
use Rattle.sn_base.specs.declared.block.Write.{Write}
use Rattle.log_buffer.specs.Log.{logged_to}
use Rattle.sn_model.specs.Access.{fabric_with_write, with_write, written_in, node_to_write}
use Rattle.sn_model.specs.Caches.{block_count, line_of, is_present}
use Rattle.sn_model.specs.Fabric.{Fabric, node_at}
use Rattle.sn_coherence.specs.Block.{is_writable}
use Rattle.sn_coherence.specs.OtherEvents.{store}
use Rattle.sn_coherence.specs.Events.{Load, LoadReserved, Store, StoreConditionalDone, StoreConditionalUndone, Free}
use Rattle.sn_coherence.specs.Invariant.{BlockInvariant}
use Rattle.sn_coherence.specs.RecordsInvariant.{RecordsInvariant}
use Rattle.sn_coherence.specs.Same.{IsSame}
use Rattle.sn_coherence.specs.Records.{Records, loads, loads_reserved, stores, stores_conditional, unreserves}
use Rattle.sn_coherence.proofs.WholeRecords.{event_recorded}
use Rattle.sn_coherence.proofs.Whole.{event_kept}
use Rattle.sn_coherence.proofs.Same.{same_kept, same_kept_records}
use Rattle.fabric_coherence.specs.View.{GhostState, block_seen}
use Rattle.fabric_coherence.specs.Steps.{IsShaped}
use Rattle.fabric_coherence.specs.Coherent.{FabricInvariant}
use Rattle.fabric_coherence.specs.Events.{CanUse, CanWrite}
use Rattle.fabric_coherence.specs.Recorded.{at_block}
use Rattle.fabric_coherence.proofs.NetShape.{with_node-shaped}
use Rattle.fabric_coherence.proofs.NodeAccess.{block_written, store-seen, other_store-seen}
use Rattle.fabric_coherence.proofs.KeptAccess.{free}
use Rattle.fabric_coherence.proofs.KeptNode.{present_seen, writable_seen}

-- what holds of one block, and of each other one
each_block : (P : ℕ → Type 0) (b : ℕ) → P b → ((o : ℕ) → o < block_count → o ≢ b → P o) → (o : ℕ) → o < block_count → P o
each_block P b here there o l = either (nat_eq o b) refl
  where
    equal : nat_eq o b ≡ true → b ≡ o
    equal e = grind (arith, nat_tests)

    unequal : nat_eq o b ≡ false → o ≢ b
    unequal e = grind (arith, nat_tests)

    either : (c : Bool) → nat_eq o b ≡ c → P o
    either true e = subst P (equal e) here
    either false e = there o l (unequal e)

-- the same beside records
at_each : (P : ℕ → Records → Type 0) (b : ℕ) (x : Records) (r : ℕ → Records) → P b x → ((o : ℕ) → o < block_count → o ≢ b → P o (r o)) →
    (o : ℕ) → o < block_count → P o (at_block b x r o)
at_each P b x r here there =
    each_block (λ o. P o (at_block b x r o)) b (here_at (nat_eq b b) same)
    (λ o l other. there_at o (nat_eq o b) (apart o other) (there o l other))
  where
    same : nat_eq b b ≡ true
    same = grind (arith, nat_tests)

    apart : (o : ℕ) → o ≢ b → nat_eq o b ≡ false
    apart o other = grind (arith, nat_tests)

    here_at : (c : Bool) → c ≡ true → P b (if c then x else r b)
    here_at true e = here
    here_at false e = absurd (cc)

    there_at : (o : ℕ) (c : Bool) → c ≡ false → P o (r o) → P o (if c then x else r o)
    there_at o true e p = absurd (cc)
    there_at o false e p = p

module _ (s : Fabric) (t : GhostState) (r : ℕ → Records) (kept : FabricInvariant s t) (recorded : (b : ℕ) → b < block_count → RecordsInvariant (block_seen s t b) (r b)) where
  -- a reservation that ends, at any block
  pub undone : (n : ℕ) → n < length s.nodes → (b : ℕ) → b < block_count → RecordsInvariant (block_seen s t b) (unreserves (r b) n)
  undone n l b w = event_recorded (length s.nodes) (block_seen s t b) (r b) (StoreConditionalUndone n) (kept.blocks b w) (recorded b w) l

  module _ (n b : ℕ) (can : CanUse s n b) where
    free_here : Free (length s.nodes) (block_seen s t b) n
    free_here = free s t n kept can.node can.no_miss b can.no_put

    module _ (present : is_present (line_of (node_at s n).cache b).state ≡ true) where
      -- a load and an LR
      pub load : (o : ℕ) → o < block_count → RecordsInvariant (block_seen s t o) (at_block b (loads (r b) n (node_at s n).now) r o)
      load = at_each (λ o x. RecordsInvariant (block_seen s t o) x) b (loads (r b) n (node_at s n).now) r
          (event_recorded (length s.nodes) (block_seen s t b) (r b) (Load n) (kept.blocks b can.block) (recorded b can.block)
          (free_here, present_seen (line_of (node_at s n).cache b).state present))
          (λ o w other. recorded o w)

      pub load_reserved : (o : ℕ) → o < block_count →
          RecordsInvariant (block_seen s t o) (at_block b (loads_reserved (r b) n (node_at s n).now) (λ o. unreserves (r o) n) o)
      load_reserved =
          at_each (λ o x. RecordsInvariant (block_seen s t o) x) b (loads_reserved (r b) n (node_at s n).now) (λ o. unreserves (r o) n)
          (event_recorded (length s.nodes) (block_seen s t b) (r b) (LoadReserved n) (kept.blocks b can.block) (recorded b can.block)
          (free_here, present_seen (line_of (node_at s n).cache b).state present))
          (λ o w other. undone n can.node o w)

module _ (s : Fabric) (t : GhostState) (kept : FabricInvariant s t) (n : ℕ) (w : Write) (can : CanWrite s n w) where
  abbrev b : ℕ
  b = block_written w

  abbrev content : List ℕ
  content = written_in (line_of (node_at s n).cache b).content w

  newest : logged_to (node_at s n).log false b ≤ (node_at s n).now + 1
  newest = (kept.blocks b can.line.block).logs.own n

  may_store : Free (length s.nodes) (block_seen s t b) n × (is_writable ((block_seen s t b).line n) ≡ true)
  may_store =
      (free s t n kept can.line.node can.line.no_miss b can.line.no_put, writable_seen (line_of (node_at s n).cache b).state can.writable)

  stored-shaped : IsShaped (fabric_with_write s n w)
  stored-shaped =
      with_node-shaped s n (with_write (node_at s n) w) kept.shape can.line.node
      (length-set (node_to_write (node_at s n) b).cache.lines b _
      ∙ (length-set (node_at s n).cache.lines b _ ∙ kept.shape.lines n can.line.node))

  as_many : length (fabric_with_write s n w).nodes ≡ length s.nodes
  as_many = length-set s.nodes n (with_write (node_at s n) w)

  -- a write is a store on its block; other blocks stay
  seen_here : IsSame (block_seen (fabric_with_write s n w) t b) (store (block_seen s t b) n content)
  seen_here = store-seen s t n w can.line.node can.writable newest

  seen_there : (o : ℕ) → o ≢ b → IsSame (block_seen (fabric_with_write s n w) t o) (block_seen s t o)
  seen_there o other = other_store-seen s t n w can.line.node can.writable newest o other

  pub stored_kept : FabricInvariant (fabric_with_write s n w) t
  stored_kept = record {
    shape = stored-shaped;
    blocks =
        λ o l. subst (λ N. BlockInvariant N (block_seen (fabric_with_write s n w) t o)) (sym as_many)
        (each_block (λ o. BlockInvariant (length s.nodes) (block_seen (fabric_with_write s n w) t o)) b
        (same_kept (length s.nodes) (block_seen (fabric_with_write s n w) t b) (store (block_seen s t b) n content) seen_here
        (event_kept (length s.nodes) (block_seen s t b) (Store n content) (kept.blocks b can.line.block) may_store))
        (λ o q other. same_kept (length s.nodes) (block_seen (fabric_with_write s n w) t o) (block_seen s t o) (seen_there o other)
        (kept.blocks o q)) o l);
  }

  module _ (r : ℕ → Records) (recorded : (b : ℕ) → b < block_count → RecordsInvariant (block_seen s t b) (r b)) where
    abbrev Says : ℕ → Records → Type 0
    Says o x = RecordsInvariant (block_seen (fabric_with_write s n w) t o) x

    -- a store, and an SC that is done
    pub store_recorded : (o : ℕ) → o < block_count → Says o (at_block b (stores (r b) n (node_at s n).now content) r o)
    store_recorded = at_each Says b (stores (r b) n (node_at s n).now content) r
        (same_kept_records (block_seen (fabric_with_write s n w) t b) (store (block_seen s t b) n content)
        (stores (r b) n (node_at s n).now content) seen_here
        (event_recorded (length s.nodes) (block_seen s t b) (r b) (Store n content) (kept.blocks b can.line.block)
        (recorded b can.line.block) may_store))
        (λ o q other. same_kept_records (block_seen (fabric_with_write s n w) t o) (block_seen s t o) (r o) (seen_there o other) (recorded o q))

    pub store_conditional_recorded : (r b).reserved n ≡ true → (o : ℕ) → o < block_count →
        Says o (at_block b (stores_conditional (r b) n (node_at s n).now content) (λ o. unreserves (r o) n) o)
    store_conditional_recorded reserved = at_each Says b (stores_conditional (r b) n (node_at s n).now content) (λ o. unreserves (r o) n)
        (same_kept_records (block_seen (fabric_with_write s n w) t b) (store (block_seen s t b) n content)
        (stores_conditional (r b) n (node_at s n).now content) seen_here
        (event_recorded (length s.nodes) (block_seen s t b) (r b) (StoreConditionalDone n content) (kept.blocks b can.line.block)
        (recorded b can.line.block) (may_store, reserved)))
        (λ o q other. same_kept_records (block_seen (fabric_with_write s n w) t o) (block_seen s t o) (unreserves (r o) n) (seen_there o other)
        (undone s t r kept recorded n can.line.node o q))
