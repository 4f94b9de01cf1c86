-- What a cache's reply is for a block that it isn't about: with one message sent, and with none.
use Rattle.std.proofs.Common.{◌≡◌, ◌≢◌, ◌∙◌, ℕ, ◌+◌, ◌<◌, false, length, refl, sym, subst, Option, arith}
use Rattle.std.specs.Prelude.{List, [], ◌∷◌, slice_set, slice_index_or}
use Rattle.sn_msg.specs.declared.Message.{Message}
use Rattle.sn_model.specs.declared.cache.Out.{Out}
use Rattle.sn_model.specs.Caches.{Line, line_of, is_owned, block_count, no_line}
use Rattle.sn_model.specs.Fabric.{Fabric, node_at, with_node}
use Rattle.sn_model.specs.Net.{routes_of}
use Rattle.sn_model.specs.NetEvents.{node_after}
use Rattle.sn_model.specs.CacheRows.{Logged, CacheReply}
use Rattle.sn_coherence.specs.Block as block
use Rattle.sn_coherence.specs.Same.{IsSame}
use Rattle.fabric_coherence.specs.View.{GhostState, block_seen, miss_seen, put_seen, put_issued, is_for_all, content_held}
use Rattle.fabric_coherence.specs.Steps.{after_cache, elsewhere, IsShaped, IsInFlight}
use Rattle.fabric_coherence.specs.CacheSeen.{cache_seen, KeepsHomeSide, KeepsCacheSide, IsElsewhere}
use Rattle.fabric_coherence.proofs.Base.{read_set, seen-without}
use Rattle.fabric_coherence.proofs.CacheSeen.{set_kept, set_there, row_seen, answered_elsewhere}

-- the miss and the puts of nodes, as a block sees them
pub record Waiting : Type 0 where
  pub miss : ℕ → block.Miss
  pub putting : ℕ → block.Putting
  pub put_issued : ℕ → ℕ

abbrev pub waiting_with : block.Block → Waiting → block.Block
waiting_with b w = record b { miss = w.miss; putting = w.putting; put_issued = w.put_issued }

-- how a block that isn't the row's sees the cache of the reply
pub record IsApart (s : Fabric) (t : GhostState) (m : Message) (after : Logged) (o : ℕ) (w : Waiting) : Type 0 where
  pub line : line_of after.cache o ≡ line_of (node_at s m.to).cache o
  pub home_side : KeepsHomeSide (node_at s m.to).log after.log o
  pub cache_side : KeepsCacheSide (node_at s m.to).log after.log o
  pub miss : (n : ℕ) → block.set (block_seen s t o).miss m.to (miss_seen o after.cache.miss) n ≡ w.miss n
  pub putting : (n : ℕ) → block.set (block_seen s t o).putting m.to (put_seen o after.cache.put) n ≡ w.putting n
  pub put_issued : (n : ℕ) → block.set (block_seen s t o).put_issued m.to (put_issued after.cache.put) n ≡ w.put_issued n

module _ (s : Fabric) (t : GhostState) (m : Message) (shape : IsShaped s) (flight : IsInFlight s m) (o : ℕ) (apart : o ≢ m.block) where
  -- a line of another block is written
  pub line_unwritten : (lines : List Line) (line : Line) → length lines ≡ block_count →
      slice_index_or (slice_set lines m.block line) o no_line ≡ slice_index_or lines o no_line
  line_unwritten lines line e =
      read_set lines m.block o line no_line (subst (λ n. m.block < n) (sym e) flight.block)
      ∙ set_there (λ k. slice_index_or lines k no_line) m.block line o apart

  module _ (row : block.Block) (w : Waiting) where
    apart_seen : (reply : CacheReply) (count : ℕ) → IsApart s t m reply.after o w →
        ((i : ℕ) → (block_seen (after_cache s m reply).fabric t o).net i ≡ block.set (block_seen s t o).net m.id block.no_message i) →
        (after_cache s m reply).fabric.net.next_id ≡ s.net.next_id + count →
        IsElsewhere s t m reply row o (waiting_with (elsewhere (block_seen s t o) m.id count) w)
    apart_seen reply count h net next = record {
      point = r.point;
      home = r.home;
      now = r.now;
      known = r.known;
      line = λ n. r.line n ∙ set_kept (block_seen s t o).line m.to ((block_seen s t o).line m.to) n refl;
      content = λ n. r.content n ∙ set_kept (block_seen s t o).content m.to ((block_seen s t o).content m.to) n refl;
      miss = λ n. r.miss n ∙ h.miss n;
      putting = λ n. r.putting n ∙ h.putting n;
      put_issued = λ n. r.put_issued n ∙ h.put_issued n;
      at_home = refl;
      owner = refl;
      home_content = refl;
      sharers = λ n. refl;
      kind = refl;
      requester = refl;
      begun = refl;
      net = net;
      next = next;
      holds =
          λ n j. r.holds n j ∙ set_kept (λ k. (block_seen s t o).holds k j) m.to _ n
          (h.cache_side.owned ((is_owned (line_of (node_at s m.to).cache o).state)) j);
      held =
          λ n j. r.held n j ∙ set_kept (λ k. (block_seen s t o).held k j) m.to _ n
          (h.cache_side.content (content_held (line_of (node_at s m.to).cache o)) j);
      last = λ n. r.last n ∙ set_kept (block_seen s t o).last m.to _ n h.cache_side.newest;
      named_home = r.named_home;
      named = r.named;
      home_held = r.home_held;
      home_last = r.home_last;
      stage = set_there t.stage m.block row.stage o apart;
      at = set_there t.at m.block row.at o apart;
      waited = λ n. set_there (λ k. t.waited k n) m.block (row.waited n) o apart;
      framed = λ n j. refl;
    }
      where
        r : IsSame (block_seen (after_cache s m reply).fabric t o) (cache_seen s t m reply (line_of (node_at s m.to).cache o) o)
        r = row_seen s t m reply o (line_of (node_at s m.to).cache o) flight.to h.line h.home_side

    module _ (after : Logged) (lost : Option ℕ) (h : IsApart s t m after o w) where
      abbrev one : Out → CacheReply
      one out = record { after = after; sends = out ∷ []; lost = lost }

      pub one_elsewhere : (out : Out) → is_for_all out.body ≡ false →
          IsElsewhere s t m (one out) row o (waiting_with (elsewhere (block_seen s t o) m.id 1) w)
      one_elsewhere out e = apart_seen (one out) 1 h
          (λ i. answered_elsewhere (routes_of (with_node s m.to (node_after (node_at s m.to) (one out)))) s.net m.id m.to
          (node_at (with_node s m.to (node_after (node_at s m.to) (one out))) m.to).now m.block out o i shape.below e apart)
          refl

      pub none_elsewhere : IsElsewhere s t m (record { after = after; sends = []; lost = lost }) row o
          (waiting_with (elsewhere (block_seen s t o) m.id 0) w)
      none_elsewhere =
          apart_seen (record { after = after; sends = []; lost = lost }) 0 h (λ i. seen-without s.net.flights m.id o i) (omega arith)
