-- What a cache's reply is for its own block: with one message sent, with none, and where a miss is complete or waits.
use Rattle.std.proofs.Common.{◌≡◌, ◌∙◌, ℕ, ◌<◌, Bool, ◌&&◌, cond, length, sym, ap, subst, ◌==◌, Option, Some, None}
use Rattle.std.specs.Prelude.{if◌then◌else◌, List, [], ◌∷◌, slice_set, slice_index_or, nat_eq}
use Rattle.sn_msg.specs.declared.Message.{Message}
use Rattle.sn_msg.specs.declared.Body.TheVariants.{Unblock}
use Rattle.sn_model.specs.declared.cache.Out.{Out}
use Rattle.sn_model.specs.Caches.{Line, Miss, line_of, block_count, no_line}
use Rattle.sn_model.specs.Fabric.{Fabric, node_at, with_node, home_node}
use Rattle.sn_model.specs.Net.{routes_of, is_lost, message_of}
use Rattle.sn_model.specs.NetEvents.{node_after}
use Rattle.sn_model.specs.CacheRows.{Logged, CacheReply, reply_when_complete, line_when_done, send}
use Rattle.sn_coherence.specs.Block as block
use Rattle.fabric_coherence.specs.View.{GhostState, block_seen, message_seen, miss_seen, miss_here}
use Rattle.fabric_coherence.specs.Steps.{IsShaped, IsInFlight}
use Rattle.fabric_coherence.specs.CacheSeen.{cache_seen, KeepsHomeSide, with_row, IsRow, IsOwnRow, net_answered}
use Rattle.fabric_coherence.proofs.Base.{read_set, seen-without}
use Rattle.fabric_coherence.proofs.CacheSeen.{set_here, own_row, sent_under, losing_one, answered_here, eq_self}

module _ (s : Fabric) (t : GhostState) (m : Message) (shape : IsShaped s) (flight : IsInFlight s m) where
  -- a line that is written is read
  pub line_written : (lines : List Line) (line : Line) → length lines ≡ block_count →
      slice_index_or (slice_set lines m.block line) m.block no_line ≡ line
  line_written lines line e =
      read_set lines m.block m.block line no_line (subst (λ n. m.block < n) (sym e) flight.block)
      ∙ set_here (λ k. slice_index_or lines k no_line) m.block line

  module _ (after : Logged) (line : Line) (row : block.Block) (e : line_of after.cache m.block ≡ line) (k : KeepsHomeSide (node_at s m.to).log after.log m.block) where
    module _ (out : Out) (lost : Option ℕ) where
      abbrev one : CacheReply
      one = record { after = after; sends = out ∷ []; lost = lost }

      abbrev now_after : ℕ
      now_after = (node_at (with_node s m.to (node_after (node_at s m.to) one)) m.to).now

      abbrev lost_one : Bool
      lost_one =
          is_lost (routes_of (with_node s m.to (node_after (node_at s m.to) one))) s.net (message_of s.net m.to now_after m.block out)

      abbrev net_with : (ℕ → block.Message) → ℕ → block.Message
      net_with net i = cond (lost_one && (i == s.net.next_id)) block.no_message (net i)

      -- one message is sent
      pub one_sent : IsRow (record (cache_seen s t m one line m.block) { net = net_answered s t m out }) row →
          IsOwnRow s t m one (with_row (block_seen s t m.block) row)
      one_sent h =
          losing_one _ (with_row (block_seen s t m.block) row) lost_one s.net.next_id
          (own_row s t m one m.block line flight.to (record row { net = net_with row.net }) e k (record {
            line = h.line;
            content = h.content;
            miss = h.miss;
            putting = h.putting;
            put_issued = h.put_issued;
            net =
                λ i. answered_here (routes_of
                (with_node s m.to (node_after (node_at s m.to) one))) s.net m.id m.to now_after m.block out i shape.below
                ∙ (λ p. net_with (block.set (block.set (block_seen s t m.block).net m.id block.no_message) s.net.next_id
                (message_seen (message_of s.net m.to (sent_under s t m one m.block line flight.to p) m.block out) out.body)) i)
                ∙ ap (λ x. cond (lost_one && (i == s.net.next_id)) block.no_message x) (h.net i);
            next = h.next;
            holds = h.holds;
            held = h.held;
            last = h.last;
          }))

    module _ (lost : Option ℕ) where
      abbrev none : CacheReply
      none = record { after = after; sends = []; lost = lost }

      -- none is sent
      pub none_sent : IsRow (record (cache_seen s t m none line m.block) { net = block.net_without (block_seen s t m.block) m.id }) row →
          IsOwnRow s t m none (with_row (block_seen s t m.block) row)
      none_sent h = own_row s t m none m.block line flight.to row e k (record {
        line = h.line;
        content = h.content;
        miss = h.miss;
        putting = h.putting;
        put_issued = h.put_issued;
        net = λ i. seen-without s.net.flights m.id m.block i ∙ h.net i;
        next = h.next;
        holds = h.holds;
        held = h.held;
        last = h.last;
      })

  -- a miss on the block that is complete
  pub complete_seen : (after : Logged) (miss : Miss) (fixed : ℕ) (line : Line) (row : block.Block) → miss.block ≡ m.block →
      length after.cache.lines ≡ block_count → line_of after.cache m.block ≡ line →
      KeepsHomeSide (node_at s m.to).log after.log m.block →
      IsRow (record (cache_seen s t m (reply_when_complete after (home_node s m.block) miss fixed)
      (record { state = line_when_done line.state miss.need; content = line.content }) m.block) {
        net = net_answered s t m
            (send (home_node s m.block) (Unblock fixed));
      }) row →
      IsOwnRow s t m (reply_when_complete after (home_node s m.block) miss fixed) (with_row (block_seen s t m.block) row)
  complete_seen after miss fixed line row b l e k h =
      one_sent (reply_when_complete after (home_node s m.block) miss fixed).after
      (record { state = line_when_done line.state miss.need; content = line.content }) row
      (ap (λ (o : ℕ). slice_index_or
      (slice_set after.cache.lines o
      (record {
        state = line_when_done (line_of after.cache o).state miss.need;
        content = (line_of after.cache o).content;
      })) m.block no_line) b
      ∙ line_written after.cache.lines
      (record { state = line_when_done (line_of after.cache m.block).state miss.need; content = (line_of after.cache m.block).content }) l
      ∙ ap (λ (x : Line). record { state = line_when_done x.state miss.need; content = x.content }) e)
      k (send (home_node s m.block) (Unblock fixed)) None h

  -- the open miss on the block
  pub miss_is : (o : Option Miss) (miss : Miss) → o ≡ Some miss → miss.block ≡ m.block → miss_seen m.block o ≡ miss_here miss
  miss_is o miss e b =
      ap (miss_seen m.block) e
      ∙ ap (λ c. if c then miss_here miss else block.new_miss block.Elsewhere miss.issued) (ap (λ x. nat_eq x m.block) b ∙ eq_self m.block)
