-- What an event of one node leaves of the shape of the fabric, and what its tests say of a block.
use Rattle.std.proofs.Common.{Option, Some, None, ◌≡◌, ◌≢◌, ℕ, ◌<◌, true, false, [], ◌∷◌, length, refl, arith, length-set}
use Rattle.sn_base.specs.declared.event.Answer.{Answer}
use Rattle.sn_model.specs.declared.cache.Out.{Out}
use Rattle.sn_model.specs.declared.cache.LineState.{LineState}
use Rattle.sn_model.specs.Caches.{Miss, Put, block_count, is_present, is_owned, is_writable_state, misses_on, puts_on}
use Rattle.sn_model.specs.Access.{has_miss}
use Rattle.sn_model.specs.Fabric.{Fabric, Node, node_at, with_node}
use Rattle.sn_model.specs.Net.{net_after_sends, routes_of, sending}
use Rattle.sn_model.specs.NodeEvents.{has_put}
use Rattle.sn_coherence.specs.Block.{NoLine, Nothing, NoPut, Here, is_owned as owns, is_writable, is_here}
use Rattle.fabric_coherence.specs.View.{line_seen, miss_seen, put_seen}
use Rattle.fabric_coherence.specs.Steps.{IsShaped, node_in_body}
use Rattle.fabric_coherence.proofs.NetShape.{with_node-shaped, with_net-shaped, posted-shaped, net-shaped}

-- the shape

module _ (s : Fabric) (n : ℕ) (h : IsShaped s) (l : n < length s.nodes) where
  -- a node is replaced by one of as many lines, and it sends a message
  pub sent-shaped : (v : Node) (b : ℕ) (out : Out) (answer : Answer) → length v.cache.lines ≡ block_count → b < block_count →
      out.to < length s.nodes → node_in_body out.body < length s.nodes →
      IsShaped (sending (with_node s n v) n b (out ∷ []) answer).fabric
  sent-shaped v b out answer lines low to names =
      with_net-shaped after (net_after_sends (routes_of after) s.net n (node_at after n).now b (out ∷ [])) (with_node-shaped s n v h l lines)
      (posted-shaped (routes_of after) s.net n (node_at after n).now b (out ∷ []) (length after.nodes) (rw count l) low
      (rw count ((to, names), tt)) (rw count (net-shaped s h)))
    where
      after : Fabric
      after = with_node s n v

      count : length after.nodes ≡ length s.nodes
      count = length-set s.nodes n v

-- what the tests say

pub no_miss_seen : (b : ℕ) (miss : Option Miss) → has_miss miss ≡ false → (miss_seen b miss).want ≡ Nothing
no_miss_seen b None e = refl
no_miss_seen b (Some miss) e = grind arith

pub miss_apart : (b : ℕ) (miss : Option Miss) → misses_on miss b ≡ false → is_here (miss_seen b miss).want ≡ false
miss_apart b None e = refl
miss_apart b (Some miss) e = rw e refl

pub put_apart : (b : ℕ) (put : Option Put) → puts_on put b ≡ false → put_seen b put ≢ Here
put_apart b None e = λ q. grind arith
put_apart b (Some put) e = λ q. grind arith

pub no_put_seen : (b : ℕ) (put : Option Put) → has_put put ≡ false → put_seen b put ≡ NoPut
no_put_seen b None e = refl
no_put_seen b (Some put) e = grind arith

pub absent_seen : (line : LineState) → is_present line ≡ false → line_seen line ≡ NoLine
absent_seen line e = grind arith

pub present_seen : (line : LineState) → is_present line ≡ true → line_seen line ≢ NoLine
present_seen line e = λ q. grind arith

pub not_writable_seen : (line : LineState) → is_writable_state line ≡ false → is_writable (line_seen line) ≡ false
not_writable_seen line e = grind arith

pub writable_seen : (line : LineState) → is_writable_state line ≡ true → is_writable (line_seen line) ≡ true
writable_seen line e = grind arith

pub owned_seen : (line : LineState) → is_owned line ≡ true → owns (line_seen line) ≡ true
owned_seen line e = grind arith
