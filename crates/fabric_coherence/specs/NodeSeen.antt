-- What a block sees of one node, put in the place of what it saw.
use Rattle.std.specs.Prelude.{◌≡◌, ℕ, Bool, true, false, List}
use Rattle.sn_model.specs.Fabric.{Fabric, Node, Net}
use Rattle.log_buffer.specs.Log.{logged_to}
use Rattle.sn_model.specs.Caches.{line_of, is_owned}
use Rattle.sn_coherence.specs.Block.{Block, set, set_row}
use Rattle.sn_coherence.specs.Log.{was_owned, old_content, was_home, old_cache, told_at}
use Rattle.sn_coherence.specs.OtherEvents.{edge}
use Rattle.fabric_coherence.specs.View.{GhostState, block_seen, line_seen, content_held, miss_seen, put_seen, put_issued, net_seen}

-- block b with node n as this node, apart from the home's side of its log
abbrev pub block_with_node : Block → ℕ → ℕ → Node → Block
block_with_node a b n node = record a {
  now = set a.now n node.now;
  known = set a.known n node.known;
  line = set a.line n (line_seen (line_of node.cache b).state);
  content = set a.content n (line_of node.cache b).content;
  miss = set a.miss n (miss_seen b node.cache.miss);
  putting = set a.putting n (put_seen b node.cache.put);
  put_issued = set a.put_issued n (put_issued node.cache.put);
  holds = set_row a.holds n (told_at was_owned node.log false b (is_owned (line_of node.cache b).state));
  held = set_row a.held n (told_at old_content node.log false b (content_held (line_of node.cache b)));
  last = set a.last n (logged_to node.log false b);
}

-- block b with this network
abbrev pub carried_by : Block → ℕ → Net → Block
carried_by a b net = record a { net = net_seen b net.flights; next = net.next_id }

-- the home's side of block b is the same in the logs of two nodes
pub record IsSameAtHome (b : ℕ) (x y : Node) : Type 0 where
  pub named_home : (was : Bool) (j : ℕ) → told_at was_home x.log true b was j ≡ told_at was_home y.log true b was j
  pub named : (was j : ℕ) → told_at old_cache x.log true b was j ≡ told_at old_cache y.log true b was j
  pub held : (was : List ℕ) (j : ℕ) → told_at old_content x.log true b was j ≡ told_at old_content y.log true b was j
  pub newest : logged_to x.log true b ≡ logged_to y.log true b

-- what the proof alone knows, after node n's clock edge
abbrev pub ghost_after_edge : Fabric → GhostState → ℕ → GhostState
ghost_after_edge s t n = record t { framed = λ b. (edge (block_seen s t b) n).framed }

-- what the proof alone knows, after a recovery
abbrev pub ghost_after_recovery : GhostState → GhostState
ghost_after_recovery t = record t { waited = λ b n. false }
