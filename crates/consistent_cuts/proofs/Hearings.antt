-- What an event of the fabric tells the rest is of nodes that are there, and its clocks change only by the news of a point.
use Rattle.std.proofs.Common.{◌≡◌, ℕ, ◌+◌, ◌<◌, ◌≤◌, Bool, true, false, not, max, cond, List, [], ◌∷◌, length, Option, Some, None, arith}
use Rattle.std.proofs.Common.{refl, ap, ◌∙◌, nat_lt, ◌==◌, get_or-set_same, get_or-set_other, length-set, if◌then◌else◌}
use Rattle.std.specs.Prelude.{slice_index_or, slice_set}
use Rattle.std.specs.Option.{option_map}
use Rattle.std.proofs.lemmas.Bool.Decides.{nat_tests}
use Rattle.sn_base.specs.declared.config.Config.{Config}
use Rattle.sn_base.specs.declared.event.Answer.TheVariants.{MissOpen, PutOpen, NetFull, LogFull, PutBegun, NotArrived, Held, Delivered}
use Rattle.sn_base.specs.declared.log.LogEntry.{LogEntry}
use Rattle.sn_msg.specs.declared.Message.{Message}
use Rattle.sn_msg.specs.declared.Body.TheVariants as body
use Rattle.sn_msg.specs.declared.Body.TheVariants.{PutReq}
use Rattle.sn_model.specs.declared.cache.LineState.{LineState}
use Rattle.sn_model.specs.declared.cache.LineState.TheVariants as line
use Rattle.sn_model.specs.declared.cache.Out.{Out}
use Rattle.sn_model.specs.declared.net.News.{News}
use Rattle.sn_model.specs.declared.net.News.TheVariants as told
use Rattle.sn_model.specs.Caches.{line_of, misses_on}
use Rattle.sn_model.specs.CacheRows.{CacheReply, send}
use Rattle.sn_model.specs.HomeRows.{HomeReply}
use Rattle.sn_model.specs.Fabric.{Fabric, Flight, FabricStep, first_node, node_at, with_node, with_net, home_node, step_refused}
use Rattle.sn_model.specs.Net.{net_limit, sending, is_full, flight_of, without_flight, is_there}
use Rattle.sn_model.specs.NodeEvents.{step_of_eviction, evicts, begins_put, has_put, with_put, without_copy}
use Rattle.sn_model.specs.NetEvents.{step_of_delivery, delivers, delivers_flight, fits_in, outcome_of, node_after_news, node_after}
use Rattle.sn_model.specs.NetEvents.{home_after, Outcome, AtCache, AtHome, copy_lost}
use Rattle.sn_coherence.specs.Block as block
use Rattle.fabric_bounds.specs.View.{GhostState, block_seen, message_seen}
use Rattle.fabric_bounds.specs.Steps.{IsInFlight}
use Rattle.fabric_bounds.specs.Coherent.{FabricInvariant}
use Rattle.fabric_bounds.proofs.EachOutcome.{each_outcome}
use Rattle.consistent_cuts.proofs.Clocks.{IsSameClocks, same_clocks, part_set, same_with_node, same_nodes, same_then, cache_clocks}
use Rattle.consistent_cuts.proofs.Clocks.{home_clocks}

-- node n has heard of point k
pub record IsNews (s t : Fabric) (n k : ℕ) : Type 0 where
  pub count : length t.nodes ≡ length s.nodes
  pub point : t.point ≡ s.point
  pub now : (m : ℕ) → (node_at t m).now ≡ (node_at s m).now
  pub known : (m : ℕ) → (node_at t m).known ≡ cond (m == n) (max (node_at s m).known k) (node_at s m).known

-- what is told with this fabric is right
abbrev pub Rightly : Fabric → Fabric → Option News → Type 0
Rightly s t None = IsSameClocks s t
Rightly s t (Some (told.LostCopy n b)) = (n < length s.nodes) × IsSameClocks s t
Rightly s t (Some (told.Ready n k)) = (n < length s.nodes) × IsSameClocks s t
Rightly s t (Some (told.Advance n k)) = (n < length s.nodes) × (k ≤ s.point) × IsNews s t n k

-- an eviction
module _ (s : Fabric) (n block : ℕ) (l : n < length s.nodes) where
  rightly_begins : (a b : Bool) →
      Rightly s (if a then step_refused s PutOpen else if b then step_refused s NetFull
      else sending (with_node s n (with_put (node_at s n) block)) n block (send (home_node s block) PutReq ∷ []) PutBegun).fabric
      (if a then step_refused s PutOpen else if b then step_refused s NetFull
      else sending (with_node s n (with_put (node_at s n) block)) n block (send (home_node s block) PutReq ∷ []) PutBegun).told
  rightly_begins true b = same_clocks s
  rightly_begins false true = same_clocks s
  rightly_begins false false =
      same_then s (with_node s n (with_put (node_at s n) block)) _ (same_with_node s n (with_put (node_at s n) block) refl refl)
      (same_nodes (with_node s n (with_put (node_at s n) block))
      (sending (with_node s n (with_put (node_at s n) block)) n block (send (home_node s block) PutReq ∷ []) PutBegun).fabric refl refl)

  rightly_put : Rightly s (begins_put s n block).fabric (begins_put s n block).told
  rightly_put = rightly_begins (has_put (node_at s n).cache.put) (is_full s 1)

  rightly_evicts : (state : LineState) → Rightly s (evicts s n block state).fabric (evicts s n block state).told
  rightly_evicts line.Absent = same_clocks s
  rightly_evicts line.Shared = (l, same_with_node s n (without_copy (node_at s n) block) refl refl)
  rightly_evicts line.Owned = rightly_put
  rightly_evicts line.Modified = rightly_put
  rightly_evicts line.Exclusive = rightly_put

  rightly_evicting : (a : Bool) →
      Rightly s (if a then step_refused s MissOpen else evicts s n block (line_of (node_at s n).cache block).state).fabric
      (if a then step_refused s MissOpen else evicts s n block (line_of (node_at s n).cache block).state).told
  rightly_evicting true = same_clocks s
  rightly_evicting false = rightly_evicts (line_of (node_at s n).cache block).state

  pub rightly_evicted : Rightly s (step_of_eviction s n block).fabric (step_of_eviction s n block).told
  rightly_evicted = rightly_evicting (misses_on (node_at s n).cache.miss block)

-- a delivery
module _ (config : Config) (s : Fabric) (t : GhostState) (m : Message) (kept : FabricInvariant s t) (flight : IsInFlight s m) where
  abbrev Comes : Outcome → Type 0
  Comes x = Rightly s (delivers config s m x).fabric (delivers config s m x).told

  rightly_copy : (done : Fabric) (lost : Option ℕ) → IsSameClocks s done →
      Rightly s done (option_map (λ (b : ℕ). told.LostCopy m.to b) lost)
  rightly_copy done None h = h
  rightly_copy done (Some b) h = (flight.to, h)

  rightly_room : (done : FabricStep) (a b : Bool) → Rightly s done.fabric done.told →
      Rightly s (if a then step_refused s LogFull else if b then step_refused s NetFull else done).fabric
      (if a then step_refused s LogFull else if b then step_refused s NetFull else done).told
  rightly_room done true b h = same_clocks s
  rightly_room done false true h = same_clocks s
  rightly_room done false false h = h

  in_room : (log : List LogEntry) (sends : List Out) (done : FabricStep) → Rightly s done.fabric done.told →
      Rightly s (fits_in config s log sends done).fabric (fits_in config s log sends done).told
  in_room log sends done h =
      rightly_room done (nat_lt config.log (length log)) (nat_lt (net_limit + 1) (length s.net.flights + length sends)) h

  at_cache : (reply : CacheReply) → Comes (AtCache reply)
  at_cache reply =
      in_room reply.after.log reply.sends
      (record (sending (with_net (with_node s m.to (node_after (node_at s m.to) reply))
      (without_flight s.net m.id)) m.to m.block reply.sends Delivered) { told = copy_lost m.to reply })
      (rightly_copy (sending (with_net (with_node s m.to (node_after (node_at s m.to) reply))
      (without_flight s.net m.id)) m.to m.block reply.sends Delivered).fabric reply.lost (cache_clocks s m reply))

  at_home : (reply : HomeReply) → Comes (AtHome reply)
  at_home reply =
      in_room reply.after.log reply.sends
      (sending (with_net (home_after s m.to m.block reply) (without_flight s.net m.id)) m.to m.block reply.sends Delivered)
      (home_clocks s m reply)

  -- news of a point: its number is not above the point
  low : (k : ℕ) → m.body ≡ body.Advance k → k ≤ s.point
  low k is =
      let seen : (block_seen s t m.block).net m.id ≡ message_seen m (body.Advance k) = flight.seen ∙ ap (message_seen m) is in
      let named : ((block_seen s t m.block).net m.id).body ≡ block.Advance = ap (λ x. x.body) seen in
      let number : ((block_seen s t m.block).net m.id).number ≡ k = ap (λ x. x.number) seen in
      let bound : ((block_seen s t m.block).net m.id).number ≤ s.point = (kept.blocks m.block flight.block).clocks.advance_point m.id named in
      omega (arith, number, bound)

  news : (k : ℕ) → IsNews s (with_net (with_node s m.to (node_after_news (node_at s m.to) k)) (without_flight s.net m.id)) m.to k
  news k = record {
    count = length-set s.nodes m.to (node_after_news (node_at s m.to) k);
    point = refl;
    now = λ n. part_set (λ x. x.now) s.nodes m.to n (node_after_news (node_at s m.to) k) first_node refl;
    known = λ n. known_after n;
  }
    where
      known_after : (n : ℕ) →
          (slice_index_or (slice_set s.nodes m.to (node_after_news (node_at s m.to) k)) n first_node).known
          ≡ cond (n == m.to) (max (node_at s n).known k) (node_at s n).known
      known_after n = let l = flight.to in grind (arith, nat_tests, get_or-set_same, get_or-set_other)

  comes : Comes (outcome_of s m m.body)
  comes =
      each_outcome s m Comes at_cache at_home (same_clocks s)
      (λ k. (flight.from, same_nodes s (with_net s (without_flight s.net m.id)) refl refl)) (λ k is. (flight.to, low k is, news k))

-- a message that may be in flight; `there` is that a message which is found is in flight
module _ (config : Config) (s : Fabric) (t : GhostState) (kept : FabricInvariant s t) (id : ℕ) (there : (f : Flight) → flight_of s.net.flights id ≡ Some f → IsInFlight s f.message) where
  arriving : (f : Flight) → IsInFlight s f.message → (a b : Bool) →
      Rightly s (if not a then step_refused s NotArrived else if b then step_refused s Held
      else delivers config s f.message (outcome_of s f.message f.message.body)).fabric
      (if not a then step_refused s NotArrived else if b then step_refused s Held
      else delivers config s f.message (outcome_of s f.message f.message.body)).told
  arriving f flight false b = same_clocks s
  arriving f flight true true = same_clocks s
  arriving f flight true false = comes config s t f.message kept flight

  found : (x : Option Flight) → flight_of s.net.flights id ≡ x →
      Rightly s (delivers_flight config s x).fabric (delivers_flight config s x).told
  found None e = same_clocks s
  found (Some f) e = arriving f (there f e) (is_there f) (nat_lt (node_at s f.message.to).now f.message.tag)

  pub rightly_delivered : Rightly s (step_of_delivery config s id).fabric (step_of_delivery config s id).told
  rightly_delivered = found (flight_of s.net.flights id) refl
