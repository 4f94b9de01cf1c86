-- Which events of the fabric leave its clocks: each node's interval and the point that it knows, and the recovery point.
use Rattle.std.proofs.Common.{◌≡◌, ◌≢◌, ℕ, ◌<◌, ◌≤◌, Bool, true, false, not, ◌&&◌, nat_le, List, [], ◌∷◌, length, Option, Some, None, arith}
use Rattle.std.proofs.Common.{refl, sym, ap, ◌∙◌, subst, get_or-set_same, get_or-set_other, length-set, ◌⊎◌, inl, inr, if◌then◌else◌}
use Rattle.std.specs.Prelude.{slice_index_or, slice_set}
use Rattle.std.proofs.Math.Seq.{set_out}
use Rattle.std.proofs.lemmas.Bool.{cases_order}
use Rattle.sn_base.specs.declared.block.Write.{Write}
use Rattle.sn_base.specs.declared.config.Config.{Config}
use Rattle.sn_base.specs.declared.event.Answer.{Answer}
use Rattle.sn_base.specs.declared.event.Answer.TheVariants.{Retired, Waits, NeedsEvict, LogFull, NetFull, Reported, Hopped, LostInDead}
use Rattle.sn_base.specs.declared.event.Answer.TheVariants.{Arrived, NoMessage, Lost, Killed, AlreadyDead, Delivered}
use Rattle.sn_msg.specs.declared.Message.{Message}
use Rattle.sn_msg.specs.declared.Body.TheVariants.{Ready}
use Rattle.route_plan.specs.Distances.{is_dead}
use Rattle.sn_model.specs.declared.cache.Need.{Need}
use Rattle.sn_model.specs.Caches.{line_of, is_present, puts_on, frames_taken}
use Rattle.sn_model.specs.CacheRows.{CacheReply, send}
use Rattle.sn_model.specs.HomeRows.{HomeReply}
use Rattle.sn_model.specs.Fabric.{Fabric, Node, Net, Flight, FabricStep, first_node, node_at, with_node, with_home, with_net, step_refused, step_with_answer}
use Rattle.sn_model.specs.Net.{sending, is_full, flight_of, without_flight, net_with_flight_in, routes_of, is_there, next_switch}
use Rattle.sn_model.specs.Access.{step_of_access, step_of_miss, missing, fabric_with_write, with_write, has_miss, serves, lacks_room}
use Rattle.sn_model.specs.NodeEvents.{step_of_report, ready_of}
use Rattle.sn_model.specs.NetEvents.{step_of_hop, hops, step_of_loss, loses, step_of_kill, node_after, home_after}

-- the same clocks
pub record IsSameClocks (s t : Fabric) : Type 0 where
  pub count : length t.nodes ≡ length s.nodes
  pub now : (n : ℕ) → (node_at t n).now ≡ (node_at s n).now
  pub known : (n : ℕ) → (node_at t n).known ≡ (node_at s n).known
  pub point : t.point ≡ s.point

pub same_clocks : (s : Fabric) → IsSameClocks s s
same_clocks s = record { count = refl; now = λ n. refl; known = λ n. refl; point = refl }

-- a write that leaves a part of the element leaves that part everywhere
module _ {A B : Type 0} (part : A → B) (xs : List A) (i j : ℕ) (v d : A) (same : part v ≡ part (slice_index_or xs i d)) where
  pub part_set : part (slice_index_or (slice_set xs i v) j d) ≡ part (slice_index_or xs j d)
  part_set = go (cases_order j i) (cases_order i (length xs))
    where
      other : j ≢ i → part (slice_index_or (slice_set xs i v) j d) ≡ part (slice_index_or xs j d)
      other e = ap part (get_or-set_other xs i j v d e)

      out : length xs ≤ i → part (slice_index_or (slice_set xs i v) j d) ≡ part (slice_index_or xs j d)
      out e = ap (λ ys. part (slice_index_or ys j d)) (set_out xs i v e)

      here : j ≡ i → i < length xs → part (slice_index_or (slice_set xs i v) j d) ≡ part (slice_index_or xs j d)
      here e l =
          subst (λ k. part (slice_index_or (slice_set xs i v) k d) ≡ part (slice_index_or xs k d)) (sym e)
          (ap part (get_or-set_same xs i v d l) ∙ same)

      go : ((j ≡ i) ⊎ ((j < i) ⊎ (i < j))) → ((i ≡ length xs) ⊎ ((i < length xs) ⊎ (length xs < i))) →
          part (slice_index_or (slice_set xs i v) j d) ≡ part (slice_index_or xs j d)
      go (inl e) (inl l) = out (omega arith)
      go (inl e) (inr (inl l)) = here e l
      go (inl e) (inr (inr l)) = out (omega arith)
      go (inr (inl e)) l = other (omega arith)
      go (inr (inr e)) l = other (omega arith)

-- a node in its place with the same clocks
pub same_with_node : (s : Fabric) (n : ℕ) (node : Node) → node.now ≡ (node_at s n).now → node.known ≡ (node_at s n).known →
    IsSameClocks s (with_node s n node)
same_with_node s n node now known = record {
  count = length-set s.nodes n node;
  now = λ m. part_set (λ x. x.now) s.nodes n m node first_node now;
  known = λ m. part_set (λ x. x.known) s.nodes n m node first_node known;
  point = refl;
}

-- the net is no clock, nor are the homes
pub same_nodes : (s t : Fabric) → t.nodes ≡ s.nodes → t.point ≡ s.point → IsSameClocks s t
same_nodes s t nodes point = record {
  count = ap length nodes;
  now = λ n. ap (λ ns. (slice_index_or ns n first_node).now) nodes;
  known = λ n. ap (λ ns. (slice_index_or ns n first_node).known) nodes;
  point = point;
}

pub same_then : (s t u : Fabric) → IsSameClocks s t → IsSameClocks t u → IsSameClocks s u
same_then s t u a b = record {
  count = b.count ∙ a.count;
  now = λ n. b.now n ∙ a.now n;
  known = λ n. b.known n ∙ a.known n;
  point = b.point ∙ a.point;
}

-- an event that leaves the clocks, and of which nobody hears
pub record IsQuiet (s : Fabric) (step : FabricStep) : Type 0 where
  pub clocks : IsSameClocks s step.fabric
  pub told : step.told ≡ None

quiet : (s : Fabric) (answer : Answer) → IsQuiet s (step_refused s answer)
quiet s answer = record { clocks = same_clocks s; told = refl }

-- an access that isn't served, by the tests in their order
pub same_accessed : (config : Config) (s : Fabric) (n block : ℕ) (need : Need) → IsQuiet s (step_of_access config s n block need)
same_accessed config s n block need =
    go (has_miss (node_at s n).cache.miss) (puts_on (node_at s n).cache.put block) (serves need (line_of (node_at s n).cache block).state)
    (lacks_room config (node_at s n) block need)
    (not (is_present (line_of (node_at s n).cache block).state) && nat_le config.ways (frames_taken (node_at s n).cache config.sets block))
    (is_full s 1)
  where
    begun : IsSameClocks s (step_of_miss s n block need).fabric
    begun =
        same_then s (with_node s n (missing (node_at s n) block need)) (step_of_miss s n block need).fabric
        (same_with_node s n (missing (node_at s n) block need) refl refl)
        (same_nodes (with_node s n (missing (node_at s n) block need)) (step_of_miss s n block need).fabric refl refl)

    go : (a b c d e f : Bool) →
        IsQuiet s (if a then step_refused s Waits else if b then step_refused s Waits
        else if c then (if d then step_refused s LogFull else step_with_answer s Retired) else if e then step_refused s NeedsEvict
        else if f then step_refused s NetFull else step_of_miss s n block need)
    go true b c d e f = quiet s Waits
    go false true c d e f = quiet s Waits
    go false false true true e f = quiet s LogFull
    go false false true false e f = quiet s Retired
    go false false false d true f = quiet s NeedsEvict
    go false false false d false true = quiet s NetFull
    go false false false d false false = record { clocks = begun; told = refl }

-- a write that is served
pub same_stored : (s : Fabric) (n : ℕ) (w : Write) → IsSameClocks s (fabric_with_write s n w)
same_stored s n w = same_with_node s n (with_write (node_at s n) w) refl refl

-- a report
pub same_reported : (s : Fabric) (n : ℕ) → IsQuiet s (step_of_report s n)
same_reported s n = go (is_full s 1)
  where
    go : (a : Bool) → IsQuiet s
        (if a then step_refused s NetFull else sending s n 0 (send 0 (Ready (ready_of s n)) ∷ []) (Reported (ready_of s n)))
    go true = quiet s NetFull
    go false =
        record {
          clocks = same_nodes s (sending s n 0 (send 0 (Ready (ready_of s n)) ∷ []) (Reported (ready_of s n))).fabric refl refl;
          told = refl;
        }

-- what the network does
module _ (s : Fabric) where
  with_other_net : (net : Net) (answer : Answer) → IsQuiet s (step_with_answer (with_net s net) answer)
  with_other_net net answer = record { clocks = same_nodes s (with_net s net) refl refl; told = refl }

  hopping : (f : Flight) (a b : Bool) →
      IsQuiet s (if a then step_refused s Arrived else if b then step_with_answer (with_net s (without_flight s.net f.message.id)) LostInDead
      else step_with_answer (with_net s (net_with_flight_in s.net f.message.id (next_switch (routes_of s) f))) Hopped)
  hopping f true b = quiet s Arrived
  hopping f false true = with_other_net (without_flight s.net f.message.id) LostInDead
  hopping f false false = with_other_net (net_with_flight_in s.net f.message.id (next_switch (routes_of s) f)) Hopped

  same_hops : (found : Option Flight) → IsQuiet s (hops s found)
  same_hops None = quiet s NoMessage
  same_hops (Some f) = hopping f (is_there f) (is_dead s.net.dead (next_switch (routes_of s) f))

  pub same_hopped : (id : ℕ) → IsQuiet s (step_of_hop s id)
  same_hopped id = same_hops (flight_of s.net.flights id)

  same_loses : (found : Option Flight) → IsQuiet s (loses s found)
  same_loses None = quiet s NoMessage
  same_loses (Some f) = with_other_net (without_flight s.net f.message.id) Lost

  pub same_lost : (id : ℕ) → IsQuiet s (step_of_loss s id)
  same_lost id = same_loses (flight_of s.net.flights id)

  killing : (a : Bool) (net : Net) → IsQuiet s (if a then step_refused s AlreadyDead else step_with_answer (with_net s net) Killed)
  killing true net = quiet s AlreadyDead
  killing false net = with_other_net net Killed

  pub same_killed : (switch : ℕ) → IsQuiet s (step_of_kill s switch)
  same_killed switch = killing (is_dead s.net.dead switch) _

-- what a row of a cache and of a home leaves
module _ (s : Fabric) (m : Message) where
  pub cache_clocks : (reply : CacheReply) →
      IsSameClocks s (sending
      (with_net (with_node s m.to (node_after (node_at s m.to) reply))
      (without_flight s.net m.id)) m.to m.block reply.sends Delivered).fabric
  cache_clocks reply =
      same_then s (with_node s m.to (node_after (node_at s m.to) reply)) _
      (same_with_node s m.to (node_after (node_at s m.to) reply) refl refl)
      (same_nodes (with_node s m.to (node_after (node_at s m.to) reply))
      (sending (with_net (with_node s m.to (node_after (node_at s m.to) reply))
      (without_flight s.net m.id)) m.to m.block reply.sends Delivered).fabric refl refl)

  entry_clocks : (reply : HomeReply) → IsSameClocks s (home_after s m.to m.block reply)
  entry_clocks reply =
      same_then s (with_home s m.block reply.after.entry) (home_after s m.to m.block reply)
      (same_nodes s (with_home s m.block reply.after.entry) refl refl)
      (same_with_node (with_home s m.block reply.after.entry) m.to (record (node_at s m.to) { log = reply.after.log }) refl refl)

  pub home_clocks : (reply : HomeReply) →
      IsSameClocks s (sending
      (with_net (home_after s m.to m.block reply) (without_flight s.net m.id)) m.to m.block reply.sends Delivered).fabric
  home_clocks reply =
      same_then s (home_after s m.to m.block reply) _ (entry_clocks reply)
      (same_nodes (home_after s m.to m.block reply)
      (sending (with_net (home_after s m.to m.block reply)
      (without_flight s.net m.id)) m.to m.block reply.sends Delivered).fabric refl refl)
