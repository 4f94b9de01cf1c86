-- Every part but those that an event touches is as it was: event by event, along the tests of its definition.
use Rattle.std.proofs.Common.{◌≡◌, ℕ, ◌+◌, Bool, true, false, if◌then◌else◌, List, [], ◌∷◌, length, Option, Some, None}
use Rattle.std.proofs.Common.{refl, ap, sym, ◌∙◌, length-set}
use Rattle.std.proofs.lemmas.List.{length-map}
use Rattle.std.specs.Option.{option_map}
use Rattle.sn_base.specs.Image.{ImageData}
use Rattle.sn_base.specs.declared.block.Write.{Write}
use Rattle.sn_base.specs.declared.config.Config.{Config}
use Rattle.sn_base.specs.declared.log.LogEntry.{LogEntry}
use Rattle.sn_base.specs.declared.event.Event.{Event}
use Rattle.sn_base.specs.declared.event.Event.TheVariants.{Step, Evict, Edge, Hop, Deliver, Lose, Kill, Report, Validate, Recover, Input}
use Rattle.sn_base.specs.declared.event.Answer.{Answer}
use Rattle.sn_base.specs.declared.event.Answer.TheVariants.{LogFull, NetFull, NeedsEvict, Waits, PutOpen, NotCached, MissOpen, PutBegun, CheckpointsFull, Edged, Validated}
use Rattle.sn_base.specs.declared.event.Answer.TheVariants.{Retired, NoMessage, Arrived, NotArrived, AlreadyDead, Held, HomeBusy}
use Rattle.sn_msg.specs.declared.Message.{Message}
use Rattle.sn_msg.specs.declared.Body.{Body}
use Rattle.sn_msg.specs.declared.Body.TheVariants.{GetS, GetM, FwdGetS, FwdGetM, Inv, DataS, DataM, DataE, UpgOk, InvAck, Unblock, PutReq}
use Rattle.sn_msg.specs.declared.Body.TheVariants.{PutGo, PutData, PutDone, Ready, Advance}
use Rattle.rv_core.specs.Step.{Next}
use Rattle.sn_model.specs.declared.cache.LineState.{LineState}
use Rattle.sn_model.specs.declared.cache.LineState.TheVariants.{Absent, Shared, Owned, Modified, Exclusive}
use Rattle.sn_model.specs.declared.cache.Need.{Need}
use Rattle.sn_model.specs.declared.cache.Out.{Out}
use Rattle.sn_model.specs.declared.net.Sent.{Sent}
use Rattle.sn_model.specs.declared.net.News.{News}
use Rattle.sn_model.specs.declared.net.News.TheVariants as told
use Rattle.sn_model.specs.Caches.{line_of}
use Rattle.sn_model.specs.CacheRows.{CacheReply, send}
use Rattle.sn_model.specs.HomeRows.{HomeReply}
use Rattle.sn_model.specs.Homes.{Transaction}
use Rattle.sn_model.specs.Fabric.{Fabric, Node, Net, Flight, FabricStep, node_at, with_node, home_of, home_node, with_net, step_refused, step_with_answer}
use Rattle.sn_model.specs.Net.{sending, flight_of, next_switch, routes_of}
use Rattle.sn_model.specs.Access.{step_of_access, accesses, misses, step_of_miss, missing, lacks_room, with_write}
use Rattle.sn_model.specs.NodeEvents.{evicts, step_of_eviction, begins_put, with_put, without_copy, step_of_edge, after_edge, step_of_report}
use Rattle.sn_model.specs.NetEvents.{Outcome, AtCache, AtHome, hops, hops_to, loses, step_of_kill, delivers, delivers_flight}
use Rattle.sn_model.specs.NetEvents.{outcome_of, unless_busy, fits_in, node_after, home_after, node_after_news}
use Rattle.sn_model.specs.PointEvents.{step_of_advance, advances, recovers, fabric_restored_to, restored_node}
use Rattle.sn_model.specs.Machine.{State, Processor, Retirement, processor_at, with_processor}
use Rattle.sn_model.specs.Instructions.{FoundOutside, MachineStep, machine_step_of, retired_with, written_by, record_with, found_at, next_with}
use Rattle.sn_model.specs.MachineEvents.{state_after_news, machine_step_with_news, edges, with_checkpoint, validates, commits, restores, processor_with_freed, without_reservation}
use Rattle.sn_model.specs.Step.{step_of}
use Rattle.sn_model.specs.Refusals.{is_refusal}
use Rattle.sn_model.proofs.EachStep.{each_step}
use Rattle.state_parts.specs.Touched.{TouchedParts, OnlyThese, AllParts, nothing, net_alone, node_alone, node_and_net, home_with_node}
use Rattle.state_parts.specs.Touched.{touched_by_message, touched_by_delivery, touched_by_step, touched_by_eviction, numbers_below}
use Rattle.state_parts.specs.Touched.{parts_touched, is_in, AreSameBut, OthersStay}
use Rattle.state_parts.proofs.Changes.{either, unequal, node_beside, home_beside, processor_beside, waiting_beside, reads_beside, is_below}

-- a state that stays
pub same_state : (t : TouchedParts) (s : State) → OthersStay t s s
same_state AllParts s = refl
same_state (OnlyThese nodes homes net controller) s = record {
  count = refl;
  nodes_stay = λ n l e. refl;
  homes_stay = λ block e. refl;
  net_stays = λ e. refl;
  controller_stays = λ e. refl;
}

-- a fabric that is the same but for these nodes, homes and maybe the network
record SameFabric (nodes homes : List ℕ) (net : Bool) (s t : Fabric) : Type 0 where
  pub count : length t.nodes ≡ length s.nodes
  pub nodes_stay : (n : ℕ) → is_in n nodes ≡ false → node_at t n ≡ node_at s n
  pub homes_stay : (block : ℕ) → is_in block homes ≡ false → home_of t block ≡ home_of s block
  pub net_stays : net ≡ false → t.net ≡ s.net
  pub point : t.point ≡ s.point

-- a rest that is the same but for the processors of these nodes and maybe what they reported
record SameRest (nodes : List ℕ) (controller : Bool) (s r : State) : Type 0 where
  pub processors : (n : ℕ) → is_in n nodes ≡ false → processor_at r n ≡ processor_at s n
  pub pending : r.pending ≡ s.pending
  pub committed : r.committed ≡ s.committed
  pub held : r.held ≡ s.held
  pub released : r.released ≡ s.released
  pub reported : controller ≡ false → r.reported ≡ s.reported

same_fabric : (nodes homes : List ℕ) (net : Bool) (s : Fabric) → SameFabric nodes homes net s s
same_fabric nodes homes net s =
    record { count = refl; nodes_stay = λ n e. refl; homes_stay = λ b e. refl; net_stays = λ e. refl; point = refl }

same_rest : (nodes : List ℕ) (controller : Bool) (s : State) → SameRest nodes controller s s
same_rest nodes controller s =
    record { processors = λ n e. refl; pending = refl; committed = refl; held = refl; released = refl; reported = λ e. refl }

-- a fabric and a rest together
both : (nodes homes : List ℕ) (net controller : Bool) (s r : State) (t : Fabric) → SameFabric nodes homes net s.fabric t →
    SameRest nodes controller s r → AreSameBut nodes homes net controller s (record r { fabric = t })
both nodes homes net controller s r t f g = record {
  count = f.count;
  nodes_stay = λ n l e. rw (f.nodes_stay n e, g.processors n e, g.pending, g.committed) refl;
  homes_stay = f.homes_stay;
  net_stays = f.net_stays;
  controller_stays = λ e. rw (f.point, g.reported e, g.held, g.committed, g.released) refl;
}

-- a node in its place, the network aside
one_node : (s : Fabric) (k : ℕ) (node : Node) → SameFabric (k ∷ []) [] false s (with_node s k node)
one_node s k node = record {
  count = length-set s.nodes k node;
  nodes_stay = λ n e. node_beside s k n node e;
  homes_stay = λ block e. refl;
  net_stays = λ e. refl;
  point = refl;
}

with_other_net : (nodes homes : List ℕ) (net : Bool) (s t : Fabric) (other : Net) → SameFabric nodes homes net s t →
    SameFabric nodes homes true s (with_net t other)
with_other_net nodes homes net s t other f = record {
  count = f.count;
  nodes_stay = f.nodes_stay;
  homes_stay = f.homes_stay;
  net_stays = λ e. absurd (differ e);
  point = f.point;
} where
  differ : true ≡ false → ⊥
  differ e = cc

one_processor : (s : State) (k : ℕ) (processor : Processor) → SameRest (k ∷ []) false s (with_processor s k processor)
one_processor s k processor = record {
  processors = λ n e. processor_beside s k n processor e;
  pending = refl;
  committed = refl;
  held = refl;
  released = refl;
  reported = λ e. refl;
}

-- what an event of the machine comes to, where these parts are told if it isn't refused
abbrev IsGood : State → TouchedParts → MachineStep → Type 0
IsGood s t x = OthersStay (if is_refusal x.answer then nothing else t) s x.state

declined : (s : State) (t : TouchedParts) (answer : Answer) → is_refusal answer ≡ true →
    OthersStay (if is_refusal answer then nothing else t) s s
declined s t answer e = same_state (if is_refusal answer then nothing else t) s

-- an event of the fabric alone, with the rest as it hears of it
heard_of : (s : State) (nodes homes : List ℕ) (net controller : Bool) (moved : FabricStep) → is_refusal moved.answer ≡ false →
    SameFabric nodes homes net s.fabric moved.fabric → SameRest nodes controller s (state_after_news s moved.told) →
    IsGood s (OnlyThese nodes homes net controller) (machine_step_with_news s moved)
heard_of s nodes homes net controller moved accepted f g =
    rw accepted (both nodes homes net controller s (state_after_news s moved.told) moved.fabric f g)

carried_by : (s : State) (nodes homes : List ℕ) (net : Bool) (moved : FabricStep) → is_refusal moved.answer ≡ false →
    SameFabric nodes homes net s.fabric moved.fabric → IsGood s (OnlyThese nodes homes net false) (machine_step_of s moved)
carried_by s nodes homes net moved accepted f =
    rw accepted (both nodes homes net false s s moved.fabric f (same_rest nodes false s))

-- step n

-- of an access that its line doesn't serve, whatever its answer
record GoodAccess (s : State) (n : ℕ) (moved : FabricStep) : Type 0 where
  pub good : IsGood s (touched_by_step n moved.answer) (machine_step_of s moved)

declined_access : (s : State) (n : ℕ) (answer : Answer) → is_refusal answer ≡ true → GoodAccess s n (step_refused s.fabric answer)
declined_access s n answer e = record { good = declined s (touched_by_step n answer) answer e }

stays-missed : (s : State) (n block : ℕ) (need : Need) → GoodAccess s n (step_of_miss s.fabric n block need)
stays-missed s n block need = record {
  good =
      both (n ∷ []) [] true false s s _ (with_other_net (n ∷ []) [] false s.fabric _ _
      (one_node s.fabric n (missing (node_at s.fabric n) block need))) (same_rest (n ∷ []) false s);
}

served : (s : State) (n : ℕ) → GoodAccess s n (step_with_answer s.fabric Retired)
served s n = record { good = same_state (OnlyThese (n ∷ []) [] false true) s }

stays-misses : (config : Config) (s : State) (n block : ℕ) (need : Need) → GoodAccess s n (misses config s.fabric n block need)
stays-misses config s n block need =
    either (GoodAccess s n) _ _ _ (declined_access s n NeedsEvict refl)
    (either (GoodAccess s n) _ _ _ (declined_access s n NetFull refl) (stays-missed s n block need))

stays-served : (config : Config) (s : State) (n block : ℕ) (need : Need) →
    GoodAccess s n (if lacks_room config (node_at s.fabric n) block need then step_refused s.fabric LogFull else step_with_answer s.fabric Retired)
stays-served config s n block need = either (GoodAccess s n) _ _ _ (declined_access s n LogFull refl) (served s n)

stays-accesses : (config : Config) (s : State) (n block : ℕ) (need : Need) → GoodAccess s n (accesses config s.fabric n block need)
stays-accesses config s n block need =
    either (GoodAccess s n) _ _ _ (declined_access s n Waits refl)
    (either (GoodAccess s n) _ _ _ (stays-served config s n block need) (stays-misses config s n block need))

stays-accessed : (config : Config) (s : State) (n block : ℕ) (need : Need) → GoodAccess s n (step_of_access config s.fabric n block need)
stays-accessed config s n block need =
    either (GoodAccess s n) _ _ _ (declined_access s n Waits refl) (stays-accesses config s n block need)

written-stays : (s : Fabric) (n : ℕ) (write : Option Write) → SameFabric (n ∷ []) [] false s (written_by s n write)
written-stays s n None = same_fabric (n ∷ []) [] false s
written-stays s n (Some w) = one_node s n (with_write (node_at s n) w)

abbrev retirement : State → ℕ → FoundOutside → Retirement
retirement s n found = record { interval = (node_at s.fabric n).now; did = record_with n found }

-- of a step, whatever its answer
abbrev IsGoodStep : State → ℕ → MachineStep → Type 0
IsGoodStep s n x = IsGood s (touched_by_step n x.answer) x

stays-retired_with : (s : State) (n : ℕ) (found : FoundOutside) (next : Next) → IsGoodStep s n (retired_with s n found next)
stays-retired_with s n found next = record {
  count = f.count;
  nodes_stay = λ m l e.
      rw (
        f.nodes_stay m e,
        processor_beside s n m (record (processor_at s n) { core = next.core }) e,
        waiting_beside m s.pending (retirement s n found) (unequal m n e),
        reads_beside m s.pending (retirement s n found) (unequal m n e),
      ) refl;
  homes_stay = f.homes_stay;
  net_stays = f.net_stays;
  controller_stays = λ e. absurd (differ e);
} where
  f : SameFabric (n ∷ []) [] false s.fabric (written_by s.fabric n next.effect.write)
  f = written-stays s.fabric n next.effect.write

  differ : true ≡ false → ⊥
  differ e = cc

stays-step : (image : ImageData) (config : Config) (s : State) (n : ℕ) → IsGoodStep s n (step_of image config s (Step n))
unfolding step_of
stays-step image config s n =
    each_step image config s n (IsGoodStep s n) (stays-retired_with s n (found_at image s n) (next_with image (processor_at s n) (found_at image s n)))
    (λ block need. (stays-accessed config s n block need).good) (same_state nothing s) (same_state nothing s) (same_state nothing s)

-- evict n block

record GoodEviction (s : State) (n : ℕ) (moved : FabricStep) : Type 0 where
  pub good : IsGood s (touched_by_eviction n moved.answer) (machine_step_with_news s moved)

declined_eviction : (s : State) (n : ℕ) (answer : Answer) → is_refusal answer ≡ true → GoodEviction s n (step_refused s.fabric answer)
declined_eviction s n answer e = record { good = declined s (touched_by_eviction n answer) answer e }

stays-dropped : (s : State) (n block : ℕ) → GoodEviction s n (evicts s.fabric n block Shared)
stays-dropped s n block = record {
  good =
      heard_of s (n ∷ []) [] false false (evicts s.fabric n block Shared) refl
      (one_node s.fabric n (without_copy (node_at s.fabric n) block)) (one_processor s n (without_reservation (processor_at s n) block));
}

stays-put : (s : State) (n block : ℕ) → GoodEviction s n (sending (with_node s.fabric n (with_put (node_at s.fabric n) block)) n block (send (home_node s.fabric block) PutReq ∷ []) PutBegun)
stays-put s n block = record {
  good =
      both (n ∷ []) [] true false s s _ (with_other_net (n ∷ []) [] false s.fabric _ _
      (one_node s.fabric n (with_put (node_at s.fabric n) block))) (same_rest (n ∷ []) false s);
}

stays-begun : (s : State) (n block : ℕ) → GoodEviction s n (begins_put s.fabric n block)
stays-begun s n block =
    either (GoodEviction s n) _ _ _ (declined_eviction s n PutOpen refl)
    (either (GoodEviction s n) _ _ _ (declined_eviction s n NetFull refl) (stays-put s n block))

stays-evicts : (s : State) (n block : ℕ) (state : LineState) → GoodEviction s n (evicts s.fabric n block state)
stays-evicts s n block Absent = declined_eviction s n NotCached refl
stays-evicts s n block Shared = stays-dropped s n block
stays-evicts s n block Owned = stays-begun s n block
stays-evicts s n block Modified = stays-begun s n block
stays-evicts s n block Exclusive = stays-begun s n block

stays-evicted : (s : State) (n block : ℕ) → GoodEviction s n (step_of_eviction s.fabric n block)
stays-evicted s n block =
    either (GoodEviction s n) _ _ _ (declined_eviction s n MissOpen refl)
    (stays-evicts s n block (line_of (node_at s.fabric n).cache block).state)

-- edge n

record GoodEdge (s : State) (n : ℕ) (moved : FabricStep) : Type 0 where
  pub good : IsGood s (node_alone n) (edges s n moved)

declined_edge : (s : State) (n : ℕ) → GoodEdge s n (step_refused s.fabric CheckpointsFull)
declined_edge s n = record { good = same_state nothing s }

done_edge : (s : State) (n k : ℕ) → GoodEdge s n (step_with_answer (with_node s.fabric n (after_edge (node_at s.fabric n))) (Edged k))
done_edge s n k = record {
  good =
      both (n ∷ []) [] false false s _ _ (one_node s.fabric n (after_edge (node_at s.fabric n)))
      (one_processor s n (with_checkpoint (processor_at s n)));
}

stays-edged : (s : State) (n : ℕ) → GoodEdge s n (step_of_edge s.fabric n)
stays-edged s n = either (GoodEdge s n) _ _ _ (declined_edge s n) (done_edge s n ((node_at s.fabric n).now + 1))

-- the network alone

net_alone_stays : (s : Fabric) (other : Net) → SameFabric [] [] true s (with_net s other)
net_alone_stays s other = with_other_net [] [] false s s other (same_fabric [] [] false s)

record GoodCarriage (s : State) (moved : FabricStep) : Type 0 where
  pub good : IsGood s net_alone (machine_step_of s moved)

declined_carriage : (s : State) (answer : Answer) → is_refusal answer ≡ true → GoodCarriage s (step_refused s.fabric answer)
declined_carriage s answer e = record { good = declined s net_alone answer e }

net_changes : (s : State) (other : Net) (answer : Answer) (sent : List Sent) (told : Option News) → is_refusal answer ≡ false →
    GoodCarriage s (record { fabric = with_net s.fabric other; answer = answer; sent = sent; told = told })
net_changes s other answer sent told e = record {
  good = rw e (both [] [] true false s s (with_net s.fabric other) (net_alone_stays s.fabric other) (same_rest [] false s));
}

stays-reported : (s : State) (n : ℕ) → GoodCarriage s (step_of_report s.fabric n)
stays-reported s n = either (GoodCarriage s) _ _ _ (declined_carriage s NetFull refl) (net_changes s _ _ _ _ refl)

stays-hops_to : (s : State) (f : Flight) (next : ℕ) → GoodCarriage s (hops_to s.fabric f next)
stays-hops_to s f next = either (GoodCarriage s) _ _ _ (net_changes s _ _ _ _ refl) (net_changes s _ _ _ _ refl)

stays-hops : (s : State) (f : Option Flight) → GoodCarriage s (hops s.fabric f)
stays-hops s None = declined_carriage s NoMessage refl
stays-hops s (Some f) =
    either (GoodCarriage s) _ _ _ (declined_carriage s Arrived refl) (stays-hops_to s f (next_switch (routes_of s.fabric) f))

stays-loses : (s : State) (f : Option Flight) → GoodCarriage s (loses s.fabric f)
stays-loses s None = declined_carriage s NoMessage refl
stays-loses s (Some f) = net_changes s _ _ _ _ refl

stays-killed : (s : State) (switch : ℕ) → GoodCarriage s (step_of_kill s.fabric switch)
stays-killed s switch = either (GoodCarriage s) _ _ _ (declined_carriage s AlreadyDead refl) (net_changes s _ _ _ _ refl)

-- deliver i

record GoodDelivery (s : State) (t : TouchedParts) (moved : FabricStep) : Type 0 where
  pub good : IsGood s t (machine_step_with_news s moved)

declined_delivery : (s : State) (t : TouchedParts) (answer : Answer) → is_refusal answer ≡ true →
    GoodDelivery s t (step_refused s.fabric answer)
declined_delivery s t answer e = record { good = declined s t answer e }

lost-stays : (s : State) (n : ℕ) (lost : Option ℕ) →
    SameRest (n ∷ []) false s (state_after_news s (option_map (λ (block : ℕ). told.LostCopy n block) lost))
lost-stays s n None = same_rest (n ∷ []) false s
lost-stays s n (Some block) = one_processor s n (without_reservation (processor_at s n) block)

fits : (config : Config) (s : State) (t : TouchedParts) (log : List LogEntry) (sends : List Out) (done : FabricStep) →
    GoodDelivery s t done → GoodDelivery s t (fits_in config s.fabric log sends done)
fits config s t log sends done good =
    either (GoodDelivery s t) _ _ _ (declined_delivery s t LogFull refl)
    (either (GoodDelivery s t) _ _ _ (declined_delivery s t NetFull refl) good)

record GoodOutcome (config : Config) (s : State) (m : Message) (t : TouchedParts) (outcome : Outcome) : Type 0 where
  pub good : GoodDelivery s t (delivers config s.fabric m outcome)

at_cache : (config : Config) (s : State) (m : Message) (reply : CacheReply) → GoodOutcome config s m (node_and_net m.to) (AtCache reply)
at_cache config s m reply = record {
  good =
      fits config s (node_and_net m.to) reply.after.log reply.sends _ (record {
        good =
            both (m.to ∷ []) [] true false s _ _ (with_other_net (m.to ∷ []) [] false s.fabric _ _
            (one_node s.fabric m.to (node_after (node_at s.fabric m.to) reply))) (lost-stays s m.to reply.lost);
      });
}

home_stays : (s : Fabric) (n block : ℕ) (reply : HomeReply) → SameFabric (n ∷ []) (block ∷ []) false s (home_after s n block reply)
home_stays s n block reply = record {
  count = length-set s.nodes n _;
  nodes_stay = λ k e. node_beside s n k _ e;
  homes_stay = λ b e. home_beside s block b reply.after.entry e;
  net_stays = λ e. refl;
  point = refl;
}

at_home : (config : Config) (s : State) (m : Message) (reply : HomeReply) → GoodOutcome config s m (home_with_node m) (AtHome reply)
at_home config s m reply = record {
  good =
      fits config s (home_with_node m) reply.after.log reply.sends _ (record {
        good =
            both (m.to ∷ []) (m.block ∷ []) true false s s _ (with_other_net (m.to ∷ []) (m.block ∷ []) false s.fabric _ _
            (home_stays s.fabric m.to m.block reply)) (same_rest (m.to ∷ []) false s);
      });
}

request : (config : Config) (s : State) (m : Message) (transaction : Option Transaction) (reply : HomeReply) →
    GoodOutcome config s m (home_with_node m) (unless_busy transaction reply)
request config s m None reply = at_home config s m reply
request config s m (Some transaction) reply = record { good = declined_delivery s (home_with_node m) HomeBusy refl }

report-stays : (s : State) (n k : ℕ) → SameRest [] true s (state_after_news s (Some (told.Ready n k)))
report-stays s n k = record {
  processors = λ m e. refl;
  pending = refl;
  committed = refl;
  held = refl;
  released = refl;
  reported = λ e. absurd (differ e);
} where
  differ : true ≡ false → ⊥
  differ e = cc

by_body : (config : Config) (s : State) (m : Message) (body : Body) →
    GoodOutcome config s m (touched_by_message m body) (outcome_of s.fabric m body)
by_body config s m GetS = request config s m (home_of s.fabric m.block).transaction _
by_body config s m GetM = request config s m (home_of s.fabric m.block).transaction _
by_body config s m (FwdGetS r) = at_cache config s m _
by_body config s m (FwdGetM r due) = at_cache config s m _
by_body config s m (Inv r) = at_cache config s m _
by_body config s m (DataS content) = at_cache config s m _
by_body config s m (DataM content due) = at_cache config s m _
by_body config s m (DataE content) = at_cache config s m _
by_body config s m (UpgOk due) = at_cache config s m _
by_body config s m InvAck = at_cache config s m _
by_body config s m (Unblock fixed) = at_home config s m _
by_body config s m PutReq = request config s m (home_of s.fabric m.block).transaction _
by_body config s m PutGo = at_cache config s m _
by_body config s m (PutData content) = at_home config s m _
by_body config s m PutDone = at_cache config s m _
by_body config s m (Ready k) =
    record { good = record { good = both [] [] true true s _ _ (net_alone_stays s.fabric _) (report-stays s m.from k) } }
by_body config s m (Advance k) = record {
  good = record {
    good =
        both (m.to ∷ []) [] true false s _ _
        (with_other_net (m.to ∷ []) [] false s.fabric _ _ (one_node s.fabric m.to (node_after_news (node_at s.fabric m.to) k)))
        (one_processor s m.to (processor_with_freed (processor_at s m.to) (node_at s.fabric m.to).known k));
  };
}

by_flight : (config : Config) (s : State) (f : Option Flight) →
    GoodDelivery s (touched_by_delivery f) (delivers_flight config s.fabric f)
by_flight config s None = declined_delivery s nothing NoMessage refl
by_flight config s (Some f) =
    either (GoodDelivery s (touched_by_delivery (Some f))) _ _ _
    (declined_delivery s (touched_by_delivery (Some f)) NotArrived refl)
    (either (GoodDelivery s (touched_by_delivery (Some f))) _ _ _
    (declined_delivery s (touched_by_delivery (Some f)) Held refl) (by_body config s f.message f.message.body).good)

-- validate, recover

all_nodes_told : (s t : State) → length t.fabric.nodes ≡ length s.fabric.nodes → t.fabric.homes ≡ s.fabric.homes →
    AreSameBut (numbers_below (length s.fabric.nodes)) [] true true s t
all_nodes_told s t count homes = record {
  count = count;
  nodes_stay = λ n l e. absurd (differ (sym e ∙ is_below n (length s.fabric.nodes) l));
  homes_stay = λ block e. ap (λ hs. home_of (record s.fabric { homes = hs }) block) homes;
  net_stays = λ e. absurd (differ (sym e));
  controller_stays = λ e. absurd (differ (sym e));
} where
  differ : false ≡ true → ⊥
  differ e = cc

record GoodValidation (s : State) (moved : FabricStep) : Type 0 where
  pub good : IsGood s (OnlyThese (numbers_below (length s.fabric.nodes)) [] true true) (commits s moved)

declined_validation : (s : State) → GoodValidation s (step_refused s.fabric NetFull)
declined_validation s = record { good = same_state nothing s }

done_validation : (s : State) (k : ℕ) →
    GoodValidation s (sending (record s.fabric { point = k }) 0 0 (advances k 0 s.fabric.nodes) (Validated k))
done_validation s k = record { good = all_nodes_told s _ refl refl }

stays-advanced : (s : State) (k : ℕ) → GoodValidation s (step_of_advance s.fabric k)
stays-advanced s k = either (GoodValidation s) _ _ _ (declined_validation s) (done_validation s k)

stays-validates : (s : State) (unready : Option ℕ) →
    IsGood s (OnlyThese (numbers_below (length s.fabric.nodes)) [] true true) (validates s unready)
stays-validates s (Some node) = same_state nothing s
stays-validates s None = (stays-advanced s (s.fabric.point + 1)).good

stays-recovers : (s : State) (k : ℕ) (pair : Option (ℕ × ℕ)) → IsGood s AllParts (restores s (recovers s.fabric k pair))
unfolding fabric_restored_to
stays-recovers s k (Some pair) = same_state nothing s
stays-recovers s k None = length-map s.fabric.nodes (restored_node k)

-- every event

pub others-stay : (image : ImageData) (config : Config) (s : State) (event : Event) →
    OthersStay (parts_touched s event (step_of image config s event).answer) s (step_of image config s event).state
unfolding step_of
others-stay image config s (Step n) = stays-step image config s n
others-stay image config s (Evict n block) = (stays-evicted s n block).good
others-stay image config s (Edge n) = (stays-edged s n).good
others-stay image config s (Hop id) = (stays-hops s (flight_of s.fabric.net.flights id)).good
others-stay image config s (Deliver id) = (by_flight config s (flight_of s.fabric.net.flights id)).good
others-stay image config s (Lose id) = (stays-loses s (flight_of s.fabric.net.flights id)).good
others-stay image config s (Kill switch) = (stays-killed s switch).good
others-stay image config s (Report n) = (stays-reported s n).good
others-stay image config s Validate = stays-validates s _
others-stay image config s Recover = stays-recovers s s.fabric.point _
others-stay image config s (Input n byte) =
    both (n ∷ []) [] false false s _ s.fabric (same_fabric (n ∷ []) [] false s.fabric) (one_processor s n _)
