-- The events of messages and switches: a hop, a delivery, a loss, a switch that dies.
use Rattle.std.specs.Prelude.{ℕ, ◌+◌, true, not, nat_eq, nat_lt, max, if◌then◌else◌, List, length, filter, slice_set, Option, Some, None}
use Rattle.std.specs.Option.{option_map}
use Rattle.sn_base.specs.declared.config.Config.{Config}
use Rattle.sn_base.specs.declared.event.Answer.{Answer}
use Rattle.sn_base.specs.declared.event.Answer.TheVariants.{LogFull, NetFull, Hopped, LostInDead, Arrived, NotArrived, NoMessage, Delivered}
use Rattle.sn_base.specs.declared.event.Answer.TheVariants.{Held, HomeBusy, Lost, Killed, AlreadyDead}
use Rattle.sn_base.specs.declared.log.LogEntry.{LogEntry}
use Rattle.sn_msg.specs.declared.Message.{Message}
use Rattle.sn_msg.specs.declared.Body.{Body}
use Rattle.log_buffer.specs.Log.{entries_from}
use Rattle.route_plan.specs.Distances.{is_dead}
use Rattle.sn_model.specs.declared.cache.Out.{Out}
use Rattle.sn_model.specs.declared.net.News.{News}
use Rattle.sn_model.specs.declared.net.News.TheVariants as told
use Rattle.sn_model.specs.declared.rows.HomeMessage.{HomeMessage}
use Rattle.sn_model.specs.declared.rows.Receiver.{Receiver}
use Rattle.sn_model.specs.declared.rows.Receiver.TheVariants as receiver
use Rattle.sn_model.specs.Homes.{Transaction}
use Rattle.sn_model.specs.Receivers.{receiver_of}
use Rattle.sn_model.specs.CacheRows.{Logged, CacheReply, cache_reply}
use Rattle.sn_model.specs.HomeRows.{LoggedEntry, HomeReply, home_reply, home_row, is_request}
use Rattle.sn_model.specs.Fabric.{Fabric, Node, Flight, FabricStep, node_at, with_node, home_of, with_home, home_node, with_net, step_refused}
use Rattle.sn_model.specs.Fabric.{step_with_answer}
use Rattle.sn_model.specs.Net.{net_limit, routes_of, flight_of, without_flight, net_with_flight_in, is_there, next_switch, sending}

-- hop i

abbrev pub hops_to : Fabric → Flight → ℕ → FabricStep
hops_to s f next =
    if is_dead s.net.dead next then step_with_answer (with_net s (without_flight s.net f.message.id)) LostInDead
    else step_with_answer (with_net s (net_with_flight_in s.net f.message.id next)) Hopped

abbrev pub hops : Fabric → Option Flight → FabricStep
hops s None = step_refused s NoMessage
hops s (Some f) = if is_there f then step_refused s Arrived else hops_to s f (next_switch (routes_of s) f)

abbrev pub step_of_hop : Fabric → ℕ → FabricStep
step_of_hop s id = hops s (flight_of s.net.flights id)

-- lose i

abbrev pub loses : Fabric → Option Flight → FabricStep
loses s None = step_refused s NoMessage
loses s (Some f) = step_with_answer (with_net s (without_flight s.net f.message.id)) Lost

abbrev pub step_of_loss : Fabric → ℕ → FabricStep
step_of_loss s id = loses s (flight_of s.net.flights id)

-- kill s

abbrev pub step_of_kill : Fabric → ℕ → FabricStep
step_of_kill s switch =
    if is_dead s.net.dead switch then step_refused s AlreadyDead
    else step_with_answer (with_net s
    (record s.net { dead = slice_set s.net.dead switch true; flights = filter (λ f. not (nat_eq f.place switch)) s.net.flights })) Killed

-- deliver i

-- what a delivery comes to where it isn't refused: nothing, for the home is busy; what a row leaves at a cache or at a home;
-- or what the layer above has to hear, and what the node knows then
pub data Outcome : Type 0 where
  Busy : Outcome
  AtCache : (reply : CacheReply) → Outcome
  AtHome : (reply : HomeReply) → Outcome
  Noted : (fabric : Fabric) (told : News) → Outcome

abbrev pub logged_at : Fabric → ℕ → Logged
logged_at s n = record { cache = (node_at s n).cache; log = (node_at s n).log }

abbrev pub kept_at : Fabric → ℕ → ℕ → LoggedEntry
kept_at s n block = record { entry = home_of s block; log = (node_at s n).log }

-- a request waits while a transaction is open on its block
abbrev pub unless_busy : Option Transaction → HomeReply → Outcome
unless_busy None reply = AtHome reply
unless_busy (Some transaction) reply = Busy

-- a node that hears of a recovery point frees its log entries below it
abbrev pub node_after_news : Node → ℕ → Node
node_after_news node k = record node { known = max node.known k; log = entries_from k node.log }

abbrev pub outcome_at_home : LoggedEntry → Message → ℕ → HomeMessage → Outcome
outcome_at_home at m now message =
    if is_request message then unless_busy at.entry.transaction (home_reply at m.block now m.tag m.from (home_row at.entry m.from message))
    else AtHome (home_reply at m.block now m.tag m.from (home_row at.entry m.from message))

-- what a message comes to at who takes it
abbrev pub outcome_by : Fabric → Message → Receiver → Outcome
outcome_by s m (receiver.Cache taken) =
    AtCache (cache_reply (logged_at s m.to) (home_node s m.block) m.block (node_at s m.to).now m.tag taken)
outcome_by s m (receiver.Home message) = outcome_at_home (kept_at s m.to m.block) m (node_at s m.to).now message
outcome_by s m (receiver.Controller k) = Noted s (told.Ready m.from k)
outcome_by s m (receiver.Clock k) = Noted (with_node s m.to (node_after_news (node_at s m.to) k)) (told.Advance m.to k)

abbrev pub outcome_of : Fabric → Message → Body → Outcome
outcome_of s m body = outcome_by s m (receiver_of body)

abbrev pub node_after : Node → CacheReply → Node
node_after node reply = record node { cache = reply.after.cache; log = reply.after.log }

abbrev pub home_after : Fabric → ℕ → ℕ → HomeReply → Fabric
home_after s n block reply = with_node (with_home s block reply.after.entry) n (record (node_at s n) { log = reply.after.log })

-- the row is done unless the log lacks the room for its entry, or the network for what it sends
abbrev pub fits_in : Config → Fabric → List LogEntry → List Out → FabricStep → FabricStep
fits_in config s log sends done =
    if nat_lt config.log (length log) then step_refused s LogFull
    else if nat_lt (net_limit + 1) (length s.net.flights + length sends) then step_refused s NetFull
    else done

-- the copy that a row of a cache lost
abbrev pub copy_lost : ℕ → CacheReply → Option News
copy_lost n reply = option_map (λ (block : ℕ). told.LostCopy n block) reply.lost

abbrev pub delivers : Config → Fabric → Message → Outcome → FabricStep
delivers config s m Busy = step_refused s HomeBusy
delivers config s m (AtCache reply) = fits_in config s reply.after.log reply.sends
    (record (sending (with_net (with_node s m.to (node_after (node_at s m.to) reply))
    (without_flight s.net m.id)) m.to m.block reply.sends Delivered) { told = copy_lost m.to reply })
delivers config s m (AtHome reply) = fits_in config s reply.after.log reply.sends
    (sending (with_net (home_after s m.to m.block reply) (without_flight s.net m.id)) m.to m.block reply.sends Delivered)
delivers config s m (Noted fabric told) = record (step_with_answer (with_net fabric (without_flight s.net m.id)) Delivered) { told = Some told }

-- the answer to a delivery, once it has come and isn't held
abbrev pub answer_to : Config → Fabric → Message → Answer
answer_to config s m = (delivers config s m (outcome_of s m m.body)).answer

abbrev pub delivers_flight : Config → Fabric → Option Flight → FabricStep
delivers_flight config s None = step_refused s NoMessage
delivers_flight config s (Some f) =
    if not (is_there f) then step_refused s NotArrived
    else if nat_lt (node_at s f.message.to).now f.message.tag then step_refused s Held
    else delivers config s f.message (outcome_of s f.message f.message.body)

abbrev pub step_of_delivery : Config → Fabric → ℕ → FabricStep
step_of_delivery config s id = delivers_flight config s (flight_of s.net.flights id)
