-- What a delivery is to the parts: what a cache or a home says of a message, and what is sent then.
use Rattle.std.specs.Prelude.{◌≡◌, ℕ, zero, suc, ◌+◌, ◌<◌, Bool, true, ⊤, nat_lt, if◌then◌else◌, List, [], ◌∷◌, ◌++◌, Option, Some, None}
use Rattle.std.specs.Option.{option_map}
use Rattle.sn_base.specs.Nodes.{has_node}
use Rattle.sn_base.specs.declared.event.Answer.{Answer}
use Rattle.sn_base.specs.declared.event.Answer.TheVariants.{Delivered, HomeBusy, LogFull, NetFull, NoMessage, NotArrived}
use Rattle.sn_msg.specs.declared.Body.TheVariants.{Inv}
use Rattle.sn_msg.specs.declared.Message.{Message}
use Rattle.switch_net.specs.declared.answers.TakeFault.{TakeFault}
use Rattle.switch_net.specs.declared.answers.TakeFault.TheVariants as fault
use Rattle.mosi_cache.specs.declared.step.CacheStep.{CacheStep}
use Rattle.mosi_cache.specs.declared.step.CacheStep.TheVariants as cache
use Rattle.home_directory.specs.declared.step.HomeStep.{HomeStep}
use Rattle.home_directory.specs.declared.step.HomeStep.TheVariants as home
use Rattle.sn_model.specs.declared.cache.Out.{Out}
use Rattle.sn_model.specs.declared.look.Look.{Look}
use Rattle.sn_model.specs.declared.look.Look.TheVariants as look
use Rattle.sn_model.specs.declared.net.News.{News}
use Rattle.sn_model.specs.declared.net.News.TheVariants.{LostCopy}
use Rattle.sn_model.specs.CacheRows.{CacheReply, send}
use Rattle.sn_model.specs.Fabric.{Fabric}
use Rattle.sn_model.specs.Net.{flight_of, is_there}
use Rattle.sn_fabric.specs.declared.node.NodeUnit.{NodeUnit}

-- a message that is in flight and stands in a switch of its receiver
pub record HasCome (s : Fabric) (m : Message) : Type 0 where
  pub place : ℕ
  pub found : flight_of s.net.flights m.id ≡ Some (record { message = m; place = place })
  pub there : is_there (record { message = m; place = place }) ≡ true

-- the answer where there is nothing to take
abbrev pub fault_as : TakeFault → Answer
fault_as fault.NoMessage = NoMessage
fault_as fault.NotArrived = NotArrived

-- the answer by what the receiver says beforehand, where so many messages are in flight, this one among them
abbrev pub look_answer : Look → ℕ → Answer
look_answer (look.Sends more) flights = if nat_lt 1025 (flights + more) then NetFull else Delivered
look_answer look.HomeBusy flights = HomeBusy
look_answer look.LogFull flights = LogFull

-- what a cache sends, and what the layer above hears of it
abbrev pub out_of : CacheStep → Option Out
out_of (cache.Took out lost) = out
out_of cache.LogFull = None

abbrev pub lost_by : ℕ → CacheStep → Option News
lost_by n (cache.Took out lost) = option_map (λ (block : ℕ). LostCopy n block) lost
lost_by n cache.LogFull = None

-- a node after this row of its cache
abbrev pub unit_after : NodeUnit → CacheReply → NodeUnit
unit_after x reply =
    record x { cache = record x.cache { cache = reply.after.cache }; log = record x.log { entries = reply.after.log } }

-- one message or none
abbrev pub outs_of : Option Out → List Out
outs_of None = []
outs_of (Some out) = out ∷ []

-- an Inv that names r to a node, where it is one of the set; and to each of the first so many nodes that is, in order
abbrev pub invalidation : List Bool → ℕ → ℕ → Option Out
invalidation set r to = if has_node set to then Some (send to (Inv r)) else None

abbrev pub invalidations_below : List Bool → ℕ → ℕ → List Out
invalidations_below set r zero = []
invalidations_below set r (suc n) = invalidations_below set r n ++ outs_of (invalidation set r n)

abbrev pub invalidations_of : List Bool → ℕ → List Out
invalidations_of set r = invalidations_below set r 16

-- what a home sends
abbrev pub home_outs : HomeStep → List Out
home_outs (home.Took out set r) = outs_of out ++ invalidations_of set r
home_outs home.HomeBusy = []
home_outs home.LogFull = []

-- each message goes to one of so many nodes
abbrev pub GoTo : List Out → ℕ → Type 0
GoTo [] nodes = ⊤
GoTo (out ∷ outs) nodes = (out.to < nodes) × GoTo outs nodes
