-- What the plan of a delivery says of the fabric that it was made for.
use Rattle.std.specs.Prelude.{◌≡◌, ℕ, ◌+◌, ◌≤◌, false, nat_lt, List, length}
use Rattle.sn_base.specs.declared.config.Config.{Config}
use Rattle.sn_base.specs.declared.event.Answer.{Answer}
use Rattle.sn_base.specs.declared.event.Answer.TheVariants.{Delivered}
use Rattle.sn_base.specs.declared.log.LogEntry.{LogEntry}
use Rattle.sn_msg.specs.declared.Message.{Message}
use Rattle.home_directory.specs.Serving.{waits}
use Rattle.sn_model.specs.declared.cache.Out.{Out}
use Rattle.sn_model.specs.declared.rows.CacheRow.{CacheRow}
use Rattle.sn_model.specs.declared.rows.HomeMessage.{HomeMessage}
use Rattle.sn_model.specs.declared.rows.HomeRow.{HomeRow}
use Rattle.sn_model.specs.declared.rows.Receiver.{Receiver}
use Rattle.sn_model.specs.declared.rows.Receiver.TheVariants as receiver
use Rattle.sn_model.specs.CacheRows.{CacheReply, cache_reply}
use Rattle.sn_model.specs.HomeRows.{HomeReply, home_row, home_reply}
use Rattle.sn_model.specs.Receivers.{receiver_of}
use Rattle.sn_model.specs.Fabric.{Fabric, node_at, home_of, home_node, step_refused}
use Rattle.sn_model.specs.NetEvents.{logged_at, kept_at, step_of_delivery}
use Rattle.sn_fabric.specs.declared.plans.Plan.{Plan}
use Rattle.sn_fabric.specs.declared.plans.Plan.TheVariants as plan
use Rattle.sn_fabric.specs.Deliveries.{HasCome}

-- a message that has come is such as its plan says
pub record IsComeAs (s : Fabric) (id : ℕ) (m : Message) (Is : Message → Type 0) : Type 0 where
  pub number : m.id ≡ id
  pub come : HasCome s m
  pub is : Is m

-- the message of a number has come, and is such
abbrev pub HasComeAs : Fabric → ℕ → (Message → Type 0) → Type 0
HasComeAs s id Is = (m : Message) × IsComeAs s id m Is

-- its interval has begun at its receiver, and this is who takes it
pub record IsTaken (s : Fabric) (m : Message) (who : Receiver) : Type 0 where
  pub reached : m.tag ≤ (node_at s m.to).now
  pub receiver : receiver_of m.body ≡ who

-- the log and the network have the room for what a row leaves and sends; the message itself leaves the network
pub record HasRoomFor (config : Config) (s : Fabric) (log : List LogEntry) (sends : List Out) : Type 0 where
  pub entries : nat_lt config.log (length log) ≡ false
  pub messages : nat_lt 1025 (length s.net.flights + length sends) ≡ false

-- what a row leaves at the message's receiver
abbrev pub cache_reply_at : Fabric → Message → CacheRow → CacheReply
cache_reply_at s m taken = cache_reply (logged_at s m.to) (home_node s m.block) m.block (node_at s m.to).now m.tag taken

abbrev pub home_reply_at : Fabric → Message → HomeRow → HomeReply
home_reply_at s m taken = home_reply (kept_at s m.to m.block) m.block (node_at s m.to).now m.tag m.from taken

-- this is the message's row at a cache, and there is room for it
pub record HasCacheRow (config : Config) (s : Fabric) (taken : CacheRow) (m : Message) : Type 0 where
  pub here : IsTaken s m (receiver.Cache taken)
  pub room : HasRoomFor config s (cache_reply_at s m taken).after.log (cache_reply_at s m taken).sends

-- this is its row at a home, where it needn't wait, and there is room for it
pub record HasHomeRow (config : Config) (s : Fabric) (taken : HomeRow) (m : Message) : Type 0 where
  pub asked : HomeMessage
  pub here : IsTaken s m (receiver.Home asked)
  pub idle : waits (home_of s m.block) asked ≡ false
  pub row : taken ≡ home_row (home_of s m.block) m.from asked
  pub room : HasRoomFor config s (home_reply_at s m taken).after.log (home_reply_at s m taken).sends

-- what a plan says of the message of a number: that its delivery changes nothing, and why; or who takes it
abbrev pub IsPlan : Config → Fabric → ℕ → Plan → Type 0
IsPlan config s id (plan.Refuses answer) = step_of_delivery config s id ≡ step_refused s answer
IsPlan config s id (plan.AtCache taken) = HasComeAs s id (HasCacheRow config s taken)
IsPlan config s id (plan.AtHome taken) = HasComeAs s id (HasHomeRow config s taken)
IsPlan config s id (plan.Reports k) = HasComeAs s id (λ m. IsTaken s m (receiver.Controller k))
IsPlan config s id (plan.Tells k) = HasComeAs s id (λ m. IsTaken s m (receiver.Clock k))

-- the answer of a plan
abbrev pub answer_of : Plan → Answer
answer_of (plan.Refuses answer) = answer
answer_of (plan.AtCache taken) = Delivered
answer_of (plan.AtHome taken) = Delivered
answer_of (plan.Reports k) = Delivered
answer_of (plan.Tells k) = Delivered
