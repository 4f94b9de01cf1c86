-- A fabric as a value, and what a call makes of it.
use Rattle.std.specs.Prelude.{◌≡◌, ℕ, ◌%◌, Bool, true, false, ◌&&◌, nat_eq, List, length}
use Rattle.sn_base.specs.declared.config.Config.{Config}
use Rattle.sn_base.specs.declared.event.Answer.{Answer}
use Rattle.sn_base.specs.declared.event.Answer.TheVariants.{Evicted, PutBegun}
use Rattle.sn_model.specs.declared.net.Sent.{Sent}
use Rattle.switch_net.specs.Net.{NetData}
use Rattle.sn_model.specs.Fabric.{Fabric, FabricStep}
use Rattle.sn_model.specs.NodeEvents.{step_of_eviction}
use Rattle.sn_fabric.specs.Nets.{net_as}

-- the sizes, the fabric of the machine's definitions, and what the last call sent
pub record FabricData : Type 0 where
  pub config : Config
  pub fabric : Fabric
  pub sent : List Sent

-- a call's answer, and what it leaves, are those of an event of the machine's definitions
pub record IsAfter (before after : FabricData) (said : Answer) (moved : FabricStep) : Type 0 where
  pub answer : said ≡ moved.answer
  pub left : after ≡ record before { fabric = moved.fabric; sent = moved.sent }

-- the network of a fabric
pub record IsNetOf (n : NetData) (f : FabricData) : Type 0 where
  pub nodes : n.routes.nodes ≡ length f.fabric.nodes
  pub carried : net_as n ≡ f.fabric.net

-- whether an eviction lets a line go, at once or by a put
abbrev pub goes : Answer → Bool
goes Evicted = true
goes PutBegun = true
goes answer = false

-- whether a block of the set of another could be evicted at a node now
abbrev pub can_go : Config → Fabric → ℕ → ℕ → ℕ → Bool
can_go config s n block candidate = nat_eq (candidate % config.sets) (block % config.sets) && goes (step_of_eviction s n candidate).answer
