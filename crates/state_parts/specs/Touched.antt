-- Which parts of a state an event may have touched. Every other part is as it was before the event.
use Rattle.std.specs.Prelude.{◌≡◌, ℕ, zero, suc, ◌<◌, Bool, true, false, nat_eq, if◌then◌else◌, List, [], ◌∷◌, ◌++◌, length, Option, Some}
use Rattle.std.specs.Prelude.{None}
use Rattle.std.specs.List.{list_any}
use Rattle.sn_base.specs.declared.event.Event.{Event}
use Rattle.sn_base.specs.declared.event.Event.TheVariants.{Step, Evict, Edge, Hop, Deliver, Lose, Kill, Report, Validate, Recover, Input}
use Rattle.sn_base.specs.declared.event.Answer.{Answer}
use Rattle.sn_base.specs.declared.event.Answer.TheVariants.{Missed, PutBegun}
use Rattle.sn_msg.specs.declared.Message.{Message}
use Rattle.sn_msg.specs.declared.Body.{Body}
use Rattle.sn_msg.specs.declared.Body.TheVariants.{GetS, GetM, Unblock, PutReq, PutData, Ready}
use Rattle.sn_model.specs.Fabric.{Flight, home_of}
use Rattle.sn_model.specs.Net.{flight_of}
use Rattle.sn_model.specs.Machine.{State}
use Rattle.sn_model.specs.Refusals.{is_refusal}
use Rattle.state_parts.specs.Parts.{node_part, controller_part}

-- these nodes, the homes of these blocks, and the network and the controller where so marked; or all parts
pub data TouchedParts : Type 0 where
  OnlyThese : (nodes homes : List ℕ) (net controller : Bool) → TouchedParts
  AllParts : TouchedParts

abbrev pub nothing : TouchedParts
nothing = OnlyThese [] [] false false

abbrev pub net_alone : TouchedParts
net_alone = OnlyThese [] [] true false

abbrev pub node_alone : ℕ → TouchedParts
node_alone n = OnlyThese (n ∷ []) [] false false

abbrev pub node_and_net : ℕ → TouchedParts
node_and_net n = OnlyThese (n ∷ []) [] true false

-- a message to a home touches the block's entry, and its node, which has the log
abbrev pub home_with_node : Message → TouchedParts
home_with_node m = OnlyThese (m.to ∷ []) (m.block ∷ []) true false

-- by a message that is delivered: a report is the controller's; any other is a home's or a cache's
abbrev pub touched_by_message : Message → Body → TouchedParts
touched_by_message m (Ready k) = OnlyThese [] [] true true
touched_by_message m GetS = home_with_node m
touched_by_message m GetM = home_with_node m
touched_by_message m (Unblock fixed) = home_with_node m
touched_by_message m PutReq = home_with_node m
touched_by_message m (PutData content) = home_with_node m
touched_by_message m _ = node_and_net m.to

abbrev pub touched_by_delivery : Option Flight → TouchedParts
touched_by_delivery None = nothing
touched_by_delivery (Some f) = touched_by_message f.message f.message.body

-- the numbers below one
abbrev pub numbers_below : ℕ → List ℕ
numbers_below zero = []
numbers_below (suc n) = numbers_below n ++ n ∷ []

-- by an instruction: a miss sends a message, and one that retires may have put out a byte, which is held
abbrev pub touched_by_step : ℕ → Answer → TouchedParts
touched_by_step n Missed = node_and_net n
touched_by_step n _ = OnlyThese (n ∷ []) [] false true

-- by an eviction: a put sends a message
abbrev pub touched_by_eviction : ℕ → Answer → TouchedParts
touched_by_eviction n PutBegun = node_and_net n
touched_by_eviction n _ = node_alone n

-- by an event that isn't refused, from this state
abbrev pub touched_by : State → Event → Answer → TouchedParts
touched_by s (Step n) answer = touched_by_step n answer
touched_by s (Evict n block) answer = touched_by_eviction n answer
touched_by s (Edge n) answer = node_alone n
touched_by s (Hop id) answer = net_alone
touched_by s (Deliver id) answer = touched_by_delivery (flight_of s.fabric.net.flights id)
touched_by s (Lose id) answer = net_alone
touched_by s (Kill switch) answer = net_alone
touched_by s (Report n) answer = net_alone
touched_by s Validate answer = OnlyThese (numbers_below (length s.fabric.nodes)) [] true true
touched_by s Recover answer = AllParts
touched_by s (Input n byte) answer = node_alone n

-- the parts that an event with this answer may have touched, from this state; one that is refused touches none
abbrev pub parts_touched : State → Event → Answer → TouchedParts
parts_touched s event answer = if is_refusal answer then nothing else touched_by s event answer

-- whether a number is one of these
abbrev pub is_in : ℕ → List ℕ → Bool
is_in n numbers = list_any (λ x. nat_eq x n) numbers

-- every part but these is as it was
pub record AreSameBut (nodes homes : List ℕ) (net controller : Bool) (before after : State) : Type 0 where
  pub count : length after.fabric.nodes ≡ length before.fabric.nodes
  pub nodes_stay : (n : ℕ) → n < length before.fabric.nodes → is_in n nodes ≡ false → node_part after n ≡ node_part before n
  pub homes_stay : (block : ℕ) → is_in block homes ≡ false → home_of after.fabric block ≡ home_of before.fabric block
  pub net_stays : net ≡ false → after.fabric.net ≡ before.fabric.net
  pub controller_stays : controller ≡ false → controller_part after ≡ controller_part before

abbrev pub OthersStay : TouchedParts → State → State → Type 0
OthersStay (OnlyThese nodes homes net controller) before after = AreSameBut nodes homes net controller before after
OthersStay AllParts before after = length after.fabric.nodes ≡ length before.fabric.nodes
