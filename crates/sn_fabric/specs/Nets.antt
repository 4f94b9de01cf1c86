-- The network's code in the machine's words.
use Rattle.std.specs.Prelude.{Bool, true, false, map}
use Rattle.switch_net.specs.declared.flight.Flight.{Flight as Carried}
use Rattle.sn_base.specs.declared.event.Answer.{Answer}
use Rattle.sn_base.specs.declared.event.Answer.TheVariants.{Hopped, LostInDead, Arrived, NoMessage, Lost, Killed, AlreadyDead}
use Rattle.switch_net.specs.declared.answers.HopAnswer.{HopAnswer}
use Rattle.switch_net.specs.declared.answers.HopAnswer.TheVariants as hop
use Rattle.switch_net.specs.Net.{NetData}
use Rattle.sn_model.specs.Fabric.{Net, Flight}

-- a message in flight, with the switch in which it stands
abbrev pub flight_as : Carried → Flight
flight_as f = record { message = f.message; place = f.at }

-- the network of these messages, with the marks that stood when its routes were made
abbrev pub net_as : NetData → Net
net_as n = record { flights = map flight_as n.flights; dead = n.dead; planned = n.routes.dead; next_id = n.next }

-- the answer of a hop
abbrev pub hop_as : HopAnswer → Answer
hop_as hop.Hopped = Hopped
hop_as hop.LostInDead = LostInDead
hop_as hop.Arrived = Arrived
hop_as hop.NoMessage = NoMessage

-- the answer of a loss, by whether the message was there
abbrev pub loss_as : Bool → Answer
loss_as true = Lost
loss_as false = NoMessage

-- the answer of a kill, by whether the switch lived
abbrev pub kill_as : Bool → Answer
kill_as true = Killed
kill_as false = AlreadyDead
