-- What a message comes to at an entry is what the definitions of the machine say of its delivery.
use Rattle.std.proofs.Common.{◌≡◌, refl}
use Rattle.sn_msg.specs.declared.Message.{Message}
use Rattle.sn_msg.specs.declared.Body.{Body}
use Rattle.sn_model.specs.declared.rows.Receiver.{Receiver}
use Rattle.sn_model.specs.declared.rows.Receiver.TheVariants as receiver
use Rattle.sn_model.specs.Receivers.{receiver_of}
use Rattle.sn_model.specs.Fabric.{Fabric, node_at, home_of}
use Rattle.sn_model.specs.NetEvents.{kept_at, outcome_by, outcome_of}
use Rattle.sn_model.specs.HomeRows.{MeetsAtHome, HasRow}
use Rattle.home_directory.specs.Receipt.{outcome_for, outcome_at}

receiver_agrees : (s : Fabric) (m : Message) (x : Receiver) → MeetsAtHome (home_of s m.block) m.from x →
    outcome_for (kept_at s m.to m.block) (node_at s m.to).now m x ≡ outcome_by s m x
receiver_agrees s m (receiver.Home message) r = refl
receiver_agrees s m (receiver.Cache taken) r = absurd r
receiver_agrees s m (receiver.Controller k) r = absurd r
receiver_agrees s m (receiver.Clock k) r = absurd r

pub outcome_agrees : (s : Fabric) (m : Message) (body : Body) → HasRow (home_of s m.block) m.from body →
    outcome_at (kept_at s m.to m.block) (node_at s m.to).now m body ≡ outcome_of s m body
outcome_agrees s m body r = receiver_agrees s m (receiver_of body) r
