-- A recovery node by node as a value, and what each of its calls makes of it.
use Rattle.std.specs.Prelude.{ℕ, Bool, true, false, not, if◌then◌else◌, List, [], ◌∷◌, take, replicate, slice_set}
use Rattle.std.specs.Prelude.{position, Option, Some, None, Result, Ok, Err}
use Rattle.sn_base.specs.Nodes.{has_node}
use Rattle.sn_base.specs.declared.event.Event.TheVariants.{Recover}
use Rattle.sn_base.specs.declared.event.Answer.{Answer}
use Rattle.sn_base.specs.declared.event.Answer.TheVariants as answer
use Rattle.rv_core.specs.declared.state.CoreState.{CoreState}
use Rattle.sn_machine.specs.Machine.{MachineData, next_of}
use Rattle.rolling_recovery.specs.declared.answers.ControlDelivery.{ControlDelivery}
use Rattle.rolling_recovery.specs.declared.answers.ControlDelivery.TheVariants as told
use Rattle.rolling_recovery.specs.declared.answers.RepeatFault.{RepeatFault}
use Rattle.rolling_recovery.specs.declared.answers.RepeatFault.TheVariants.{NoMessage, Full}
use Rattle.rolling_recovery.specs.declared.answers.FinishFault.{FinishFault}
use Rattle.rolling_recovery.specs.declared.answers.FinishFault.TheVariants.{NotDone, CutOff}
use Rattle.rolling_recovery.specs.declared.controls.Control.{Control}
use Rattle.rolling_recovery.specs.declared.controls.Control.TheVariants as control
use Rattle.rolling_recovery.specs.declared.messages.ControlMessage.{ControlMessage}
use Rattle.rolling_recovery.specs.declared.messages.ControlMessage.TheVariants.{Order, Done}
use Rattle.rolling_recovery.specs.Messages.{MessagesData, message_in, without, messages_with, is_full}
use Rattle.rolling_recovery.specs.Parts.{part_core, part_block, part_size}

-- the machine that was handed in, the control messages, and a mark for each node that has its part and for each that is noted
pub record RollingData : Type 0 where
  pub machine : MachineData
  pub messages : MessagesData
  pub restored : List Bool
  pub noted : List Bool

abbrev pub no_nodes : List Bool
no_nodes = replicate 16 false

abbrev pub rolling_start : MachineData → RollingData
rolling_start m = record { machine = m; messages = record { flights = []; next = 1 }; restored = no_nodes; noted = no_nodes }

abbrev pub has_part : RollingData → ℕ → Bool
has_part r n = has_node r.restored n

abbrev pub is_noted : RollingData → ℕ → Bool
is_noted r n = has_node r.noted n

-- what a node has of its part: all of it, or nothing
abbrev pub core_in_part : RollingData → ℕ → Option CoreState
core_in_part r n = if has_part r n then Some (part_core r.machine n) else None

abbrev pub block_in_part : RollingData → ℕ → ℕ → Option (List ℕ)
block_in_part r n block = if has_part r n then part_block r.machine n block else None

-- the message of a number, and the recovery without it
abbrev pub message_of : RollingData → ℕ → Option ControlMessage
message_of r id = message_in r.messages.flights id

abbrev pub losing : RollingData → ℕ → RollingData
losing r id = record r { messages = record r.messages { flights = without r.messages.flights id } }

abbrev pub sending : RollingData → ControlMessage → RollingData
sending r message = record r { messages = messages_with r.messages message }

-- lose id
abbrev pub lost_by : RollingData → ℕ → Option ControlMessage → RollingData
lost_by r id None = r
lost_by r id (Some message) = losing r id

abbrev pub rolling_after_loss : RollingData → ℕ → RollingData
rolling_after_loss r id = lost_by r id (message_of r id)

-- order n
abbrev pub rolling_after_order : RollingData → ℕ → RollingData
rolling_after_order r n = if is_full r.messages then r else sending r (Order n)

-- repeat id: a copy is sent under the next number
abbrev pub repeat_answer : RollingData → Option ControlMessage → Result ℕ RepeatFault
repeat_answer r None = Err NoMessage
repeat_answer r (Some message) = if is_full r.messages then Err Full else Ok r.messages.next

abbrev pub repeated_by : RollingData → Option ControlMessage → RollingData
repeated_by r None = r
repeated_by r (Some message) = if is_full r.messages then r else sending r message

abbrev pub rolling_after_repeat : RollingData → ℕ → RollingData
rolling_after_repeat r id = repeated_by r (message_of r id)

-- deliver id: a node that gets an order makes its part, where it has none, and says that it is done; one that is done is noted
abbrev pub deliver_answer : RollingData → Option ControlMessage → ControlDelivery
deliver_answer r None = told.NoMessage
deliver_answer r (Some (Order n)) = if has_part r n then told.Again else told.Restored (part_size r.machine n)
deliver_answer r (Some (Done n)) = told.Noted

abbrev pub restoring : RollingData → ℕ → RollingData
restoring r n = record r { restored = slice_set r.restored n true }

abbrev pub noting : RollingData → ℕ → RollingData
noting r n = record r { noted = slice_set r.noted n true }

abbrev pub delivered_by : RollingData → ℕ → Option ControlMessage → RollingData
delivered_by r id None = r
delivered_by r id (Some (Order n)) = sending (restoring (losing r id) n) (Done n)
delivered_by r id (Some (Done n)) = noting (losing r id) n

abbrev pub rolling_after_delivery : RollingData → ℕ → RollingData
rolling_after_delivery r id = delivered_by r id (message_of r id)

-- finish: the least node that isn't noted, or else two nodes that are cut off, are in its way
abbrev pub first_not_noted : RollingData → Option ℕ
first_not_noted r = position not (take r.machine.config.nodes r.noted)

abbrev pub cut_off_by : Answer → Option FinishFault
cut_off_by (answer.CutOff a b) = Some (CutOff a b)
cut_off_by _ = None

abbrev pub fault_by : Option ℕ → Answer → Option FinishFault
fault_by (Some n) answer = Some (NotDone n)
fault_by None answer = cut_off_by answer

abbrev pub finish_fault : RollingData → Option FinishFault
finish_fault r = fault_by (first_not_noted r) (next_of r.machine Recover).answer

-- the recovery after a call, and after some of them; one that a fault keeps from its finish is as it was
abbrev pub after_control : RollingData → Control → RollingData
after_control r (control.Order n) = rolling_after_order r n
after_control r (control.Repeat id) = rolling_after_repeat r id
after_control r (control.Lose id) = rolling_after_loss r id
after_control r (control.Deliver id) = rolling_after_delivery r id
after_control r control.Finish = r

abbrev pub after_controls : RollingData → List Control → RollingData
after_controls r [] = r
after_controls r (call ∷ calls) = after_controls (after_control r call) calls
