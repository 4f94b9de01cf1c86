-- What each control leaves of a stage.
use Rattle.std.proofs.Common.{◌≡◌, ℕ, ◌+◌, ◌≤◌, Bool, true, false, cond, Option, Some, None, refl, ap, arith}
use Rattle.sn_machine.specs.Machine.{MachineData}
use Rattle.rolling_recovery.specs.declared.answers.FinishFault.{FinishFault}
use Rattle.rolling_recovery.specs.declared.controls.Control.{Control}
use Rattle.rolling_recovery.specs.declared.controls.Control.TheVariants.{Order, Repeat, Lose, Deliver, Finish}
use Rattle.rolling_recovery.specs.declared.messages.ControlMessage.{ControlMessage}
use Rattle.rolling_recovery.specs.declared.messages.ControlMessage.TheVariants as message
use Rattle.rolling_recovery.specs.Messages.{is_full}
use Rattle.rolling_recovery.specs.Rolling.{RollingData, message_of, lost_by, sending, repeated_by, delivered_by, finish_fault, after_control}
use Rattle.rolling_recovery.proofs.Calls.{call-machine}
use Rattle.rolled_replay.specs.declared.stage.Stage.{Stage}
use Rattle.rolled_replay.specs.declared.stage.Stage.TheVariants.{UnderWay, Recovered}
use Rattle.rolled_replay.specs.Stages.{IsNumbered, finished_by, machine_of, next_stage}

-- a call takes one number at most

cond-next : (b : Bool) (r : RollingData) (m : ControlMessage) → (cond b r (sending r m)).messages.next ≤ r.messages.next + 1
cond-next true r m = omega arith
cond-next false r m = omega arith

lost-next : (r : RollingData) (id : ℕ) (o : Option ControlMessage) → (lost_by r id o).messages.next ≤ r.messages.next + 1
lost-next r id None = omega arith
lost-next r id (Some m) = omega arith

repeated-next : (r : RollingData) (o : Option ControlMessage) → (repeated_by r o).messages.next ≤ r.messages.next + 1
repeated-next r None = omega arith
repeated-next r (Some m) = cond-next (is_full r.messages) r m

delivered-next : (r : RollingData) (id : ℕ) (o : Option ControlMessage) → (delivered_by r id o).messages.next ≤ r.messages.next + 1
delivered-next r id None = omega arith
delivered-next r id (Some (message.Order n)) = omega arith
delivered-next r id (Some (message.Done n)) = omega arith

call-next : (r : RollingData) (call : Control) → (after_control r call).messages.next ≤ r.messages.next + 1
call-next r (Order n) = cond-next (is_full r.messages) r (message.Order n)
call-next r (Repeat id) = repeated-next r (message_of r id)
call-next r (Lose id) = lost-next r id (message_of r id)
call-next r (Deliver id) = delivered-next r id (message_of r id)
call-next r Finish = omega arith

finished-numbered : (r : RollingData) (o : Option FinishFault) (most : ℕ) → r.messages.next ≤ most → IsNumbered (finished_by r o) (most + 1)
finished-numbered r None most l = tt
finished-numbered r (Some fault) most l = omega (arith, l)

numbered-on : (r : RollingData) (call : Control) (most : ℕ) → r.messages.next ≤ most → (after_control r call).messages.next ≤ most + 1
numbered-on r call most l = let h = call-next r call in omega (arith, h, l)

pub stage-numbered : (stage : Stage) (call : Control) (most : ℕ) → IsNumbered stage most → IsNumbered (next_stage stage call) (most + 1)
stage-numbered (Recovered m) call most h = tt
stage-numbered (UnderWay r) (Order n) most h = numbered-on r (Order n) most h
stage-numbered (UnderWay r) (Repeat id) most h = numbered-on r (Repeat id) most h
stage-numbered (UnderWay r) (Lose id) most h = numbered-on r (Lose id) most h
stage-numbered (UnderWay r) (Deliver id) most h = numbered-on r (Deliver id) most h
stage-numbered (UnderWay r) Finish most h = finished-numbered r (finish_fault r) most h

-- and the machine keeps its sizes

finished-sizes : (r : RollingData) (o : Option FinishFault) → (machine_of (finished_by r o)).config ≡ r.machine.config
finished-sizes r None = refl
finished-sizes r (Some fault) = refl

pub stage-sizes : (stage : Stage) (call : Control) → (machine_of (next_stage stage call)).config ≡ (machine_of stage).config
stage-sizes (Recovered m) call = refl
stage-sizes (UnderWay r) (Order n) = ap (λ (m : MachineData). m.config) (call-machine r (Order n))
stage-sizes (UnderWay r) (Repeat id) = ap (λ (m : MachineData). m.config) (call-machine r (Repeat id))
stage-sizes (UnderWay r) (Lose id) = ap (λ (m : MachineData). m.config) (call-machine r (Lose id))
stage-sizes (UnderWay r) (Deliver id) = ap (λ (m : MachineData). m.config) (call-machine r (Deliver id))
stage-sizes (UnderWay r) Finish = finished-sizes r (finish_fault r)
