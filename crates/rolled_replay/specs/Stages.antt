-- A recovery as controls lead it: what each is answered, and what it leaves.
use Rattle.std.specs.Prelude.{ℕ, ◌≤◌, Bool, true, false, if◌then◌else◌, List, [], ◌∷◌, Option, Some, None, is_some, Result, Ok, Err, ⊤}
use Rattle.sn_base.specs.declared.event.Event.TheVariants.{Recover}
use Rattle.sn_base.specs.declared.event.Answer.{Answer}
use Rattle.sn_base.specs.declared.event.Answer.TheVariants as answer
use Rattle.sn_machine.specs.Machine.{MachineData, next_of}
use Rattle.script_replay.specs.Played.{after_event}
use Rattle.rolling_recovery.specs.declared.answers.FinishFault.{FinishFault}
use Rattle.rolling_recovery.specs.declared.answers.FinishFault.TheVariants as fault
use Rattle.rolling_recovery.specs.declared.answers.RepeatFault.{RepeatFault}
use Rattle.rolling_recovery.specs.declared.answers.RepeatFault.TheVariants as refused
use Rattle.rolling_recovery.specs.declared.answers.ControlDelivery.{ControlDelivery}
use Rattle.rolling_recovery.specs.declared.answers.ControlDelivery.TheVariants as told
use Rattle.rolling_recovery.specs.declared.controls.Control.{Control}
use Rattle.rolling_recovery.specs.declared.controls.Control.TheVariants.{Order, Repeat, Lose, Deliver, Finish}
use Rattle.rolling_recovery.specs.Messages.{is_full}
use Rattle.rolling_recovery.specs.Rolling.{RollingData, message_of, repeat_answer, deliver_answer, finish_fault, after_control}
use Rattle.rolled_replay.specs.declared.reply.Reply.{Reply}
use Rattle.rolled_replay.specs.declared.reply.Reply.TheVariants as reply
use Rattle.rolled_replay.specs.declared.stage.Stage.{Stage}
use Rattle.rolled_replay.specs.declared.stage.Stage.TheVariants.{UnderWay, Recovered}

-- the answers of the recovery's calls as replies

abbrev pub repeat_reply : Result ℕ RepeatFault → Reply
repeat_reply (Ok id) = reply.Repeated id
repeat_reply (Err refused.NoMessage) = reply.NoMessage
repeat_reply (Err refused.Full) = reply.Full

abbrev pub deliver_reply : ControlDelivery → Reply
deliver_reply told.NoMessage = reply.NoMessage
deliver_reply (told.Restored count) = reply.Restored count
deliver_reply told.Again = reply.Again
deliver_reply told.Noted = reply.Noted

abbrev pub recovered_reply : Answer → Reply
recovered_reply (answer.Recovered undo) = reply.Finished undo
recovered_reply _ = reply.Over

abbrev pub finish_reply : Option FinishFault → Answer → Reply
finish_reply (Some (fault.NotDone node)) said = reply.NotDone node
finish_reply (Some (fault.CutOff a b)) said = reply.CutOff a b
finish_reply None said = recovered_reply said

abbrev pub is_finish : Control → Bool
is_finish Finish = true
is_finish _ = false

-- what a recovery under way answers
abbrev pub led_reply : RollingData → Control → Reply
led_reply r (Order node) = if is_full r.messages then reply.Full else reply.Ordered r.messages.next
led_reply r (Repeat id) = repeat_reply (repeat_answer r (message_of r id))
led_reply r (Lose id) = if is_some (message_of r id) then reply.Lost else reply.NoMessage
led_reply r (Deliver id) = deliver_reply (deliver_answer r (message_of r id))
led_reply r Finish = finish_reply (finish_fault r) (next_of r.machine Recover).answer

-- and after the finish
abbrev pub reply_to : Stage → Control → Reply
reply_to (UnderWay r) call = led_reply r call
reply_to (Recovered m) call = reply.Over

-- the machine that a finish leaves, where nothing was in its way
abbrev pub finished_by : RollingData → Option FinishFault → Stage
finished_by r (Some fault) = UnderWay r
finished_by r None = Recovered (after_event r.machine Recover)

abbrev pub led_stage : RollingData → Control → Stage
led_stage r Finish = finished_by r (finish_fault r)
led_stage r call = UnderWay (after_control r call)

abbrev pub next_stage : Stage → Control → Stage
next_stage (UnderWay r) call = led_stage r call
next_stage (Recovered m) call = Recovered m

abbrev pub stage_after : Stage → List Control → Stage
stage_after stage [] = stage
stage_after stage (call ∷ calls) = stage_after (next_stage stage call) calls

-- the machine that the recovery holds, or that has recovered
abbrev pub machine_of : Stage → MachineData
machine_of (UnderWay r) = r.machine
machine_of (Recovered m) = m

-- the next control message has at most this number
abbrev pub IsNumbered : Stage → ℕ → Type 0
IsNumbered (UnderWay r) most = r.messages.next ≤ most
IsNumbered (Recovered m) most = ⊤
