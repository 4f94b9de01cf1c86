-- The places of what is counted by name: answers, and messages by their kinds. Names are those of a report.
use Rattle.std.specs.Prelude.{ℕ}
use Rattle.sn_base.specs.declared.event.Answer.{Answer}
use Rattle.sn_base.specs.declared.event.Answer.TheVariants.{Retired, Missed, Waits, NeedsEvict, LogFull, NetFull, Ended, Evicted, PutBegun}
use Rattle.sn_base.specs.declared.event.Answer.TheVariants.{NotCached, PutOpen, MissOpen, Edged, CheckpointsFull, Hopped, LostInDead}
use Rattle.sn_base.specs.declared.event.Answer.TheVariants.{Arrived, NotArrived, NoMessage, Delivered, Held, HomeBusy, Lost, Killed}
use Rattle.sn_base.specs.declared.event.Answer.TheVariants.{AlreadyDead, Reported, Validated, NotReady, Recovered, CutOff, Given, NoInput}
use Rattle.sn_msg.specs.declared.Body.{Body}
use Rattle.sn_msg.specs.declared.Body.TheVariants.{GetS, GetM, FwdGetS, FwdGetM, Inv, DataS, DataM, DataE, UpgOk, InvAck, Unblock, PutReq}
use Rattle.sn_msg.specs.declared.Body.TheVariants.{PutGo, PutData, PutDone, Ready, Advance}

-- the 14 answers of what was done, and then the 18 that refuse
abbrev pub place_of_answer : Answer → ℕ
place_of_answer Retired = 0
place_of_answer Missed = 1
place_of_answer Evicted = 2
place_of_answer PutBegun = 3
place_of_answer (Edged k) = 4
place_of_answer Hopped = 5
place_of_answer LostInDead = 6
place_of_answer Delivered = 7
place_of_answer Lost = 8
place_of_answer Killed = 9
place_of_answer (Reported k) = 10
place_of_answer (Validated k) = 11
place_of_answer (Recovered undo) = 12
place_of_answer Given = 13
place_of_answer Waits = 14
place_of_answer NeedsEvict = 15
place_of_answer LogFull = 16
place_of_answer NetFull = 17
place_of_answer Ended = 18
place_of_answer NotCached = 19
place_of_answer PutOpen = 20
place_of_answer MissOpen = 21
place_of_answer CheckpointsFull = 22
place_of_answer Arrived = 23
place_of_answer NotArrived = 24
place_of_answer NoMessage = 25
place_of_answer Held = 26
place_of_answer HomeBusy = 27
place_of_answer AlreadyDead = 28
place_of_answer (NotReady n) = 29
place_of_answer (CutOff a b) = 30
place_of_answer NoInput = 31

-- the kinds of messages, in the order of their table
abbrev pub place_of_kind : Body → ℕ
place_of_kind GetS = 0
place_of_kind GetM = 1
place_of_kind (FwdGetS requester) = 2
place_of_kind (FwdGetM requester acks) = 3
place_of_kind (Inv requester) = 4
place_of_kind (DataS content) = 5
place_of_kind (DataM content acks) = 6
place_of_kind (DataE content) = 7
place_of_kind (UpgOk acks) = 8
place_of_kind InvAck = 9
place_of_kind (Unblock fixed) = 10
place_of_kind PutReq = 11
place_of_kind PutGo = 12
place_of_kind (PutData content) = 13
place_of_kind PutDone = 14
place_of_kind (Ready checkpoint) = 15
place_of_kind (Advance point) = 16
