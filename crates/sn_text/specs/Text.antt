-- The texts that are written. Numbers are decimal; words and addresses have eight lower-case hexadecimal digits.
use Rattle.std.specs.Prelude.{ℕ, ◌+◌, ◌/◌, ◌%◌, Bool, nat_eq, nat_lt, if◌then◌else◌, List, [], ◌∷◌, ◌++◌, drop, codes, decimal, Option}
use Rattle.std.specs.Prelude.{Some, None, ⊤}
use Rattle.text_lines.specs.Hex.{hex_byte, hex_word}
use Rattle.sn_base.specs.declared.event.Event.{Event}
use Rattle.sn_base.specs.declared.event.Event.TheVariants.{Step, Evict, Edge, Hop, Deliver, Lose, Kill, Report, Validate, Recover, Input}
use Rattle.sn_base.specs.declared.event.Answer.{Answer}
use Rattle.sn_base.specs.declared.event.Answer.TheVariants.{Retired, Missed, Waits, NeedsEvict, LogFull, NetFull, Ended, Evicted, PutBegun}
use Rattle.sn_base.specs.declared.event.Answer.TheVariants.{NotCached, PutOpen, MissOpen, Edged, CheckpointsFull, Hopped, LostInDead}
use Rattle.sn_base.specs.declared.event.Answer.TheVariants.{Arrived, NotArrived, NoMessage, Delivered, Held, HomeBusy, Lost, Killed}
use Rattle.sn_base.specs.declared.event.Answer.TheVariants.{AlreadyDead, Reported, Validated, NotReady, Recovered, CutOff, Given, NoInput}
use Rattle.rv_core.specs.declared.step.Record.{Record}
use Rattle.rv_core.specs.declared.state.CoreState.{CoreState}
use Rattle.rv_core.specs.declared.state.End.{End}
use Rattle.rv_core.specs.declared.state.End.TheVariants.{Running, Exited, Trapped}
use Rattle.rv_core.specs.declared.state.Cause.{Cause}
use Rattle.rv_core.specs.declared.state.Cause.TheVariants.{Illegal, FetchFault, MisalignedTarget, MisalignedAccess, AccessFault}
use Rattle.rv_core.specs.declared.state.Cause.TheVariants.{UnknownCall, Break}
use Rattle.sn_msg.specs.declared.Message.{Message}
use Rattle.sn_msg.specs.declared.Body.{Body}
use Rattle.sn_msg.specs.declared.Body.TheVariants.{GetS, GetM, FwdGetS, FwdGetM, Inv, DataS, DataM, DataE, UpgOk, InvAck, Unblock, PutReq}
use Rattle.sn_msg.specs.declared.Body.TheVariants.{PutGo, PutData, PutDone, Ready, Advance}
use Rattle.sn_model.specs.declared.net.Sent.{Sent}

-- a name and a number after a blank
abbrev pub named_number : List ℕ → ℕ → List ℕ
named_number name number = name ++ codes " " ++ decimal number

-- a switch: `a` or `b` and its node
abbrev pub switch_text : ℕ → List ℕ
switch_text switch = (if nat_eq (switch % 2) 0 then codes "a" else codes "b") ++ decimal (switch / 2)

-- an event, as a script has it
abbrev pub event_text : Event → List ℕ
event_text (Step node) = named_number (codes "step") node
event_text (Evict node block) = named_number (codes "evict") node ++ codes " " ++ decimal block
event_text (Edge node) = named_number (codes "edge") node
event_text (Hop id) = named_number (codes "hop") id
event_text (Deliver id) = named_number (codes "deliver") id
event_text (Lose id) = named_number (codes "lose") id
event_text (Kill switch) = codes "kill " ++ switch_text switch
event_text (Report node) = named_number (codes "report") node
event_text Validate = codes "validate"
event_text Recover = codes "recover"
event_text (Input node byte) = named_number (codes "input") node ++ codes " " ++ hex_byte byte

-- an event as a line of a script
unfoldable pub script_line : Event → List ℕ
script_line event = event_text event ++ codes "\n"

abbrev pub answer_text : Answer → List ℕ
answer_text Retired = codes "retired"
answer_text Missed = codes "missed"
answer_text Waits = codes "waits"
answer_text NeedsEvict = codes "needsevict"
answer_text LogFull = codes "logfull"
answer_text NetFull = codes "netfull"
answer_text Ended = codes "ended"
answer_text Evicted = codes "evicted"
answer_text PutBegun = codes "putbegun"
answer_text NotCached = codes "notcached"
answer_text PutOpen = codes "putopen"
answer_text MissOpen = codes "missopen"
answer_text (Edged interval) = named_number (codes "edged") interval
answer_text CheckpointsFull = codes "checkpointsfull"
answer_text Hopped = codes "hopped"
answer_text LostInDead = codes "lostindead"
answer_text Arrived = codes "arrived"
answer_text NotArrived = codes "notarrived"
answer_text NoMessage = codes "nomessage"
answer_text Delivered = codes "delivered"
answer_text Held = codes "held"
answer_text HomeBusy = codes "homebusy"
answer_text Lost = codes "lost"
answer_text Killed = codes "killed"
answer_text AlreadyDead = codes "alreadydead"
answer_text (Reported interval) = named_number (codes "reported") interval
answer_text (Validated interval) = named_number (codes "validated") interval
answer_text (NotReady node) = named_number (codes "notready") node
answer_text (Recovered undo) = named_number (codes "recovered") undo.to ++ named_number (codes " undone") undo.undone ++ named_number (codes " dropped") undo.dropped
answer_text (CutOff a b) = named_number (codes "cutoff") a ++ codes " " ++ decimal b
answer_text Given = codes "given"
answer_text NoInput = codes "noinput"

-- numbers stand behind the answer's name
abbrev pub IsNumbered : Answer → Type 0
IsNumbered (Edged interval) = ⊤
IsNumbered (Reported interval) = ⊤
IsNumbered (Validated interval) = ⊤
IsNumbered (NotReady node) = ⊤
IsNumbered (Recovered undo) = ⊤
IsNumbered (CutOff a b) = ⊤
IsNumbered _ = ⊥

-- `PLACE EVENT: ANSWER`
unfoldable pub event_line : ℕ → Event → Answer → List ℕ
event_line place event answer = decimal place ++ codes " " ++ event_text event ++ codes ": " ++ answer_text answer ++ codes "\n"

abbrev pub body_name : Body → List ℕ
body_name GetS = codes "gets"
body_name GetM = codes "getm"
body_name (FwdGetS requester) = codes "fwdgets"
body_name (FwdGetM requester acks) = codes "fwdgetm"
body_name (Inv requester) = codes "inv"
body_name (DataS content) = codes "datas"
body_name (DataM content acks) = codes "datam"
body_name (DataE content) = codes "datae"
body_name (UpgOk acks) = codes "upgok"
body_name InvAck = codes "invack"
body_name (Unblock fixed) = codes "unblock"
body_name PutReq = codes "putreq"
body_name PutGo = codes "putgo"
body_name (PutData content) = codes "putdata"
body_name PutDone = codes "putdone"
body_name (Ready checkpoint) = codes "ready"
body_name (Advance point) = codes "advance"

-- what stands in the block's place
abbrev pub body_place : Body → ℕ → ℕ
body_place (Ready checkpoint) block = checkpoint
body_place (Advance point) block = point
body_place _ block = block

-- the fields of a body, each with its name
abbrev pub body_fields : Body → List ℕ
body_fields (FwdGetS requester) = named_number (codes " req") requester
body_fields (FwdGetM requester acks) = named_number (codes " req") requester ++ named_number (codes " acks") acks
body_fields (Inv requester) = named_number (codes " req") requester
body_fields (DataM content acks) = named_number (codes " acks") acks
body_fields (UpgOk acks) = named_number (codes " acks") acks
body_fields (Unblock fixed) = named_number (codes " fixed") fixed
body_fields _ = []

-- `msg ID KIND`
abbrev pub message_head : Message → List ℕ
message_head m = named_number (codes "  msg") m.id ++ codes " " ++ body_name m.body

-- ` FROM TO TAG BLOCK`
abbrev pub message_route : Message → List ℕ
message_route m = named_number [] m.from ++ named_number [] m.to ++ named_number [] m.tag ++ named_number [] (body_place m.body m.block)

abbrev pub lost_mark : Bool → List ℕ
lost_mark lost = if lost then codes " lost" else []

-- `msg ID KIND FROM TO TAG BLOCK`, the fields, and ` lost` where it was lost at once
unfoldable pub sent_line : Sent → List ℕ
sent_line sent =
    message_head sent.message ++ message_route sent.message ++ body_fields sent.message.body ++ lost_mark sent.lost ++ codes "\n"

unfoldable pub sent_lines : List Sent → List ℕ
sent_lines [] = []
sent_lines (sent ∷ more) = sent_line sent ++ sent_lines more

abbrev pub cause_text : Cause → List ℕ
cause_text Illegal = codes "illegal"
cause_text FetchFault = codes "fetch"
cause_text MisalignedTarget = codes "target"
cause_text MisalignedAccess = codes "misaligned"
cause_text AccessFault = codes "access"
cause_text UnknownCall = codes "call"
cause_text Break = codes "break"

abbrev pub end_text : End → List ℕ
end_text Running = codes "running"
end_text (Exited code) = named_number (codes "exited") code
end_text (Trapped cause) = codes "trapped " ++ cause_text cause

-- ` xR=WORD`
abbrev pub register_text : ℕ → ℕ → List ℕ
register_text number value = codes " x" ++ decimal number ++ codes "=" ++ hex_word value

-- the registers from this number on that aren't 0
abbrev pub registers_text : ℕ → List ℕ → List ℕ
registers_text number [] = []
registers_text number (value ∷ values) = (if nat_eq value 0 then [] else register_text number value) ++ registers_text (number + 1) values

-- `core N PC`
abbrev pub core_head : List ℕ → ℕ → ℕ → List ℕ
core_head before node pc = before ++ named_number (codes "core") node ++ codes " " ++ hex_word pc

-- `core N PC END` and the registers that aren't 0, after x0, which reads 0
unfoldable pub core_line : List ℕ → ℕ → CoreState → List ℕ
core_line before node core =
    core_head before node core.pc ++ codes " " ++ end_text core.end ++ registers_text 1 (drop 1 core.x) ++ codes "\n"

-- `NAME NUMBER`
unfoldable pub count_line : List ℕ → List ℕ → ℕ → List ℕ
count_line before name number = before ++ named_number name number ++ codes "\n"

-- `watch ADDRESS WORD`
unfoldable pub watch_line : List ℕ → ℕ → ℕ → List ℕ
watch_line before address word = before ++ codes "watch " ++ hex_word address ++ codes " " ++ hex_word word ++ codes "\n"

-- `probe P PLACE VALUE`
unfoldable pub probe_line : List ℕ → ℕ → ℕ → ℕ → List ℕ
probe_line before probe place value =
    before ++ named_number (codes "probe") probe ++ named_number [] place ++ named_number [] value ++ codes "\n"

-- `1` where a store-conditional was done
abbrev pub flag_text : Bool → List ℕ
flag_text sc_done = if sc_done then codes "1" else codes "0"

-- ` BB` where a byte was read
abbrev pub read_text : Option ℕ → List ℕ
read_text None = []
read_text (Some byte) = codes " " ++ hex_byte byte

-- `CORE SEEN F` or `CORE SEEN F BB`
abbrev pub record_text : Record → List ℕ
record_text taken = decimal taken.core ++ codes " " ++ hex_word taken.seen ++ codes " " ++ flag_text taken.sc_done ++ read_text taken.read

-- a record as a line of a trace
unfoldable pub trace_line : Record → List ℕ
trace_line taken = record_text taken ++ codes "\n"
