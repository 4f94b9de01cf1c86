-- Which answers refuse an event.
use Rattle.std.specs.Prelude.{Bool, true, false}
use Rattle.sn_base.specs.declared.event.Answer.{Answer}
use Rattle.sn_base.specs.declared.event.Answer.TheVariants.{Retired, Missed, Waits, NeedsEvict, LogFull, NetFull, Ended, Evicted, PutBegun}
use Rattle.sn_base.specs.declared.event.Answer.TheVariants.{NotCached, PutOpen, MissOpen, Edged, CheckpointsFull, Hopped, LostInDead}
use Rattle.sn_base.specs.declared.event.Answer.TheVariants.{Arrived, NotArrived, NoMessage, Delivered, Held, HomeBusy, Lost, Killed}
use Rattle.sn_base.specs.declared.event.Answer.TheVariants.{AlreadyDead, Reported, Validated, NotReady, Recovered, CutOff, Given, NoInput}

abbrev pub is_refusal : Answer → Bool
is_refusal Retired = false
is_refusal Missed = false
is_refusal Waits = true
is_refusal NeedsEvict = true
is_refusal LogFull = true
is_refusal NetFull = true
is_refusal Ended = true
is_refusal Evicted = false
is_refusal PutBegun = false
is_refusal NotCached = true
is_refusal PutOpen = true
is_refusal MissOpen = true
is_refusal (Edged k) = false
is_refusal CheckpointsFull = true
is_refusal Hopped = false
is_refusal LostInDead = false
is_refusal Arrived = true
is_refusal NotArrived = true
is_refusal NoMessage = true
is_refusal Delivered = false
is_refusal Held = true
is_refusal HomeBusy = true
is_refusal Lost = false
is_refusal Killed = false
is_refusal AlreadyDead = true
is_refusal (Reported k) = false
is_refusal (Validated k) = false
is_refusal (NotReady n) = true
is_refusal (Recovered undo) = false
is_refusal (CutOff a b) = true
is_refusal Given = false
is_refusal NoInput = true
