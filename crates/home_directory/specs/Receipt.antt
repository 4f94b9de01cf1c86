-- What a home makes of a message: the row that it takes, or a refusal that changes nothing.
use Rattle.std.specs.Prelude.{◌≡◌, ℕ, Bool, true, nat_lt, if◌then◌else◌, List, ◌∷◌, length, Option, Some, None}
use Rattle.sn_base.specs.declared.log.LogEntry.{LogEntry}
use Rattle.sn_msg.specs.declared.Message.{Message}
use Rattle.sn_msg.specs.declared.Body.{Body}
use Rattle.log_buffer.specs.Log.{LogData}
use Rattle.sn_model.specs.declared.cache.Out.{Out}
use Rattle.sn_model.specs.declared.look.Look.{Look}
use Rattle.sn_model.specs.declared.look.Look.TheVariants.{Sends, HomeBusy as LooksBusy, LogFull as LooksFull}
use Rattle.sn_model.specs.declared.rows.Receiver.{Receiver}
use Rattle.sn_model.specs.declared.rows.Receiver.TheVariants as receiver
use Rattle.sn_model.specs.Homes.{HomeEntry}
use Rattle.sn_model.specs.HomeRows.{LoggedEntry, HomeReply, invalidations, HasRow, noting}
use Rattle.sn_model.specs.Receivers.{receiver_of, IsNoteInOrder}
use Rattle.sn_model.specs.NetEvents.{Outcome, Busy, AtHome, outcome_at_home}
use Rattle.home_directory.specs.Home.{HomeData, entry_of, with_entry}
use Rattle.home_directory.specs.declared.step.HomeStep.{HomeStep}
use Rattle.home_directory.specs.declared.step.HomeStep.TheVariants.{Took, HomeBusy, LogFull}

abbrev pub entry_as_it_is : HomeEntry → List LogEntry → LoggedEntry
entry_as_it_is entry log = record { entry = entry; log = log }

-- what a message comes to: the rows of the definitions, at this entry and log. What doesn't come to a home does nothing
abbrev pub outcome_for : LoggedEntry → ℕ → Message → Receiver → Outcome
outcome_for at now m (receiver.Cache taken) = Busy
outcome_for at now m (receiver.Home message) = outcome_at_home at m now message
outcome_for at now m (receiver.Controller k) = Busy
outcome_for at now m (receiver.Clock k) = Busy

abbrev pub outcome_at : LoggedEntry → ℕ → Message → Body → Outcome
outcome_at at now m body = outcome_for at now m (receiver_of body)

-- a row that is done; a request that waits; a row for whose note the log has no room
pub data Verdict : Type 0 where
  Does : (reply : HomeReply) → Verdict
  IsBusy : Verdict
  LacksRoom : Verdict

abbrev pub within : ℕ → HomeReply → Verdict
within limit reply = if nat_lt limit (length reply.after.log) then LacksRoom else Does reply

abbrev pub verdict_on : ℕ → Outcome → Verdict
verdict_on limit (AtHome reply) = within limit reply
verdict_on limit _ = IsBusy

-- the verdict on a message at an entry, with a log of this limit
abbrev pub verdict_of : ℕ → LoggedEntry → ℕ → Message → Verdict
verdict_of limit at now m = verdict_on limit (outcome_at at now m m.body)

-- what is left after it
abbrev pub left_by : LoggedEntry → Verdict → LoggedEntry
left_by before (Does reply) = reply.after
left_by before _ = before

-- a first message, if any, and an Inv that names r to each of a set of nodes, in order
abbrev pub sends_of : Option Out → List Bool → ℕ → List Out
sends_of None invalidated r = invalidations 0 invalidated r
sends_of (Some out) invalidated r = out ∷ invalidations 0 invalidated r

-- a step that was taken, and that sends just these messages
abbrev pub Sent : HomeStep → List Out → Type 0
Sent (Took out invalidated r) sends = sends_of out invalidated r ≡ sends
Sent _ sends = ⊥

-- a step that says what the verdict is
abbrev pub Tells : HomeStep → Verdict → Type 0
Tells step (Does reply) = Sent step reply.sends
Tells step IsBusy = step ≡ HomeBusy
Tells step LacksRoom = step ≡ LogFull

-- what a look says of it
abbrev pub look_of : Verdict → Look
look_of (Does reply) = Sends (length reply.sends)
look_of IsBusy = LooksBusy
look_of LacksRoom = LooksFull

-- at a home

-- the message has a row at the entry of its block
abbrev pub HasRowAt : HomeData → Message → Type 0
HasRowAt home m = HasRow (entry_of home m.block) m.from m.body

-- what its row notes isn't older than the log
abbrev pub NotesInOrder : HomeData → LogData → ℕ → Message → Type 0
NotesInOrder home log now m = IsNoteInOrder log.entries true m.block (noting (entry_of home m.block) now m m.body)

abbrev pub verdict_at : HomeData → LogData → ℕ → Message → Verdict
verdict_at home log now m = verdict_of log.limit (entry_as_it_is (entry_of home m.block) log.entries) now m

abbrev pub left_at : HomeData → LogData → ℕ → Message → LoggedEntry
left_at home log now m = left_by (entry_as_it_is (entry_of home m.block) log.entries) (verdict_at home log now m)

-- what the message comes to: the verdict, and the home and the log that it leaves
pub record Receipt : Type 0 where
  pub verdict : Verdict
  pub home : HomeData
  pub log : LogData

abbrev pub receipt_of : HomeData → LogData → ℕ → Message → Receipt
receipt_of home log now m = record {
  verdict = verdict_at home log now m;
  home = with_entry home m.block (left_at home log now m).entry;
  log = record log { entries = (left_at home log now m).log };
}
