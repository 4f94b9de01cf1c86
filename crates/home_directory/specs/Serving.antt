-- What the functions inside a home say of a row: the tests that come before it, and that it was done.
use Rattle.std.specs.Prelude.{◌≡◌, ℕ, ◌+◌, ◌<◌, Bool, true, false, not, ◌&&◌, nat_le, nat_lt, length, Option, Some, None, is_some}
use Rattle.sn_msg.specs.declared.Message.{Message}
use Rattle.log_buffer.specs.Log.{LogData, has_entry}
use Rattle.sn_model.specs.declared.rows.HomeMessage.{HomeMessage}
use Rattle.sn_model.specs.declared.rows.HomeRow.{HomeRow}
use Rattle.sn_model.specs.declared.rows.HomeRow.TheVariants as row
use Rattle.sn_model.specs.Homes.{HomeEntry}
use Rattle.sn_model.specs.HomeRows.{LoggedEntry, HomeReply, count_others, is_request, home_reply}
use Rattle.sn_model.specs.NetEvents.{outcome_at_home}
use Rattle.home_directory.specs.declared.step.HomeStep.{HomeStep}
use Rattle.home_directory.specs.Home.{HomeData, entry_of}
use Rattle.home_directory.specs.Receipt.{Verdict, verdict_on, Sent, entry_as_it_is}

-- the entry of a block, with its node's log
abbrev pub at_block : HomeData → LogData → ℕ → LoggedEntry
at_block home log block = entry_as_it_is (entry_of home block) log.entries

-- what a row leaves of a message's block
abbrev pub reply_of : HomeData → LogData → ℕ → Message → HomeRow → HomeReply
reply_of home log now m taken = home_reply (at_block home log m.block) m.block now m.tag m.from taken

-- whether the row would need more entries than the log may hold
abbrev pub is_over : LogData → HomeReply → Bool
is_over log reply = nat_lt log.limit (length reply.after.log)

-- whether a message waits, since it is a request and a transaction is open
abbrev pub waits : HomeEntry → HomeMessage → Bool
waits entry message = is_request message && is_some entry.transaction

-- the verdict on what comes to the home at an entry, with a log of this limit
abbrev pub verdict_for : ℕ → LoggedEntry → ℕ → Message → HomeMessage → Verdict
verdict_for limit at now m message = verdict_on limit (outcome_at_home at m now message)

-- the log has room for a note of the home's side, if it is a new one
abbrev pub HasLogRoom : LogData → ℕ → ℕ → Type 0
HasLogRoom log interval block = has_entry log.entries interval true block ≡ false → length log.entries < log.limit

-- whether the log lacks the room for a note of the home's side
abbrev pub lacks_room : LogData → Option ℕ → ℕ → Bool
lacks_room log None block = false
lacks_room log (Some interval) block = nat_le log.limit (length log.entries) && not (has_entry log.entries interval true block)

-- how many messages a row sends
abbrev pub count_sends : HomeEntry → ℕ → HomeRow → ℕ
count_sends entry r (row.ReadAtHome content) = 1
count_sends entry r (row.ReadAtOwner owner) = 1
count_sends entry r (row.Take content) = 1 + count_others entry.sharers r
count_sends entry r (row.MoveOwnership owner) = 1 + count_others entry.sharers r
count_sends entry r row.Upgrade = 1 + count_others entry.sharers r
count_sends entry r (row.Unblock fixed) = 0
count_sends entry r row.PutBegins = 1
count_sends entry r row.PutIsStale = 1
count_sends entry r (row.PutData content) = 0
count_sends entry r (row.GrantExclusive content) = 1

-- a row that was done: what is left, and what the step sends
pub record IsRowDone (after : LoggedEntry) (step : HomeStep) (reply : HomeReply) : Type 0 where
  pub left : after ≡ reply.after
  pub sent : Sent step reply.sends
