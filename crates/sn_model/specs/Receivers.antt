-- Who takes a message, and what both controllers ask of a note.
use Rattle.std.specs.Prelude.{ℕ, ◌+◌, ◌≤◌, Bool, true, false, List, Option, IfSome}
use Rattle.sn_base.specs.declared.log.LogEntry.{LogEntry}
use Rattle.sn_msg.specs.declared.Body.{Body}
use Rattle.sn_msg.specs.declared.Body.TheVariants.{GetS, GetM, FwdGetS, FwdGetM, Inv, DataS, DataM, DataE, UpgOk, InvAck, Unblock, PutReq}
use Rattle.sn_msg.specs.declared.Body.TheVariants.{PutGo, PutData, PutDone, Ready, Advance}
use Rattle.sn_model.specs.declared.rows.CacheRow.TheVariants as row
use Rattle.sn_model.specs.declared.rows.HomeMessage.TheVariants as asked
use Rattle.sn_model.specs.declared.rows.Receiver.{Receiver}
use Rattle.sn_model.specs.declared.rows.Receiver.TheVariants as receiver
use Rattle.log_buffer.specs.Log.{logged_to}

-- a cache, with the row that the body alone decides; a home; or news of checkpoints
abbrev pub receiver_of : Body → Receiver
receiver_of (FwdGetS r) = receiver.Cache (row.ForwardRead r)
receiver_of (FwdGetM r due) = receiver.Cache (row.ForwardWrite r due)
receiver_of (Inv r) = receiver.Cache (row.Invalidate r)
receiver_of (DataS content) = receiver.Cache (row.DataShared content)
receiver_of (DataM content due) = receiver.Cache (row.DataModified content due)
receiver_of (UpgOk due) = receiver.Cache (row.UpgradeGranted due)
receiver_of InvAck = receiver.Cache row.Acknowledge
receiver_of PutGo = receiver.Cache row.PutGo
receiver_of PutDone = receiver.Cache row.PutDone
receiver_of (DataE content) = receiver.Cache (row.DataExclusive content)
receiver_of GetS = receiver.Home asked.GetS
receiver_of GetM = receiver.Home asked.GetM
receiver_of (Unblock fixed) = receiver.Home (asked.Unblock fixed)
receiver_of PutReq = receiver.Home asked.PutReq
receiver_of (PutData content) = receiver.Home (asked.PutData content)
receiver_of (Ready k) = receiver.Controller k
receiver_of (Advance k) = receiver.Clock k

abbrev pub is_cache : Receiver → Bool
is_cache (receiver.Cache taken) = true
is_cache (receiver.Home message) = false
is_cache (receiver.Controller k) = false
is_cache (receiver.Clock k) = false

abbrev pub is_home : Receiver → Bool
is_home (receiver.Cache taken) = false
is_home (receiver.Home message) = true
is_home (receiver.Controller k) = false
is_home (receiver.Clock k) = false

-- the messages that come to a cache
abbrev pub comes_to_cache : Body → Bool
comes_to_cache body = is_cache (receiver_of body)

-- the messages that come to a home
abbrev pub comes_to_home : Body → Bool
comes_to_home body = is_home (receiver_of body)

-- a note isn't older than the newest entry of its side, the home's or the cache's, and of its block
abbrev pub IsNoteInOrder : List LogEntry → Bool → ℕ → Option ℕ → Type 0
IsNoteInOrder entries home_side block interval = IfSome interval (λ i. logged_to entries home_side block ≤ i + 1)
