-- What a message does at the cache that it has come to: its row, and the answer.
use Rattle.std.specs.Prelude.{◌≡◌, ℕ, ◌%◌, Bool, nat_lt, if◌then◌else◌, List, [], ◌∷◌, length, Option, Some, None}
use Rattle.sn_msg.specs.declared.Message.{Message}
use Rattle.log_buffer.specs.Log.{LogData}
use Rattle.sn_model.specs.declared.cache.Out.{Out}
use Rattle.sn_model.specs.declared.rows.CacheRow.{CacheRow}
use Rattle.sn_model.specs.CacheRows.{CacheReply, cache_reply, row_by}
use Rattle.mosi_cache.specs.declared.step.CacheStep.{CacheStep}
use Rattle.mosi_cache.specs.declared.step.CacheStep.TheVariants.{Took, LogFull}
use Rattle.sn_model.specs.declared.look.Look.{Look}
use Rattle.sn_model.specs.declared.look.Look.TheVariants.{Sends, LogFull as SeesLogFull}
use Rattle.mosi_cache.specs.Controller.{CacheData, with_entries}

-- what a row leaves of a controller, and the row of a message
abbrev pub reply_of : CacheData → LogData → ℕ → Message → CacheRow → CacheReply
reply_of c log now m taken = cache_reply (with_entries c log.entries) (m.block % c.nodes) m.block now m.tag taken

abbrev pub row_of : CacheData → LogData → ℕ → Message → CacheReply
row_of c log now m = row_by (with_entries c log.entries) (m.block % c.nodes) m.block now m.tag m.body

-- the one message that a row sends, where it sends one
abbrev pub first_of : List Out → Option Out
first_of [] = None
first_of (out ∷ outs) = Some out

-- whether the row would need more entries than the log may hold
abbrev pub is_over : LogData → CacheReply → Bool
is_over log reply = nat_lt log.limit (length reply.after.log)

-- the answer to a message: the log is full, or the row is done
abbrev pub step_by : LogData → CacheReply → CacheStep
step_by log reply = if is_over log reply then LogFull else Took (first_of reply.sends) reply.lost

-- the same beforehand
abbrev pub look_by : LogData → CacheReply → Look
look_by log reply = if is_over log reply then SeesLogFull else Sends (length reply.sends)

-- the controller and the log after the row, where the log isn't full
abbrev pub cache_by : CacheData → LogData → CacheReply → CacheData
cache_by c log reply = if is_over log reply then c else record c { cache = reply.after.cache }

abbrev pub log_by : LogData → CacheReply → LogData
log_by log reply = if is_over log reply then log else record log { entries = reply.after.log }

-- a row was done: this is the controller after it, and this the answer
pub record IsRowDone (before after : CacheData) (step : CacheStep) (reply : CacheReply) : Type 0 where
  pub cache : after ≡ record before { cache = reply.after.cache }
  pub answer : step ≡ Took (first_of reply.sends) reply.lost
