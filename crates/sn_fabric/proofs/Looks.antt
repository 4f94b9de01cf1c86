-- The answer to a delivery, by what its receiver says beforehand.
use Rattle.std.proofs.Common.{◌≡◌, ℕ, ◌+◌, Bool, true, false, ◌&&◌, List, length, Option, Some, None, refl, sym, ap, ◌∙◌, nat_lt, if◌then◌else◌}
use Rattle.std.specs.Prelude.{is_some}
use Rattle.sn_base.specs.declared.config.Config.{Config}
use Rattle.sn_base.specs.declared.event.Answer.TheVariants.{Delivered, LogFull, NetFull}
use Rattle.sn_base.specs.declared.log.LogEntry.{LogEntry}
use Rattle.sn_msg.specs.declared.Message.{Message}
use Rattle.log_buffer.specs.Log.{LogData}
use Rattle.mosi_cache.specs.Rows.{look_by}
use Rattle.home_directory.specs.Receipt.{look_of, verdict_on}
use Rattle.home_directory.specs.Serving.{verdict_for}
use Rattle.sn_model.specs.declared.cache.Out.{Out}
use Rattle.sn_model.specs.declared.look.Look.TheVariants.{Sends, LogFull as SeesLogFull}
use Rattle.sn_model.specs.declared.rows.HomeMessage.{HomeMessage}
use Rattle.sn_model.specs.Homes.{Transaction}
use Rattle.sn_model.specs.CacheRows.{CacheReply}
use Rattle.sn_model.specs.HomeRows.{LoggedEntry, HomeReply, home_reply, home_row, is_request}
use Rattle.sn_model.specs.Fabric.{Fabric, FabricStep, step_refused}
use Rattle.sn_model.specs.NetEvents.{AtCache, AtHome, unless_busy, outcome_at_home, fits_in, delivers}
use Rattle.sn_fabric.specs.Deliveries.{look_answer}
use Rattle.sn_fabric.specs.Plans.{HasRoomFor}

full_step : (s : Fabric) (full : Bool) (done : FabricStep) → done.answer ≡ Delivered →
    (if full then NetFull else Delivered) ≡ (if full then step_refused s NetFull else done).answer
full_step s true done d = refl
full_step s false done d = sym d

over_step : (s : Fabric) (over : Bool) (more flights : ℕ) (done : FabricStep) → done.answer ≡ Delivered →
    look_answer (if over then SeesLogFull else Sends more) flights
    ≡ (if over then step_refused s LogFull else if nat_lt 1025 (flights + more) then step_refused s NetFull else done).answer
over_step s true more flights done d = refl
over_step s false more flights done d = full_step s (nat_lt 1025 (flights + more)) done d

-- at a cache
pub cache-looks : (config : Config) (s : Fabric) (m : Message) (log : LogData) (reply : CacheReply) → log.limit ≡ config.log →
    look_answer (look_by log reply) (length s.net.flights) ≡ (delivers config s m (AtCache reply)).answer
cache-looks config s m log reply e =
    ap (λ (k : ℕ). look_answer (if nat_lt k (length reply.after.log) then SeesLogFull else Sends (length reply.sends))
    (length s.net.flights)) e
    ∙ over_step s (nat_lt config.log (length reply.after.log)) (length reply.sends) (length s.net.flights) _ refl

-- at a home, where what comes to it is done or waits

judged_over : (s : Fabric) (over : Bool) (limit : ℕ) (flights : ℕ) (reply : HomeReply) (done : FabricStep) →
    nat_lt limit (length reply.after.log) ≡ over → done.answer ≡ Delivered →
    look_answer (look_of (verdict_on limit (AtHome reply))) flights
    ≡ (if over then step_refused s LogFull else if nat_lt 1025 (flights + length reply.sends) then step_refused s NetFull else done).answer
judged_over s true limit flights reply done e d = rw e refl
judged_over s false limit flights reply done e d = rw e (full_step s (nat_lt 1025 (flights + length reply.sends)) done d)

asked_looks : (config : Config) (s : Fabric) (m : Message) (asks : Bool) (o : Option Transaction) (reply : HomeReply) →
    look_answer (look_of (verdict_on config.log (if asks then unless_busy o reply else AtHome reply))) (length s.net.flights)
    ≡ (delivers config s m (if asks then unless_busy o reply else AtHome reply)).answer
asked_looks config s m true (Some transaction) reply = refl
asked_looks config s m true None reply =
    judged_over s (nat_lt config.log (length reply.after.log)) config.log (length s.net.flights) reply _ refl refl
asked_looks config s m false o reply =
    judged_over s (nat_lt config.log (length reply.after.log)) config.log (length s.net.flights) reply _ refl refl

pub home-looks : (config : Config) (s : Fabric) (m : Message) (at : LoggedEntry) (now : ℕ) (asked : HomeMessage) →
    look_answer (look_of (verdict_for config.log at now m asked)) (length s.net.flights)
    ≡ (delivers config s m (outcome_at_home at m now asked)).answer
home-looks config s m at now asked =
    asked_looks config s m (is_request asked) at.entry.transaction (home_reply at m.block now m.tag m.from (home_row at.entry m.from asked))

-- what is delivered is done, for the log and the network have the room

room_step : (config : Config) (s : Fabric) (log : List LogEntry) (sends : List Out) (done : FabricStep) (over full : Bool) →
    nat_lt config.log (length log) ≡ over → nat_lt 1025 (length s.net.flights + length sends) ≡ full →
    (if over then step_refused s LogFull else if full then step_refused s NetFull else done).answer ≡ Delivered → HasRoomFor config s log sends
room_step config s log sends done true full a b e = absurd (cc)
room_step config s log sends done false true a b e = absurd (cc)
room_step config s log sends done false false a b e = record { entries = a; messages = b }

pub room-for : (config : Config) (s : Fabric) (log : List LogEntry) (sends : List Out) (done : FabricStep) →
    (fits_in config s log sends done).answer ≡ Delivered → HasRoomFor config s log sends
room-for config s log sends done e =
    room_step config s log sends done (nat_lt config.log (length log)) (nat_lt 1025 (length s.net.flights + length sends)) refl refl e

pub fits-then : (config : Config) (s : Fabric) (log : List LogEntry) (sends : List Out) (done : FabricStep) → HasRoomFor config s log sends →
    fits_in config s log sends done ≡ done
fits-then config s log sends done r =
    ap (λ (b : Bool). if b then step_refused s LogFull else if nat_lt 1025 (length s.net.flights + length sends) then step_refused s NetFull
    else done) r.entries
    ∙ ap (λ (b : Bool). if b then step_refused s NetFull else done) r.messages

-- what is delivered to a home needn't wait

pub asked-done : (config : Config) (s : Fabric) (m : Message) (asks : Bool) (o : Option Transaction) (reply : HomeReply) →
    (delivers config s m (if asks then unless_busy o reply else AtHome reply)).answer ≡ Delivered →
    ((asks && is_some o) ≡ false) × HasRoomFor config s reply.after.log reply.sends
asked-done config s m true (Some transaction) reply e = absurd (cc)
asked-done config s m true None reply e = (refl, room-for config s reply.after.log reply.sends _ e)
asked-done config s m false o reply e = (refl, room-for config s reply.after.log reply.sends _ e)
