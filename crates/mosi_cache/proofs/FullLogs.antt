-- A delivery finds the log full where the controller does.
use Rattle.std.proofs.Common.{◌≡◌, ◌+◌, Bool, true, false, length, refl, if◌then◌else◌, nat_lt}
use Rattle.sn_base.specs.declared.config.Config.{Config}
use Rattle.sn_base.specs.declared.event.Answer.TheVariants.{LogFull, NetFull, Delivered}
use Rattle.sn_msg.specs.declared.Message.{Message}
use Rattle.sn_model.specs.declared.rows.Receiver.{Receiver}
use Rattle.sn_model.specs.declared.rows.Receiver.TheVariants as receiver
use Rattle.sn_model.specs.CacheRows.{CacheReply, reply_at_cache}
use Rattle.sn_model.specs.Receivers.{receiver_of, is_cache, comes_to_cache}
use Rattle.sn_model.specs.Fabric.{Fabric, FabricStep, node_at, home_node, step_refused}
use Rattle.sn_model.specs.Net.{net_limit}
use Rattle.sn_model.specs.NetEvents.{AtCache, logged_at, outcome_by, delivers}
use Rattle.mosi_cache.specs.Rows.{is_over}
use Rattle.mosi_cache.specs.Machine.{log_at, IsFullAsAtCache}

full : (s : Fabric) (over crowded : Bool) (done : FabricStep) → done.answer ≡ Delivered →
    ((if over then step_refused s LogFull else if crowded then step_refused s NetFull else done).answer ≡ LogFull → over ≡ true)
    × (over ≡ true → (if over then step_refused s LogFull else if crowded then step_refused s NetFull else done).answer ≡ LogFull)
full s true crowded done d = (λ e. refl, λ e. refl)
full s false true done d = (λ e. absurd (cc), λ e. absurd (cc))
full s false false done d = (λ e. absurd (cc), λ e. absurd (cc))

module _ (config : Config) (s : Fabric) (m : Message) where
  at_cache : (reply : CacheReply) → ((delivers config s m (AtCache reply)).answer ≡ LogFull → is_over (log_at config s m.to) reply ≡ true)
      × (is_over (log_at config s m.to) reply ≡ true → (delivers config s m (AtCache reply)).answer ≡ LogFull)
  at_cache reply =
      full s (nat_lt config.log (length reply.after.log)) (nat_lt (net_limit + 1) (length s.net.flights + length reply.sends)) _ refl

  abbrev leaves : Receiver → CacheReply
  leaves x = reply_at_cache (logged_at s m.to) (home_node s m.block) m.block (node_at s m.to).now m.tag x

  cache_by : (x : Receiver) → is_cache x ≡ true →
      ((delivers config s m (outcome_by s m x)).answer ≡ LogFull → is_over (log_at config s m.to) (leaves x) ≡ true)
      × (is_over (log_at config s m.to) (leaves x) ≡ true → (delivers config s m (outcome_by s m x)).answer ≡ LogFull)
  cache_by (receiver.Cache taken) e = at_cache (leaves (receiver.Cache taken))
  cache_by _ e = absurd (cc)

  pub cache_full : comes_to_cache m.body ≡ true → IsFullAsAtCache config s m
  cache_full e = cache_by (receiver_of m.body) e
