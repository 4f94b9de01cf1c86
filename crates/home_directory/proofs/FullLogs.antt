-- A delivery finds the log full where the home's verdict is so.
use Rattle.std.proofs.Common.{◌≡◌, ◌+◌, Bool, true, false, length, refl, if◌then◌else◌, nat_lt, Option, Some, None}
use Rattle.sn_base.specs.declared.config.Config.{Config}
use Rattle.sn_base.specs.declared.event.Answer.TheVariants.{LogFull, NetFull, Delivered}
use Rattle.sn_msg.specs.declared.Message.{Message}
use Rattle.sn_model.specs.declared.rows.Receiver.{Receiver}
use Rattle.sn_model.specs.declared.rows.Receiver.TheVariants as receiver
use Rattle.sn_model.specs.Homes.{Transaction}
use Rattle.sn_model.specs.HomeRows.{LoggedEntry, HomeReply, home_reply, home_row, is_request}
use Rattle.sn_model.specs.Receivers.{receiver_of, is_home, comes_to_home}
use Rattle.sn_model.specs.Fabric.{Fabric, FabricStep, node_at, step_refused}
use Rattle.sn_model.specs.Net.{net_limit}
use Rattle.sn_model.specs.NetEvents.{Outcome, AtHome, kept_at, unless_busy, outcome_by, delivers}
use Rattle.home_directory.specs.Receipt.{LacksRoom, Does, verdict_on, outcome_for}
use Rattle.home_directory.specs.Machine.{IsFullAsAtHome}

module _ (config : Config) (s : Fabric) (m : Message) where
  by_verdict : (over crowded : Bool) (reply : HomeReply) (done : FabricStep) → done.answer ≡ Delivered →
      ((if over then step_refused s LogFull else if crowded then step_refused s NetFull else done).answer ≡ LogFull →
      (if over then LacksRoom else Does reply) ≡ LacksRoom)
      × ((if over then LacksRoom else Does reply) ≡ LacksRoom →
      (if over then step_refused s LogFull else if crowded then step_refused s NetFull else done).answer ≡ LogFull)
  by_verdict true crowded reply done d = (λ e. refl, λ e. refl)
  by_verdict false true reply done d = (λ e. absurd (cc), λ e. absurd (cc))
  by_verdict false false reply done d = (λ e. absurd (cc), λ e. absurd (cc))

  abbrev IsFull : Outcome → Type 0
  IsFull x =
      ((delivers config s m x).answer ≡ LogFull → verdict_on config.log x ≡ LacksRoom)
      × (verdict_on config.log x ≡ LacksRoom → (delivers config s m x).answer ≡ LogFull)

  at_home : (reply : HomeReply) → IsFull (AtHome reply)
  at_home reply =
      by_verdict (nat_lt config.log (length reply.after.log))
      (nat_lt (net_limit + 1) (length s.net.flights + length reply.sends)) reply _ refl

  request : (asks : Bool) (open_one : Option Transaction) (reply : HomeReply) → IsFull (if asks then unless_busy open_one reply else AtHome reply)
  request true None reply = at_home reply
  request true (Some transaction) reply = (λ e. absurd (cc), λ e. absurd (cc))
  request false open_one reply = at_home reply

  abbrev at : LoggedEntry
  at = kept_at s m.to m.block

  home_by : (x : Receiver) → is_home x ≡ true →
      ((delivers config s m (outcome_by s m x)).answer ≡ LogFull → verdict_on config.log (outcome_for at (node_at s m.to).now m x) ≡ LacksRoom)
      × (verdict_on config.log (outcome_for at (node_at s m.to).now m x) ≡ LacksRoom → (delivers config s m (outcome_by s m x)).answer ≡ LogFull)
  home_by (receiver.Home message) e =
      request (is_request message) at.entry.transaction
      (home_reply at m.block (node_at s m.to).now m.tag m.from (home_row at.entry m.from message))
  home_by _ e = absurd (cc)

  pub home_full : comes_to_home m.body ≡ true → IsFullAsAtHome config s m
  home_full e = home_by (receiver_of m.body) e
