-- A delivery: what it makes of the receiver, of the network and of the numbers.
use Rattle.std.proofs.Common.{◌≡◌, ℕ, ◌+◌, ◌≤◌, false, not, length, refl, sym, subst, arith, nat_lt, nat_le, Option, Some, None}
use Rattle.std.proofs.lemmas.Bool.Decides.{nat_tests}
use Rattle.sn_base.specs.declared.config.Config.{Config}
use Rattle.sn_base.specs.declared.event.Answer.TheVariants.{LogFull, NetFull, HomeBusy, Delivered, NoMessage, NotArrived, Held}
use Rattle.sn_base.specs.declared.log.LogEntry.{LogEntry}
use Rattle.sn_msg.specs.declared.Body.TheVariants.{Ready, Advance}
use Rattle.sn_model.specs.declared.net.News.TheVariants as told
use Rattle.sn_model.specs.declared.rows.CacheRow.{CacheRow}
use Rattle.sn_model.specs.declared.rows.HomeRow.{HomeRow}
use Rattle.sn_model.specs.declared.rows.Receiver.TheVariants as receiver
use Rattle.sn_model.specs.CacheRows.{CacheReply}
use Rattle.sn_model.specs.HomeRows.{HomeReply}
use Rattle.sn_model.specs.Fabric.{Fabric, Flight, node_at, home_of, home_node, with_node, with_net, step_refused}
use Rattle.sn_model.specs.Net.{net_limit, flight_of, without_flight, is_there}
use Rattle.sn_model.specs.NetEvents.{AtCache, AtHome, logged_at, kept_at, outcome_of, node_after, home_after, node_after_news, copy_lost}
use Rattle.sn_model.specs.NetEvents.{delivers, delivers_flight}
use Rattle.sn_model.specs.Receivers.{receiver_of}
use Rattle.fabric_coherence.specs.View.{GhostState}
use Rattle.fabric_coherence.specs.Steps.{IsInFlight, after_cache, after_home}
use Rattle.fabric_coherence.specs.Coherent.{FabricInvariant}
use Rattle.fabric_coherence.proofs.InFlight.{in_flight, is_found}
use Rattle.fabric_coherence.specs.CacheEvents.{left_at_cache}
use Rattle.fabric_coherence.specs.HomeEvents.{left_at_home, row_at_home}
use Rattle.fabric_coherence.proofs.EachOutcome.{each_row}
use Rattle.fabric_coherence.proofs.RowsMet.{cache_row}
use Rattle.fabric_bounds.specs.Counts.{most_sent}
use Rattle.fabric_bounds.proofs.Lists.{shorter, taken_out}
use Rattle.fabric_bounds.proofs.Steps.{IsStep, fewer_fits, node_stays, one_steps, quiet_step, sending_step, same_step, by_test}
use Rattle.fabric_bounds.proofs.Rows.{IsSmall, row_small}
use Rattle.fabric_bounds.proofs.Replies.{row_few}

pub not_over : (limit k : ℕ) → nat_lt limit k ≡ false → k ≤ limit
not_over limit k e = grind (arith, nat_tests)

has_room : (left now sends : ℕ) → nat_lt (net_limit + 1) (now + sends) ≡ false → left + 1 ≤ now → left + sends ≤ net_limit
has_room left now sends e l = grind (arith, nat_tests)

one_is_few : (k : ℕ) → k ≤ 1 → k ≤ most_sent
one_is_few k l = omega arith

module _ (config : Config) (s : Fabric) (t : GhostState) (id : ℕ) (f : Flight) (kept : FabricInvariant s t) (found : flight_of s.net.flights id ≡ Some f) where
  flight : IsInFlight s f.message
  flight = in_flight s id f kept.shape found

  by_number : f.message.id ≡ id
  by_number = (is_found s.net.flights id f s.net.next_id (length s.nodes) found kept.shape.below kept.shape.within).number

  one_less : length (without_flight s.net f.message.id).flights + 1 ≤ length s.net.flights
  one_less = taken_out s.net.flights f (subst (λ i. flight_of s.net.flights i ≡ Some f) (sym by_number) found)

  -- a row that is done, at a cache and at a home
  module _ (reply : CacheReply) (small : IsSmall reply (node_at s f.message.to).cache) where
    cache_done : length reply.after.log ≤ config.log → nat_lt (net_limit + 1) (length s.net.flights + length reply.sends) ≡ false →
        IsStep config s (after_cache s f.message reply)
    cache_done fits room =
        sending_step config s (with_net (with_node s f.message.to (node_after (node_at s f.message.to) reply))
        (without_flight s.net f.message.id)) f.message.to f.message.block reply.sends Delivered (copy_lost f.message.to reply)
        (one_steps config s f.message.to (node_after (node_at s f.message.to) reply) flight.to
        (record {
          log = λ h. fits;
          frames = fewer_fits config reply.after.cache (node_at s f.message.to).cache small.fewer;
          now = omega arith;
        }))
        (λ h. has_room (length (without_flight s.net f.message.id).flights) (length s.net.flights) (length reply.sends) room one_less) refl
        (one_is_few (length reply.sends) small.sends) (omega arith)

    cache_step : IsStep config s (delivers config s f.message (AtCache reply))
    cache_step = by_test config s (nat_lt config.log (length reply.after.log)) (step_refused s LogFull) _ (λ e. same_step config s LogFull)
        (λ fits. by_test config s (nat_lt (net_limit + 1) (length s.net.flights + length reply.sends)) (step_refused s NetFull)
        (after_cache s f.message reply) (λ e. same_step config s NetFull)
        (λ room. cache_done (not_over config.log (length reply.after.log) fits) room))

  module _ (reply : HomeReply) (few : length reply.sends ≤ most_sent) where
    home_done : length reply.after.log ≤ config.log → nat_lt (net_limit + 1) (length s.net.flights + length reply.sends) ≡ false →
        IsStep config s (after_home s f.message reply)
    home_done fits room =
        sending_step config s (with_net (home_after s f.message.to f.message.block reply)
        (without_flight s.net f.message.id)) f.message.to f.message.block reply.sends Delivered None
        (one_steps config s f.message.to (record (node_at s f.message.to) { log = reply.after.log }) flight.to
        (record { log = λ h. fits; frames = λ h. h; now = omega arith }))
        (λ h. has_room (length (without_flight s.net f.message.id).flights) (length s.net.flights)
        (length reply.sends) room one_less) refl few (omega arith)

    home_step : IsStep config s (delivers config s f.message (AtHome reply))
    home_step = by_test config s (nat_lt config.log (length reply.after.log)) (step_refused s LogFull) _ (λ e. same_step config s LogFull)
        (λ fits. by_test config s (nat_lt (net_limit + 1) (length s.net.flights + length reply.sends)) (step_refused s NetFull)
        (after_home s f.message reply) (λ e. same_step config s NetFull)
        (λ room. home_done (not_over config.log (length reply.after.log) fits) room))

  -- Ready and Advance
  ready_step : (k : ℕ) → IsStep config s (delivers config s f.message (outcome_of s f.message (Ready k)))
  ready_step k =
      quiet_step config s (with_net s (without_flight s.net f.message.id)) Delivered (Some (told.Ready f.message.from k))
      (λ n l. node_stays config (node_at s n)) (omega (arith, one_less)) refl (omega arith)

  advance_step : (k : ℕ) → IsStep config s (delivers config s f.message (outcome_of s f.message (Advance k)))
  advance_step k =
      quiet_step config s (with_net (with_node s f.message.to (node_after_news (node_at s f.message.to) k))
      (without_flight s.net f.message.id)) Delivered (Some (told.Advance f.message.to k))
      (one_steps config s f.message.to (node_after_news (node_at s f.message.to) k) flight.to
      (record {
        log = λ h. omega (arith, shorter (λ (e : LogEntry). nat_le k e.interval) (node_at s f.message.to).log);
        frames = λ h. h;
        now = omega arith;
      }))
      (omega (arith, one_less)) refl (omega arith)

  sixteen : length (home_of s f.message.block).sharers ≡ 16
  sixteen = kept.shape.sharers f.message.block flight.block

  -- by its row
  cache_row_step : (taken : CacheRow) → receiver_of f.message.body ≡ receiver.Cache taken →
      IsStep config s (delivers config s f.message (AtCache (left_at_cache s f.message taken)))
  cache_row_step taken is =
      cache_step (left_at_cache s f.message taken)
      (row_small (logged_at s f.message.to) (home_node s f.message.block) f.message.block (node_at s f.message.to).now f.message.tag taken
      (cache_row s t f.message flight kept taken is))

  home_row_step : (taken : HomeRow) → IsStep config s (delivers config s f.message (AtHome (left_at_home s f.message taken)))
  home_row_step taken =
      home_step (left_at_home s f.message taken)
      (row_few (kept_at s f.message.to f.message.block) sixteen f.message.from f.message.block (node_at s f.message.to).now f.message.tag taken)

  flight_step : IsStep config s (delivers_flight config s (Some f))
  flight_step = by_test config s (not (is_there f)) (step_refused s NotArrived) _ (λ e. same_step config s NotArrived)
      (λ e. by_test config s (nat_lt (node_at s f.message.to).now f.message.tag) (step_refused s Held)
      (delivers config s f.message (outcome_of s f.message f.message.body)) (λ e. same_step config s Held)
      (λ e. each_row s f.message (λ outcome. IsStep config s (delivers config s f.message outcome)) cache_row_step
      (λ message is served. home_row_step (row_at_home s f.message message)) (same_step config s HomeBusy)
      (λ k is. ready_step k) (λ k is. advance_step k)))

pub delivery_step : (config : Config) (s : Fabric) (t : GhostState) (id : ℕ) (found : Option Flight) → FabricInvariant s t →
    flight_of s.net.flights id ≡ found → IsStep config s (delivers_flight config s found)
delivery_step config s t id None kept e = same_step config s NoMessage
delivery_step config s t id (Some f) kept e = flight_step config s t id f kept e
