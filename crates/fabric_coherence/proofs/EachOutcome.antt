-- What holds of whatever each row leaves, of a home that is busy and of news holds of each delivery's outcome.
use Rattle.std.proofs.Common.{◌≡◌, ◌∙◌, true≢false, ℕ, Bool, true, false, if◌then◌else◌, Option, Some, None, refl, sym}
use Rattle.sn_msg.specs.declared.Message.{Message}
use Rattle.sn_msg.specs.declared.Body.TheVariants.{Advance}
use Rattle.sn_model.specs.declared.net.News.TheVariants as told
use Rattle.sn_model.specs.declared.rows.CacheRow.{CacheRow}
use Rattle.sn_model.specs.declared.rows.HomeMessage.{HomeMessage}
use Rattle.sn_model.specs.declared.rows.Receiver.{Receiver}
use Rattle.sn_model.specs.declared.rows.Receiver.TheVariants as receiver
use Rattle.sn_model.specs.CacheRows.{CacheReply}
use Rattle.sn_model.specs.HomeRows.{HomeReply, is_request}
use Rattle.sn_model.specs.Homes.{Transaction}
use Rattle.sn_model.specs.Fabric.{Fabric, node_at, with_node, home_of}
use Rattle.sn_model.specs.NetEvents.{Outcome, Busy, AtCache, AtHome, Noted, kept_at, unless_busy, node_after_news, outcome_at_home, outcome_by}
use Rattle.sn_model.specs.NetEvents.{outcome_of}
use Rattle.sn_model.specs.Receivers.{receiver_of}
use Rattle.fabric_coherence.specs.CacheEvents.{left_at_cache}
use Rattle.fabric_coherence.specs.HomeEvents.{IsServed, left_at_home, row_at_home}
use Rattle.fabric_coherence.proofs.Receivers.{says_body}

-- by who takes the message, and its row there
module _ (s : Fabric) (m : Message) (P : Outcome → Type 0)
    (cache : (taken : CacheRow) → receiver_of m.body ≡ receiver.Cache taken → P (AtCache (left_at_cache s m taken)))
    (home : (message : HomeMessage) → receiver_of m.body ≡ receiver.Home message → IsServed s m message →
    P (AtHome (left_at_home s m (row_at_home s m message))))
    (busy : P Busy)
    (ready : (k : ℕ) → receiver_of m.body ≡ receiver.Controller k → P (Noted s (told.Ready m.from k)))
    (advance : (k : ℕ) → receiver_of m.body ≡ receiver.Clock k →
    P (Noted (with_node s m.to (node_after_news (node_at s m.to) k)) (told.Advance m.to k))) where
  -- what comes to a home waits, or its row is done
  at_home : (message : HomeMessage) → receiver_of m.body ≡ receiver.Home message →
      P (outcome_at_home (kept_at s m.to m.block) m (node_at s m.to).now message)
  at_home message is = by_kind (is_request message) refl
    where
      by_open : (open_one : Option Transaction) → (home_of s m.block).transaction ≡ open_one →
          P (unless_busy open_one (left_at_home s m (row_at_home s m message)))
      by_open None idle = home message is (λ h. idle)
      by_open (Some transaction) open_now = busy

      by_kind : (c : Bool) → is_request message ≡ c →
          P (if c then unless_busy (home_of s m.block).transaction (left_at_home s m (row_at_home s m message))
          else AtHome (left_at_home s m (row_at_home s m message)))
      by_kind true e = by_open (home_of s m.block).transaction refl
      by_kind false e = home message is (λ h. absurd (true≢false (sym h ∙ e)))

  by_receiver : (who : Receiver) → receiver_of m.body ≡ who → P (outcome_by s m who)
  by_receiver (receiver.Cache taken) is = cache taken is
  by_receiver (receiver.Home message) is = at_home message is
  by_receiver (receiver.Controller k) is = ready k is
  by_receiver (receiver.Clock k) is = advance k is

  pub each_row : P (outcome_of s m m.body)
  each_row = by_receiver (receiver_of m.body) refl

-- whatever the row
module _ (s : Fabric) (m : Message) (P : Outcome → Type 0) (cache : (reply : CacheReply) → P (AtCache reply))
    (home : (reply : HomeReply) → P (AtHome reply)) (busy : P Busy) (ready : (k : ℕ) → P (Noted s (told.Ready m.from k)))
    (advance : (k : ℕ) → m.body ≡ Advance k → P (Noted (with_node s m.to (node_after_news (node_at s m.to) k)) (told.Advance m.to k))) where
  pub each_outcome : P (outcome_of s m m.body)
  each_outcome =
      each_row s m P (λ taken is. cache (left_at_cache s m taken)) (λ message is served. home (left_at_home s m (row_at_home s m message)))
      busy (λ k is. ready k) (λ k is. advance k (says_body m.body (receiver.Clock k) is))
