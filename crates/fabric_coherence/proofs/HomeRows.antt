-- Each row of a home is, for its block, the block's row.
use Rattle.std.proofs.Common.{zero, suc, ◌≡◌, ◌≢◌, inl, ◌∙◌, ℕ, ◌+◌, ◌<◌, ◌≤◌, Bool, true, false, cond, List, [], ◌∷◌, length, refl, sym}
use Rattle.std.proofs.Common.{subst, arith, ◌==◌}
use Rattle.std.specs.Prelude.{slice_index_or, slice_set, replicate, Some}
use Rattle.route_plan.specs.Distances.{Switches}
use Rattle.log_buffer.specs.Log.{LogEntry, Old, log_with_note, logged_to, is_home_side}
use Rattle.sn_base.specs.declared.log.Old.TheVariants.{WasHome, WasCache}
use Rattle.sn_msg.specs.declared.Message.{Message}
use Rattle.sn_msg.specs.declared.Body.{Body}
use Rattle.sn_msg.specs.declared.Body.TheVariants.{GetS, GetM, FwdGetS, FwdGetM, DataS, DataM, DataE, UpgOk, Unblock, PutReq, PutGo}
use Rattle.sn_msg.specs.declared.Body.TheVariants.{PutData, PutDone}
use Rattle.sn_model.specs.declared.home.Kind.{Kind}
use Rattle.sn_model.specs.declared.home.Kind.TheVariants as kind
use Rattle.sn_model.specs.CacheRows.{send}
use Rattle.sn_model.specs.Homes.{Holder, Itself, OfCache, Transaction}
use Rattle.sn_model.specs.HomeRows as row
use Rattle.sn_model.specs.Fabric.{Fabric, node_at, home_of, home_node}
use Rattle.sn_model.specs.Net.{net_after_sends, sent_by, message_of, without_flight}
use Rattle.sn_model.specs.NetEvents.{kept_at}
use Rattle.sn_model.specs.declared.cache.Out.{Out}
use Rattle.sn_coherence.specs.Block as block
use Rattle.sn_coherence.specs.HomeRows as seen
use Rattle.sn_coherence.specs.Events.{Lists, other_sharers}
use Rattle.sn_coherence.specs.Log.{told_at, was_owned, old_content, was_home, old_cache}
use Rattle.sn_coherence.proofs.Log.{note_law}
use Rattle.fabric_coherence.specs.View.{GhostState, block_seen, net_seen, message_seen, is_itself, owner_of, content_of, kind_seen, kind_open}
use Rattle.fabric_coherence.specs.Steps.{lost_at_once, IsShaped, IsInFlight}
use Rattle.fabric_coherence.specs.HomeSeen.{IsSameCaches, IsHomeRow, net_losing, other_targets}
use Rattle.fabric_coherence.proofs.Base.{read_set}
use Rattle.fabric_coherence.proofs.HomeSeen.{own-seen, losing_is, one-sent, none-sent}
use Rattle.fabric_coherence.proofs.NetSends.{seen-invalidates, next-invalidates, listed}

-- a note of the home's side says nothing of the caches' side, and nothing of other blocks
pub same_caches : (log : List LogEntry) (b : ℕ) → IsSameCaches log log b
same_caches log b = record { holds = λ x j. refl; held = λ x j. refl; last = refl }

pub caches-noted : (log : List LogEntry) (k b : ℕ) (old : Old) → false ≢ is_home_side old → logged_to log (is_home_side old) b ≤ k + 1 →
    (o : ℕ) → IsSameCaches (log_with_note log k b old) log o
caches-noted log k b old n l o = record {
  holds = λ x j. (note_law Bool was_owned log k b old (was_owned old) x l refl).others false o j x (inl n);
  held = λ x j. (note_law (List ℕ) old_content log k b old (old_content old) x l refl).others false o j x (inl n);
  last = (note_law Bool was_owned log k b old (was_owned old) true l refl).others_newest false o (inl n);
}

-- nobody is marked
none_marked : (k n : ℕ) → slice_index_or (replicate k false) n false ≡ false
none_marked zero n = refl
none_marked (suc k) zero = refl
none_marked (suc k) (suc n) = none_marked k n

caches-noted_owner : (log : List LogEntry) (k b : ℕ) (holder : Holder) → logged_to log true b ≤ k + 1 → (o : ℕ) →
    IsSameCaches (row.noted_owner log k b holder) log o
caches-noted_owner log k b (Itself content) l o = same_caches log o
caches-noted_owner log k b (OfCache owner) l o = caches-noted log k b (WasCache owner) (λ h. grind (arith, h)) l o

-- who isn't the home itself is a cache
pub of-cache : (holder : Holder) → is_itself holder ≡ false → holder ≡ OfCache (owner_of holder)
of-cache (Itself content) h = absurd (grind (arith, h))
of-cache (OfCache owner) h = refl

module _ (s : Fabric) (t : GhostState) (m : Message) (shape : IsShaped s) (flight : IsInFlight s m) (home : m.to ≡ home_node s m.block) where
  -- the message as its block sees it
  seen_as : (x : Body) → m.body ≡ x → message_seen m x ≡ net_seen m.block s.net.flights m.id
  seen_as x is = sym (flight.seen ∙ (λ p. message_seen m (is p)))

  -- r joins the sharers
  joins : (x : Body) → m.body ≡ x → (message_seen m x).from ≡ m.from → (n : ℕ) →
      slice_index_or (slice_set (home_of s m.block).sharers m.from true) n false
      ≡ block.set (λ k. slice_index_or (home_of s m.block).sharers k false) (net_seen m.block s.net.flights m.id).from true n
  joins x is e n =
      read_set (home_of s m.block).sharers m.from n true false (omega (arith, shape.sharers m.block flight.block, flight.from, shape.few))
      ∙ (λ p. cond (n == (sym e ∙ (λ q. (seen_as x is q).from)) p) true (slice_index_or (home_of s m.block).sharers n false))

  pub read_at_owner-seen : (owner : ℕ) → m.body ≡ GetS → (home_of s m.block).holder ≡ OfCache owner →
      IsHomeRow s t m (row.read_at_owner (kept_at s m.to m.block) (node_at s m.to).now m.from owner)
      (seen.read_at_owner (block_seen s t m.block) m.id)
  read_at_owner-seen owner is holder =
      own-seen s m (row.read_at_owner (kept_at s m.to m.block) (node_at s m.to).now m.from owner) shape flight.to flight.block t
      (seen.read_at_owner (block_seen s t m.block) m.id) home (same_caches (node_at s m.to).log m.block) (record {
        at_home = refl;
        owner = refl;
        home_content = refl;
        sharers = joins GetS is refl;
        kind = refl;
        requester = λ p. (seen_as GetS is p).from;
        begun = λ p. (node_at s (home p)).now;
        net = λ routes i. one-sent routes s.net m.id m.to (node_at s m.to).now m.block (send owner (FwdGetS m.from)) i
            (block.forward block.FwdGetS (home_node s m.block) (owner_of (home_of s m.block).holder) (node_at s (home_node s m.block)).now
            (net_seen m.block s.net.flights m.id).from 0) shape.below
            (λ p. block.forward block.FwdGetS (home p) (owner_of (sym holder p)) (node_at s (home p)).now (seen_as GetS is p).from 0);
        next = λ routes. refl;
        named_home = λ j p. told_at was_home (node_at s (home p)).log true m.block (is_itself (home_of s m.block).holder) j;
        named = λ j p. told_at old_cache (node_at s (home p)).log true m.block (owner_of (home_of s m.block).holder) j;
        home_held = λ j p. told_at old_content (node_at s (home p)).log true m.block (content_of (home_of s m.block).holder) j;
        home_last = λ p. logged_to (node_at s (home p)).log true m.block;
      })

  pub read_at_home-seen : (content : List ℕ) → m.body ≡ GetS → (home_of s m.block).holder ≡ Itself content →
      IsHomeRow s t m (row.read_at_home (kept_at s m.to m.block) (node_at s m.to).now m.from content)
      (seen.read_at_home (block_seen s t m.block) m.id)
  read_at_home-seen content is holder =
      own-seen s m (row.read_at_home (kept_at s m.to m.block) (node_at s m.to).now m.from content) shape flight.to flight.block t
      (seen.read_at_home (block_seen s t m.block) m.id) home (same_caches (node_at s m.to).log m.block) (record {
        at_home = refl;
        owner = refl;
        home_content = refl;
        sharers = joins GetS is refl;
        kind = refl;
        requester = λ p. (seen_as GetS is p).from;
        begun = λ p. (node_at s (home p)).now;
        net = λ routes i. one-sent routes s.net m.id m.to (node_at s m.to).now m.block (send m.from (DataS content)) i
            (block.answer block.DataS (home_node s m.block) (net_seen m.block s.net.flights m.id).from
            (node_at s (home_node s m.block)).now 0 (content_of (home_of s m.block).holder)) shape.below
            (λ p. block.answer block.DataS (home p) (seen_as GetS is p).from (node_at s (home p)).now 0 (content_of (sym holder p)));
        next = λ routes. refl;
        named_home = λ j p. told_at was_home (node_at s (home p)).log true m.block (is_itself (home_of s m.block).holder) j;
        named = λ j p. told_at old_cache (node_at s (home p)).log true m.block (owner_of (home_of s m.block).holder) j;
        home_held = λ j p. told_at old_content (node_at s (home p)).log true m.block (content_of (home_of s m.block).holder) j;
        home_last = λ p. logged_to (node_at s (home p)).log true m.block;
      })

  pub put_begins-seen : m.body ≡ PutReq →
      IsHomeRow s t m (row.put_begins (kept_at s m.to m.block) (node_at s m.to).now m.from) (seen.put_begins (block_seen s t m.block) m.id)
  put_begins-seen is = own-seen s m (row.put_begins (kept_at s m.to m.block) (node_at s m.to).now m.from) shape flight.to flight.block t
      (seen.put_begins (block_seen s t m.block) m.id) home (same_caches (node_at s m.to).log m.block) (record {
        at_home = refl;
        owner = refl;
        home_content = refl;
        sharers = λ n. refl;
        kind = refl;
        requester = λ p. (seen_as PutReq is p).from;
        begun = λ p. (node_at s (home p)).now;
        net = λ routes i. one-sent routes s.net m.id m.to (node_at s m.to).now m.block (send m.from PutGo) i
            (block.plain block.PutGo (home_node s m.block) (net_seen m.block s.net.flights m.id).from
            (node_at s (home_node s m.block)).now) shape.below
            (λ p. block.plain block.PutGo (home p) (seen_as PutReq is p).from (node_at s (home p)).now);
        next = λ routes. refl;
        named_home = λ j p. told_at was_home (node_at s (home p)).log true m.block (is_itself (home_of s m.block).holder) j;
        named = λ j p. told_at old_cache (node_at s (home p)).log true m.block (owner_of (home_of s m.block).holder) j;
        home_held = λ j p. told_at old_content (node_at s (home p)).log true m.block (content_of (home_of s m.block).holder) j;
        home_last = λ p. logged_to (node_at s (home p)).log true m.block;
      })

  pub put_is_stale-seen : m.body ≡ PutReq →
      IsHomeRow s t m (row.put_is_stale (kept_at s m.to m.block) m.from) (seen.put_is_stale (block_seen s t m.block) m.id)
  put_is_stale-seen is = own-seen s m (row.put_is_stale (kept_at s m.to m.block) m.from) shape flight.to flight.block t
      (seen.put_is_stale (block_seen s t m.block) m.id) home (same_caches (node_at s m.to).log m.block) (record {
        at_home = refl;
        owner = refl;
        home_content = refl;
        sharers = λ n. refl;
        kind = refl;
        requester = refl;
        begun = refl;
        net = λ routes i. one-sent routes s.net m.id m.to (node_at s m.to).now m.block (send m.from PutDone) i
            (block.plain block.PutDone (home_node s m.block) (net_seen m.block s.net.flights m.id).from
            (node_at s (home_node s m.block)).now) shape.below
            (λ p. block.plain block.PutDone (home p) (seen_as PutReq is p).from (node_at s (home p)).now);
        next = λ routes. refl;
        named_home = λ j p. told_at was_home (node_at s (home p)).log true m.block (is_itself (home_of s m.block).holder) j;
        named = λ j p. told_at old_cache (node_at s (home p)).log true m.block (owner_of (home_of s m.block).holder) j;
        home_held = λ j p. told_at old_content (node_at s (home p)).log true m.block (content_of (home_of s m.block).holder) j;
        home_last = λ p. logged_to (node_at s (home p)).log true m.block;
      })

  -- the home names the sender, and its newest entry isn't above the tag
  pub put_data-seen : (content : List ℕ) → m.body ≡ PutData content → (home_of s m.block).holder ≡ OfCache m.from →
      logged_to (node_at s m.to).log true m.block ≤ m.tag + 1 →
      IsHomeRow s t m (row.put_data (kept_at s m.to m.block) m.block m.tag m.from content) (seen.put_data (block_seen s t m.block) m.id)
  put_data-seen content is holder late =
      own-seen s m (row.put_data (kept_at s m.to m.block) m.block m.tag m.from content) shape flight.to flight.block t
      (seen.put_data (block_seen s t m.block) m.id) home
      (caches-noted (node_at s m.to).log m.tag m.block (WasCache m.from) (λ h. grind (arith, h)) late m.block) (record {
        at_home = refl;
        owner = refl;
        home_content = λ p. (seen_as (PutData content) is p).content;
        sharers = λ n. refl;
        kind = refl;
        requester = refl;
        begun = refl;
        net = λ routes i. none-sent routes s.net m.id m.to (node_at s m.to).now m.block i;
        next = λ routes. refl;
        named_home = λ j. (note_law Bool was_home (node_at s m.to).log m.tag m.block (WasCache m.from) false true late refl).cuts j
            ∙ (λ p. block.above (told_at was_home (node_at s (home p)).log true m.block (is_itself (sym holder p)))
            (seen_as (PutData content) is p).tag true j);
        named = λ j. (note_law ℕ old_cache (node_at s m.to).log m.tag m.block (WasCache m.from) m.from 0 late refl).cuts j
            ∙ (λ p. block.above (told_at old_cache (node_at s (home p)).log true m.block (owner_of (sym holder p)))
            (seen_as (PutData content) is p).tag 0 j);
        home_held = λ j. (note_law (List ℕ) old_content (node_at s m.to).log m.tag m.block (WasCache m.from) [] content late refl).cuts j
            ∙ (λ p. block.above (told_at old_content (node_at s (home p)).log true m.block (content_of (sym holder p)))
            (seen_as (PutData content) is p).tag (seen_as (PutData content) is p).content j);
        home_last =
            (note_law Bool was_home (node_at s m.to).log m.tag m.block (WasCache m.from) false true late refl).newest
            ∙ (λ p. (seen_as (PutData content) is p).tag + 1);
      })

  pub grant_exclusive-seen : (content : List ℕ) → m.body ≡ GetS → (home_of s m.block).holder ≡ Itself content →
      logged_to (node_at s m.to).log true m.block ≤ (node_at s m.to).now + 1 →
      IsHomeRow s t m (row.grant_exclusive (kept_at s m.to m.block) m.block (node_at s m.to).now m.from content)
      (seen.grant_exclusive (block_seen s t m.block) m.id)
  grant_exclusive-seen content is holder late =
      own-seen s m (row.grant_exclusive (kept_at s m.to m.block) m.block (node_at s m.to).now m.from content) shape flight.to flight.block t
      (seen.grant_exclusive (block_seen s t m.block) m.id) home
      (caches-noted (node_at s m.to).log (node_at s m.to).now m.block (WasHome content) (λ h. grind (arith, h)) late m.block) (record {
        at_home = refl;
        owner = λ p. (seen_as GetS is p).from;
        home_content = refl;
        sharers = λ n. none_marked 16 n;
        kind = refl;
        requester = λ p. (seen_as GetS is p).from;
        begun = λ p. (node_at s (home p)).now;
        net = λ routes i. one-sent routes s.net m.id m.to (node_at s m.to).now m.block (send m.from (DataE content)) i
            (block.answer block.DataE (home_node s m.block) (net_seen m.block s.net.flights m.id).from
            (node_at s (home_node s m.block)).now 0 (content_of (home_of s m.block).holder)) shape.below
            (λ p. block.answer block.DataE (home p) (seen_as GetS is p).from (node_at s (home p)).now 0 (content_of (sym holder p)));
        next = λ routes. refl;
        named_home =
            λ j. (note_law Bool was_home (node_at s m.to).log (node_at s m.to).now m.block (WasHome content) true false late refl).cuts j
            ∙ (λ p. block.above (told_at was_home (node_at s (home p)).log true m.block (is_itself (sym holder p)))
            (node_at s (home p)).now false j);
        named = λ j. (note_law ℕ old_cache (node_at s m.to).log (node_at s m.to).now m.block (WasHome content) 0 m.from late refl).cuts j
            ∙ (λ p. block.above (told_at old_cache (node_at s (home p)).log true m.block (owner_of (sym holder p))) (node_at s (home p)).now
            (seen_as GetS is p).from j);
        home_held =
            λ j. (note_law (List ℕ) old_content (node_at s m.to).log (node_at s m.to).now m.block
            (WasHome content) content [] late refl).cuts j
            ∙ (λ p. block.above (told_at old_content (node_at s (home p)).log true m.block (content_of (sym holder p)))
            (node_at s (home p)).now [] j);
        home_last =
            (note_law Bool was_home (node_at s m.to).log (node_at s m.to).now m.block (WasHome content) true false late refl).newest
            ∙ (λ p. (node_at s (home p)).now + 1);
      })

  -- a message, and an Inv to each other sharer
  inv_seen : (routes : Switches) (first : Out) (msg : block.Message) (e : block.Block) →
      message_seen (message_of s.net m.to (node_at s m.to).now m.block first) first.body ≡ msg →
      e.net ≡ block.invalidates (block_seen s t m.block) m.id msg (other_targets (home_of s m.block).sharers m.from)
      (row.count_others (home_of s m.block).sharers m.from) → m.body ≡ GetM → (i : ℕ) →
      net_seen m.block (net_after_sends routes (without_flight s.net m.id) m.to (node_at s m.to).now m.block
      (first ∷ row.invalidations 0 (row.others (home_of s m.block).sharers m.from) m.from)).flights i
      ≡ net_losing e.net (lost_at_once
      (sent_by routes (without_flight s.net m.id) m.to (node_at s m.to).now m.block
      (first ∷ row.invalidations 0 (row.others (home_of s m.block).sharers m.from) m.from))) i
  inv_seen routes first msg e first_is nets is i =
      seen-invalidates routes s.net m.id m.to (node_at s m.to).now m.block first (row.others (home_of s m.block).sharers m.from) m.from i
      (block_seen s t m.block) e msg shape.below refl (sym home) (λ p. (node_at s (sym home p)).now)
      (sym (λ p. (seen_as GetM is p).from)) (λ j. refl) first_is (λ p. nets p i)
      ∙ (λ p. (losing_is e (lost_at_once
      (sent_by routes (without_flight s.net m.id) m.to (node_at s m.to).now m.block
      (first ∷ row.invalidations 0 (row.others (home_of s m.block).sharers m.from) m.from))) p).net i)

  pub take-seen : (content : List ℕ) → m.body ≡ GetM → (home_of s m.block).holder ≡ Itself content →
      logged_to (node_at s m.to).log true m.block ≤ (node_at s m.to).now + 1 →
      IsHomeRow s t m (row.take (kept_at s m.to m.block) m.block (node_at s m.to).now m.from content)
      (seen.take (block_seen s t m.block) m.id (other_targets (home_of s m.block).sharers m.from)
      (row.count_others (home_of s m.block).sharers m.from))
  take-seen content is holder late =
      own-seen s m (row.take (kept_at s m.to m.block) m.block (node_at s m.to).now m.from content) shape flight.to flight.block t
      (seen.take (block_seen s t m.block) m.id (other_targets (home_of s m.block).sharers m.from)
      (row.count_others (home_of s m.block).sharers m.from)) home
      (caches-noted (node_at s m.to).log (node_at s m.to).now m.block (WasHome content) (λ h. grind (arith, h)) late m.block) (record {
        at_home = refl;
        owner = λ p. (seen_as GetM is p).from;
        home_content = refl;
        sharers = λ n. none_marked 16 n;
        kind = refl;
        requester = λ p. (seen_as GetM is p).from;
        begun = λ p. (node_at s (home p)).now;
        net =
            λ routes i. inv_seen routes (send m.from (DataM content (row.count_others (home_of s m.block).sharers m.from)))
            (block.answer block.DataM (home_node s m.block) (net_seen m.block s.net.flights m.id).from (node_at s (home_node s m.block)).now
            (row.count_others (home_of s m.block).sharers m.from) (content_of (home_of s m.block).holder))
            (seen.take (block_seen s t m.block) m.id (other_targets (home_of s m.block).sharers m.from)
            (row.count_others (home_of s m.block).sharers m.from))
            (λ p. block.answer block.DataM (home p) (seen_as GetM is p).from (node_at s (home p)).now
            (row.count_others (home_of s m.block).sharers m.from) (content_of (sym holder p))) refl is i;
        next =
            λ routes. next-invalidates routes s.net m.id m.to (node_at s m.to).now m.block
            (send m.from (DataM content (row.count_others (home_of s m.block).sharers m.from)))
            (row.others (home_of s m.block).sharers m.from) m.from;
        named_home =
            λ j. (note_law Bool was_home (node_at s m.to).log (node_at s m.to).now m.block (WasHome content) true false late refl).cuts j
            ∙ (λ p. block.above (told_at was_home (node_at s (home p)).log true m.block (is_itself (sym holder p)))
            (node_at s (home p)).now false j);
        named = λ j. (note_law ℕ old_cache (node_at s m.to).log (node_at s m.to).now m.block (WasHome content) 0 m.from late refl).cuts j
            ∙ (λ p. block.above (told_at old_cache (node_at s (home p)).log true m.block (owner_of (sym holder p))) (node_at s (home p)).now
            (seen_as GetM is p).from j);
        home_held =
            λ j. (note_law (List ℕ) old_content (node_at s m.to).log (node_at s m.to).now m.block
            (WasHome content) content [] late refl).cuts j
            ∙ (λ p. block.above (told_at old_content (node_at s (home p)).log true m.block (content_of (sym holder p)))
            (node_at s (home p)).now [] j);
        home_last =
            (note_law Bool was_home (node_at s m.to).log (node_at s m.to).now m.block (WasHome content) true false late refl).newest
            ∙ (λ p. (node_at s (home p)).now + 1);
      })

  pub move_ownership-seen : (owner : ℕ) → m.body ≡ GetM → (home_of s m.block).holder ≡ OfCache owner →
      IsHomeRow s t m (row.move_ownership (kept_at s m.to m.block) (node_at s m.to).now m.from owner)
      (seen.move_ownership (block_seen s t m.block) m.id (other_targets (home_of s m.block).sharers m.from)
      (row.count_others (home_of s m.block).sharers m.from))
  move_ownership-seen owner is holder =
      own-seen s m (row.move_ownership (kept_at s m.to m.block) (node_at s m.to).now m.from owner) shape flight.to flight.block t
      (seen.move_ownership (block_seen s t m.block) m.id (other_targets (home_of s m.block).sharers m.from)
      (row.count_others (home_of s m.block).sharers m.from)) home (same_caches (node_at s m.to).log m.block) (record {
        at_home = refl;
        owner = refl;
        home_content = refl;
        sharers = λ n. none_marked 16 n;
        kind = refl;
        requester = λ p. (seen_as GetM is p).from;
        begun = λ p. (node_at s (home p)).now;
        net =
            λ routes i. inv_seen routes (send owner (FwdGetM m.from (row.count_others (home_of s m.block).sharers m.from)))
            (block.forward block.FwdGetM (home_node s m.block) (owner_of (home_of s m.block).holder) (node_at s (home_node s m.block)).now
            (net_seen m.block s.net.flights m.id).from (row.count_others (home_of s m.block).sharers m.from))
            (seen.move_ownership (block_seen s t m.block) m.id (other_targets (home_of s m.block).sharers m.from)
            (row.count_others (home_of s m.block).sharers m.from))
            (λ p. block.forward block.FwdGetM (home p) (owner_of (sym holder p)) (node_at s (home p)).now (seen_as GetM is p).from
            (row.count_others (home_of s m.block).sharers m.from)) refl is i;
        next =
            λ routes. next-invalidates routes s.net m.id m.to (node_at s m.to).now m.block
            (send owner (FwdGetM m.from (row.count_others (home_of s m.block).sharers m.from)))
            (row.others (home_of s m.block).sharers m.from) m.from;
        named_home = λ j p. told_at was_home (node_at s (home p)).log true m.block (is_itself (home_of s m.block).holder) j;
        named = λ j p. told_at old_cache (node_at s (home p)).log true m.block (owner_of (home_of s m.block).holder) j;
        home_held = λ j p. told_at old_content (node_at s (home p)).log true m.block (content_of (home_of s m.block).holder) j;
        home_last = λ p. logged_to (node_at s (home p)).log true m.block;
      })

  pub upgrade-seen : m.body ≡ GetM →
      IsHomeRow s t m (row.upgrade (kept_at s m.to m.block) (node_at s m.to).now m.from)
      (seen.upgrade (block_seen s t m.block) m.id (other_targets (home_of s m.block).sharers m.from)
      (row.count_others (home_of s m.block).sharers m.from))
  upgrade-seen is = own-seen s m (row.upgrade (kept_at s m.to m.block) (node_at s m.to).now m.from) shape flight.to flight.block t
      (seen.upgrade (block_seen s t m.block) m.id (other_targets (home_of s m.block).sharers m.from)
      (row.count_others (home_of s m.block).sharers m.from)) home (same_caches (node_at s m.to).log m.block) (record {
        at_home = refl;
        owner = refl;
        home_content = refl;
        sharers = λ n. none_marked 16 n;
        kind = refl;
        requester = λ p. (seen_as GetM is p).from;
        begun = λ p. (node_at s (home p)).now;
        net =
            λ routes i. inv_seen routes (send m.from (UpgOk (row.count_others (home_of s m.block).sharers m.from)))
            (block.answer block.UpgOk (home_node s m.block) (net_seen m.block s.net.flights m.id).from (node_at s (home_node s m.block)).now
            (row.count_others (home_of s m.block).sharers m.from) [])
            (seen.upgrade (block_seen s t m.block) m.id (other_targets (home_of s m.block).sharers m.from)
            (row.count_others (home_of s m.block).sharers m.from))
            (λ p. block.answer block.UpgOk (home p) (seen_as GetM is p).from (node_at s (home p)).now
            (row.count_others (home_of s m.block).sharers m.from) []) refl is i;
        next =
            λ routes. next-invalidates routes s.net m.id m.to (node_at s m.to).now m.block
            (send m.from (UpgOk (row.count_others (home_of s m.block).sharers m.from)))
            (row.others (home_of s m.block).sharers m.from) m.from;
        named_home = λ j p. told_at was_home (node_at s (home p)).log true m.block (is_itself (home_of s m.block).holder) j;
        named = λ j p. told_at old_cache (node_at s (home p)).log true m.block (owner_of (home_of s m.block).holder) j;
        home_held = λ j p. told_at old_content (node_at s (home p)).log true m.block (content_of (home_of s m.block).holder) j;
        home_last = λ p. logged_to (node_at s (home p)).log true m.block;
      })

  -- Unblock: of a Move ..
  unblock_move-row : (fixed r owner : ℕ) → m.body ≡ Unblock fixed → r ≡ m.from → (home_of s m.block).holder ≡ OfCache owner →
      logged_to (node_at s m.to).log true m.block ≤ fixed + 1 →
      IsHomeRow s t m (record {
        after = row.without_transaction
            (record {
              entry = record (home_of s m.block) { holder = OfCache r };
              log = row.noted_owner (node_at s m.to).log fixed m.block (home_of s m.block).holder;
            });
        sends = [];
      })
      (seen.unblock_move (block_seen s t m.block) m.id)
  unblock_move-row fixed r owner is from holder late =
      own-seen s m (record {
        after = row.without_transaction
            (record {
              entry = record (home_of s m.block) { holder = OfCache r };
              log = row.noted_owner (node_at s m.to).log fixed m.block (home_of s m.block).holder;
            });
        sends = [];
      }) shape flight.to flight.block t
      (seen.unblock_move (block_seen s t m.block) m.id) home
      (caches-noted_owner (node_at s m.to).log fixed m.block (home_of s m.block).holder late m.block) (record {
        at_home = λ p. is_itself (sym holder p);
        owner = from ∙ (λ p. (seen_as (Unblock fixed) is p).from);
        home_content = λ p. content_of (sym holder p);
        sharers = λ n. refl;
        kind = refl;
        requester = refl;
        begun = refl;
        net = λ routes i. none-sent routes s.net m.id m.to (node_at s m.to).now m.block i;
        next = λ routes. refl;
        named_home =
            λ j. (λ p. told_at was_home (row.noted_owner (node_at s m.to).log fixed m.block (holder p)) true m.block false j)
            ∙ (note_law Bool was_home (node_at s m.to).log fixed m.block (WasCache owner) false false late refl).cuts j
            ∙ (λ p. block.above (told_at was_home (node_at s (home p)).log true m.block (is_itself (sym holder p)))
            (seen_as (Unblock fixed) is p).number false j);
        named =
            λ j. (λ p. told_at old_cache (row.noted_owner (node_at s m.to).log fixed m.block (holder p)) true m.block r j)
            ∙ (note_law ℕ old_cache (node_at s m.to).log fixed m.block (WasCache owner) owner r late refl).cuts j
            ∙ (λ p. block.above (told_at old_cache (node_at s (home p)).log true m.block (owner_of (sym holder p)))
            (seen_as (Unblock fixed) is p).number ((from ∙ (λ q. (seen_as (Unblock fixed) is q).from)) p) j);
        home_held =
            λ j. (λ p. told_at old_content (row.noted_owner (node_at s m.to).log fixed m.block (holder p)) true m.block [] j)
            ∙ (note_law (List ℕ) old_content (node_at s m.to).log fixed m.block (WasCache owner) [] [] late refl).cuts j
            ∙ (λ p. block.above (told_at old_content (node_at s (home p)).log true m.block (content_of (sym holder p)))
            (seen_as (Unblock fixed) is p).number [] j);
        home_last =
            (λ p. logged_to (row.noted_owner (node_at s m.to).log fixed m.block (holder p)) true m.block)
            ∙ (note_law Bool was_home (node_at s m.to).log fixed m.block (WasCache owner) false false late refl).newest
            ∙ (λ p. (seen_as (Unblock fixed) is p).number + 1);
      })

  unblock_other-row : (fixed : ℕ) → m.body ≡ Unblock fixed →
      IsHomeRow s t m (record { after = row.without_transaction (kept_at s m.to m.block); sends = [] })
      (seen.unblock_other (block_seen s t m.block) m.id)
  unblock_other-row fixed is =
      own-seen s m (record { after = row.without_transaction (kept_at s m.to m.block); sends = [] }) shape flight.to flight.block t
      (seen.unblock_other (block_seen s t m.block) m.id) home (same_caches (node_at s m.to).log m.block) (record {
        at_home = refl;
        owner = refl;
        home_content = refl;
        sharers = λ n. refl;
        kind = refl;
        requester = refl;
        begun = refl;
        net = λ routes i. none-sent routes s.net m.id m.to (node_at s m.to).now m.block i;
        next = λ routes. refl;
        named_home = λ j p. told_at was_home (node_at s (home p)).log true m.block (is_itself (home_of s m.block).holder) j;
        named = λ j p. told_at old_cache (node_at s (home p)).log true m.block (owner_of (home_of s m.block).holder) j;
        home_held = λ j p. told_at old_content (node_at s (home p)).log true m.block (content_of (home_of s m.block).holder) j;
        home_last = λ p. logged_to (node_at s (home p)).log true m.block;
      })

  -- .. and of any
  unblock_by : (fixed r begun : ℕ) (k : Kind) → m.body ≡ Unblock fixed → r ≡ m.from →
      (k ≡ kind.Move → is_itself (home_of s m.block).holder ≡ false) →
      (k ≡ kind.Move → logged_to (node_at s m.to).log true m.block ≤ fixed + 1) →
      IsHomeRow s t m (row.unblock (kept_at s m.to m.block) m.block fixed (Some (record { kind = k; requester = r; begun = begun })))
      (cond (seen.is_move (kind_seen k)) (seen.unblock_move (block_seen s t m.block) m.id)
      (seen.unblock_other (block_seen s t m.block) m.id))
  unblock_by fixed r begun kind.Move is from holder late =
      unblock_move-row fixed r (owner_of (home_of s m.block).holder) is from (of-cache (home_of s m.block).holder (holder refl)) (late refl)
  unblock_by fixed r begun kind.Read is from holder late = unblock_other-row fixed is
  unblock_by fixed r begun kind.Take is from holder late = unblock_other-row fixed is
  unblock_by fixed r begun kind.Upgrade is from holder late = unblock_other-row fixed is
  unblock_by fixed r begun kind.Put is from holder late = unblock_other-row fixed is

  -- the transaction is its sender's; the home names a cache in a Move, and its newest entry isn't above the Unblock's interval
  pub unblock-seen : (fixed : ℕ) (transaction : Transaction) → m.body ≡ Unblock fixed → (home_of s m.block).transaction ≡ Some transaction →
      transaction.requester ≡ m.from →
      (transaction.kind ≡ kind.Move → is_itself (home_of s m.block).holder ≡ false) →
      (transaction.kind ≡ kind.Move → logged_to (node_at s m.to).log true m.block ≤ fixed + 1) →
      IsHomeRow s t m (row.unblock (kept_at s m.to m.block) m.block fixed (home_of s m.block).transaction)
      (seen.unblock (block_seen s t m.block) m.id)
  unblock-seen fixed transaction is begun from holder late =
      subst (λ x. IsHomeRow s t m (row.unblock (kept_at s m.to m.block) m.block fixed x)
      (cond (seen.is_move (kind_open x)) (seen.unblock_move (block_seen s t m.block) m.id)
      (seen.unblock_other (block_seen s t m.block) m.id)))
      (sym begun) (unblock_by fixed transaction.requester transaction.begun transaction.kind is from holder late)

  -- whom a row asks to invalidate: each other sharer once, where no sharer's number is that of no node
  pub other_sharers-listed : (x : Body) → m.body ≡ x → (message_seen m x).from ≡ m.from →
      ((n : ℕ) → slice_index_or (home_of s m.block).sharers n false ≡ true → n < length s.nodes) →
      Lists (length s.nodes) (other_sharers (block_seen s t m.block) m.id) (other_targets (home_of s m.block).sharers m.from)
      (row.count_others (home_of s m.block).sharers m.from)
  other_sharers-listed x is e low =
      listed (length s.nodes) (other_sharers (block_seen s t m.block) m.id) (row.others (home_of s m.block).sharers m.from)
      (λ n. sym (marked n)) (λ n l. marked n ∙ above_all n l)
    where
      marked : (n : ℕ) → slice_index_or (row.others (home_of s m.block).sharers m.from) n false
          ≡ other_sharers (block_seen s t m.block) m.id n
      marked n =
          read_set (home_of s m.block).sharers m.from n false false
          (omega (arith, shape.sharers m.block flight.block, flight.from, shape.few))
          ∙ (λ p. cond (n == (sym e ∙ (λ q. (seen_as x is q).from)) p) false (slice_index_or (home_of s m.block).sharers n false))

      above_all : (n : ℕ) → length s.nodes ≤ n → other_sharers (block_seen s t m.block) m.id n ≡ false
      above_all n l = unmarked (n == (net_seen m.block s.net.flights m.id).from) (slice_index_or (home_of s m.block).sharers n false) refl
        where
          unmarked : (c d : Bool) → slice_index_or (home_of s m.block).sharers n false ≡ d → cond c false d ≡ false
          unmarked true d h = refl
          unmarked false true h = absurd (grind (arith, low n h))
          unmarked false false h = refl
