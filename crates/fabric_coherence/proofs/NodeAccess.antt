-- What a block sees of an access: a miss, a write.
use Rattle.std.proofs.lemmas.List.{get_or_past}
use Rattle.std.proofs.Common.{get_or-set_same, get_or-set_other, inl, inr, Some, ◌≡◌, ◌≢◌, ◌∙◌, ℕ, ◌+◌, ◌<◌, ◌≤◌, Bool, true, false, ◌||◌}
use Rattle.std.proofs.Common.{cond, List, [], length, refl, ap, sym, arith, ◌==◌, length-set, if◌then◌else◌, nat_eq}
use Rattle.std.proofs.lemmas.Bool.Decides.{nat_tests}
use Rattle.sn_base.specs.declared.block.Write.{Write}
use Rattle.sn_base.specs.declared.log.Old.TheVariants.{Owned as WasOwned}
use Rattle.log_buffer.specs.Log.{logged_to, log_with_note}
use Rattle.sn_model.specs.declared.cache.LineState.{LineState}
use Rattle.sn_model.specs.declared.cache.LineState.TheVariants as state
use Rattle.sn_model.specs.declared.cache.LineState.TheVariants.{Modified}
use Rattle.sn_coherence.proofs.Log.{note_law}
use Rattle.sn_model.specs.declared.cache.Need.{Need}
use Rattle.sn_model.specs.declared.cache.Need.TheVariants as need
use Rattle.sn_model.specs.Caches.{Cache, Line, line_of, is_owned, is_writable_state, with_line, no_line}
use Rattle.sn_model.specs.CacheRows.{send}
use Rattle.rv_core.specs.Core.{block_of as block_at}
use Rattle.sn_model.specs.Access.{step_of_miss, missing, request_for, new_miss, written_to, written_in, with_write, fabric_with_write}
use Rattle.sn_model.specs.Fabric.{Fabric, Node, node_at, home_node}
use Rattle.sn_msg.specs.declared.Body.TheVariants.{GetS, GetM}
use Rattle.sn_base.specs.declared.event.Answer.TheVariants.{Missed}
use Rattle.sn_coherence.specs.Block as miss
use Rattle.sn_coherence.specs.OtherEvents.{store, begin_read_miss, begin_write_miss, begin_miss_elsewhere, numbers_elsewhere}
use Rattle.sn_coherence.specs.Same.{IsSame}
use Rattle.sn_coherence.specs.Log.{was_owned, old_content, was_home, old_cache, told_at, NoteLaw}
use Rattle.fabric_coherence.specs.View.{GhostState, block_seen, line_seen, content_held, miss_seen, is_for_all, miss_here}
use Rattle.fabric_coherence.specs.Steps.{IsShaped, losing, lost_at_once}
use Rattle.fabric_coherence.specs.NodeSeen.{block_with_node, carried_by, IsSameAtHome}
use Rattle.fabric_coherence.proofs.NodeSeen.{same_then, set_self, set_with, node_changed, log_same, own_post, other_post, sends}
use Rattle.fabric_coherence.proofs.NodeSeen.{routes_with, sent_same, own_block, other_block}

-- a miss

request_seen : (need : Need) (b o : ℕ) → o ≢ b → (is_for_all (request_for need) || nat_eq b o) ≡ false
request_seen need.Read b o n = other_block b o n
request_seen need.Write b o n = other_block b o n

pub miss_on : (b o now : ℕ) (need : Need) → o ≢ b → miss_seen o (Some (new_miss b need now)) ≡ miss.new_miss miss.Elsewhere now
miss_on b o now need n = ap (λ c. if c then miss_here (new_miss b need now) else miss.new_miss miss.Elsewhere now) (other_block b o n)

module _ (s : Fabric) (t : GhostState) (n b : ℕ) (shape : IsShaped s) (l : n < length s.nodes) where
  pub read_miss-seen : IsSame (block_seen (step_of_miss s n b need.Read).fabric t b)
      (losing (begin_read_miss (block_seen s t b) n) (lost_at_once (step_of_miss s n b need.Read).sent))
  read_miss-seen =
      sent_same s t n b b (missing (node_at s n) b need.Read) (send (home_node s b) GetS) Missed l
      (log_same b (missing (node_at s n) b need.Read) (node_at s n) refl) refl (begin_read_miss (block_seen s t b) n)
      (grind (
        arith,
        nat_tests,
        own_post (routes_with s n (missing (node_at s n) b need.Read)) s.net (sends s n b (send (home_node s b) GetS)) b,
        own_block b,
        shape.below,
      ))

  pub write_miss-seen : IsSame (block_seen (step_of_miss s n b need.Write).fabric t b)
      (losing (begin_write_miss (block_seen s t b) n) (lost_at_once (step_of_miss s n b need.Write).sent))
  write_miss-seen =
      sent_same s t n b b (missing (node_at s n) b need.Write) (send (home_node s b) GetM) Missed l
      (log_same b (missing (node_at s n) b need.Write) (node_at s n) refl) refl (begin_write_miss (block_seen s t b) n)
      (grind (
        arith,
        nat_tests,
        own_post (routes_with s n (missing (node_at s n) b need.Write)) s.net (sends s n b (send (home_node s b) GetM)) b,
        own_block b,
        shape.below,
      ))

-- a miss on another block than b
pub other_miss-seen : (s : Fabric) (t : GhostState) (n b about : ℕ) (need : Need) → IsShaped s → n < length s.nodes → b ≢ about →
    IsSame (block_seen (step_of_miss s n about need).fabric t b)
    (losing (numbers_elsewhere (begin_miss_elsewhere (block_seen s t b) n) 1) (lost_at_once (step_of_miss s n about need).sent))
other_miss-seen s t n b about need shape l apart =
    sent_same s t n b about (missing (node_at s n) about need) (send (home_node s about) (request_for need)) Missed l
    (log_same b (missing (node_at s n) about need) (node_at s n) refl) refl
    (numbers_elsewhere (begin_miss_elsewhere (block_seen s t b) n) 1)
    (grind (
      arith,
      nat_tests,
      other_post (routes_with s n (missing (node_at s n) about need)) s.net (sends s n about (send (home_node s about) (request_for need))) b,
      request_seen need about b apart,
      miss_on about b (node_at s n).now need apart,
      shape.below,
    ))

-- a write

abbrev pub block_written : Write → ℕ
block_written w = block_at w.address

-- the lines after a write, where its line was made Modified
written_line : (cache : Cache) (content : List ℕ) (w : Write) → block_written w < length cache.lines →
    line_of (written_to (with_line cache (block_written w) Modified content) w) (block_written w)
    ≡ record { state = Modified; content = written_in content w }
written_line cache content w l =
    ap (λ (x : Line). line_of
    (with_line (with_line cache (block_written w) Modified content) (block_written w) x.state (written_in x.content w)) (block_written w))
    (get_or-set_same cache.lines (block_written w) (record { state = Modified; content = content }) no_line l)
    ∙ get_or-set_same (with_line cache (block_written w) Modified content).lines (block_written w)
    (record { state = Modified; content = written_in content w }) no_line (rw length-set l)

written_other : (cache : Cache) (o : ℕ) (content : List ℕ) (w : Write) → o ≢ block_written w →
    line_of (written_to (with_line cache (block_written w) Modified content) w) o ≡ line_of cache o
written_other cache o content w n =
    get_or-set_other (with_line cache (block_written w) Modified content).lines (block_written w) o _ no_line n
    ∙ get_or-set_other cache.lines (block_written w) o _ no_line n

-- a line that may be written is there, and owns its block
writable_owned : (state : LineState) → is_writable_state state ≡ true → is_owned state ≡ true
writable_owned state.Modified e = refl
writable_owned state.Exclusive e = refl
writable_owned state.Owned e = refl
writable_owned state.Shared e = e
writable_owned state.Absent e = e

writable_there : (cache : Cache) (b : ℕ) → is_writable_state (line_of cache b).state ≡ true → b < length cache.lines
writable_there cache b e = grind (arith, nat_tests, get_or_past cache.lines b no_line)

-- the home's side is no part of what a cache notes
noted_same : (b o now : ℕ) (content : List ℕ) (x y : Node) → x.log ≡ log_with_note y.log now b (WasOwned content) →
    (logged_to y.log false b ≤ now + 1) → IsSameAtHome o x y
noted_same b o now content x y e l = record {
  named_home =
      λ was j. ap (λ l. told_at was_home l true o was j) e
      ∙ (note_law Bool was_home y.log now b (WasOwned content) false false l refl).others true o j was (inl true_false);
  named =
      λ was j. ap (λ l. told_at old_cache l true o was j) e
      ∙ (note_law ℕ old_cache y.log now b (WasOwned content) 0 0 l refl).others true o j was (inl true_false);
  held =
      λ was j. ap (λ l. told_at old_content l true o was j) e
      ∙ (note_law (List ℕ) old_content y.log now b (WasOwned content) content content l refl).others true o j was (inl true_false);
  newest =
      ap (λ l. logged_to l true o) e
      ∙ (note_law Bool was_owned y.log now b (WasOwned content) true true l refl).others_newest true o (inl true_false);
}
  where
    true_false : true ≢ false
    true_false e = cc

abbrev pub old_line : Fabric → ℕ → ℕ → Line
old_line s n b = line_of (node_at s n).cache b

module _ (s : Fabric) (t : GhostState) (n : ℕ) (w : Write) (l : n < length s.nodes)
    (writable : is_writable_state (old_line s n (block_written w)).state ≡ true)
    (newest : logged_to (node_at s n).log false (block_written w) ≤ (node_at s n).now + 1) where
  abbrev b : ℕ
  b = block_written w

  abbrev old : Line
  old = old_line s n b

  abbrev written : Node
  written = with_write (node_at s n) w

  line_is : line_of written.cache b ≡ record { state = Modified; content = written_in old.content w }
  line_is = written_line (node_at s n).cache old.content w (writable_there (node_at s n).cache b writable)

  owned_noted : NoteLaw Bool was_owned (node_at s n).log (node_at s n).now b (WasOwned old.content) (is_owned old.state) true
  owned_noted =
      note_law Bool was_owned (node_at s n).log (node_at s n).now b (WasOwned old.content) (is_owned old.state) true newest
      (sym (writable_owned old.state writable))

  content_noted : NoteLaw (List ℕ) old_content (node_at s n).log (node_at s n).now b (WasOwned old.content) (content_held old)
      (written_in old.content w)
  content_noted =
      note_law (List ℕ) old_content (node_at s n).log (node_at s n).now b (WasOwned old.content) (content_held old)
      (written_in old.content w) newest
      (sym (ap (λ c. if c then old.content else []) (writable_owned old.state writable)))

  written_own : IsSame (carried_by (block_with_node (block_seen s t b) b n written) b s.net) (store (block_seen s t b) n (written_in old.content w))
  written_own = record {
    point = refl;
    home = refl;
    now = λ m. set_self (block_seen s t b).now n m _ refl;
    known = λ m. set_self (block_seen s t b).known n m _ refl;
    line = λ m. set_with (block_seen s t b).line n m _ _ (ap (λ x. line_seen x.state) line_is);
    content = λ m. set_with (block_seen s t b).content n m _ _ (ap (λ x. x.content) line_is);
    miss = λ m. set_self (block_seen s t b).miss n m _ refl;
    putting = λ m. set_self (block_seen s t b).putting n m _ refl;
    put_issued = λ m. set_self (block_seen s t b).put_issued n m _ refl;
    at_home = refl;
    owner = refl;
    home_content = refl;
    sharers = λ m. refl;
    kind = refl;
    requester = refl;
    begun = refl;
    net = λ i. refl;
    next = refl;
    holds =
        λ m j. ap (λ x. cond (m == n) x ((block_seen s t b).holds m j))
        (ap (λ x. told_at was_owned written.log false b (is_owned x.state) j) line_is ∙ owned_noted.cuts j);
    held =
        λ m j. ap (λ x. cond (m == n) x ((block_seen s t b).held m j))
        (ap (λ x. told_at old_content written.log false b (content_held x) j) line_is ∙ content_noted.cuts j);
    last = λ m. set_with (block_seen s t b).last n m _ _ owned_noted.newest;
    named_home = λ j. refl;
    named = λ j. refl;
    home_held = λ j. refl;
    home_last = refl;
    stage = refl;
    at = refl;
    waited = λ m. refl;
    framed = λ m j. refl;
  }

  module _ (o : ℕ) (apart : o ≢ b) where
    other_line : line_of written.cache o ≡ old_line s n o
    other_line = written_other (node_at s n).cache o old.content w apart

    written_elsewhere : IsSame (carried_by (block_with_node (block_seen s t o) o n written) o s.net) (block_seen s t o)
    written_elsewhere = record {
      point = refl;
      home = refl;
      now = λ m. set_self (block_seen s t o).now n m _ refl;
      known = λ m. set_self (block_seen s t o).known n m _ refl;
      line = λ m. set_self (block_seen s t o).line n m _ (ap (λ x. line_seen x.state) other_line);
      content = λ m. set_self (block_seen s t o).content n m _ (ap (λ x. x.content) other_line);
      miss = λ m. set_self (block_seen s t o).miss n m _ refl;
      putting = λ m. set_self (block_seen s t o).putting n m _ refl;
      put_issued = λ m. set_self (block_seen s t o).put_issued n m _ refl;
      at_home = refl;
      owner = refl;
      home_content = refl;
      sharers = λ m. refl;
      kind = refl;
      requester = refl;
      begun = refl;
      net = λ i. refl;
      next = refl;
      holds =
          λ m j. set_self (λ k. (block_seen s t o).holds k j) n m _
          (ap (λ x. told_at was_owned written.log false o (is_owned x.state) j) other_line
          ∙ owned_noted.others false o j (is_owned (old_line s n o).state) (inr apart));
      held =
          λ m j. set_self (λ k. (block_seen s t o).held k j) n m _
          (ap (λ x. told_at old_content written.log false o (content_held x) j) other_line
          ∙ content_noted.others false o j (content_held (old_line s n o)) (inr apart));
      last = λ m. set_self (block_seen s t o).last n m _ (owned_noted.others_newest false o (inr apart));
      named_home = λ j. refl;
      named = λ j. refl;
      home_held = λ j. refl;
      home_last = refl;
      stage = refl;
      at = refl;
      waited = λ m. refl;
      framed = λ m j. refl;
    }

  -- a write is a store on its block, where the line may be written and no entry of the cache's side lies above the node's
  -- interval; other blocks don't see it
  pub store-seen : IsSame (block_seen (fabric_with_write s n w) t b) (store (block_seen s t b) n (written_in old.content w))
  store-seen = same_then _ (carried_by (block_with_node (block_seen s t b) b n written) b s.net) _
      (node_changed s t n b written s.net l (noted_same b b (node_at s n).now old.content written (node_at s n) refl newest)) written_own

  pub other_store-seen : (o : ℕ) → o ≢ b → IsSame (block_seen (fabric_with_write s n w) t o) (block_seen s t o)
  other_store-seen o apart = same_then _ (carried_by (block_with_node (block_seen s t o) o n written) o s.net) _
      (node_changed s t n o written s.net l (noted_same b o (node_at s n).now old.content written (node_at s n) refl newest))
      (written_elsewhere o apart)
