-- Each row of a cache is, for its own block, the block's row.
use Rattle.std.proofs.Common.{◌≡◌, ◌∙◌, ℕ, ◌+◌, ◌≤◌, Bool, true, false, cond, refl, sym, ap, ◌==◌, Some, None}
use Rattle.std.specs.Prelude.{if◌then◌else◌, List, [], slice_set, slice_index_or}
use Rattle.sn_msg.specs.declared.Message.{Message}
use Rattle.sn_msg.specs.declared.Body.TheVariants.{FwdGetS, FwdGetM, Inv, DataS, DataM, InvAck, PutGo, PutData, PutDone}
use Rattle.sn_base.specs.declared.log.Old.TheVariants.{Owned as WasOwned}
use Rattle.log_buffer.specs.Log.{logged_to}
use Rattle.sn_model.specs.declared.cache.LineState.TheVariants.{Owned}
use Rattle.sn_model.specs.Caches.{Line, line_of, is_owned, is_present, no_line}
use Rattle.sn_model.specs.Fabric.{Fabric, node_at, home_node}
use Rattle.sn_model.specs.NetEvents.{logged_at}
use Rattle.sn_model.specs.CacheRows.{forward_read, forward_write, invalidate, put_go, put_done, send, given_up, MayForward}
use Rattle.sn_coherence.specs.Block as block
use Rattle.sn_coherence.specs.Log.{was_owned, old_content, told_at, NoteLaw}
use Rattle.sn_coherence.specs.CacheRows as rows
use Rattle.sn_coherence.proofs.Log.{note_law}
use Rattle.fabric_coherence.specs.View.{GhostState, block_seen, message_seen}
use Rattle.fabric_coherence.specs.Steps.{IsShaped, IsInFlight}
use Rattle.fabric_coherence.specs.CacheSeen.{IsOwnRow}
use Rattle.fabric_coherence.proofs.CacheSeen.{set_kept, home_side_same, home_side_noted_owned}
use Rattle.fabric_coherence.proofs.CacheSends.{line_written, one_sent, none_sent}

module _ (s : Fabric) (t : GhostState) (m : Message) (shape : IsShaped s) (flight : IsInFlight s m) where
  abbrev pub here : block.Block
  here = block_seen s t m.block

  abbrev pub line_here : Line
  line_here = line_of (node_at s m.to).cache m.block

  -- what the node's log says of the block at cut j
  abbrev pub says_owned : Bool → ℕ → Bool
  says_owned now j = told_at was_owned (node_at s m.to).log false m.block now j

  abbrev pub says_content : List ℕ → ℕ → List ℕ
  says_content now j = told_at old_content (node_at s m.to).log false m.block now j

  pub written : (line : Line) → slice_index_or (slice_set (node_at s m.to).cache.lines m.block line) m.block no_line ≡ line
  written line = line_written s t m shape flight (node_at s m.to).cache.lines line (shape.lines m.to flight.to)

  -- where nothing is noted, and the line is owned as before
  pub holds_same : (now : Bool) (n j : ℕ) → is_owned line_here.state ≡ now →
      block.set_row here.holds m.to (says_owned now) n j ≡ here.holds n j
  holds_same now n j e = set_kept (λ k. here.holds k j) m.to (says_owned now j) n (ap (λ x. says_owned x j) (sym e))

  pub held_same : (owned : Bool) (n j : ℕ) → is_owned line_here.state ≡ owned →
      block.set_row here.held m.to (says_content (if owned then line_here.content else [])) n j ≡ here.held n j
  held_same owned n j e =
      set_kept (λ k. here.held k j) m.to (says_content (if owned then line_here.content else []) j) n
      (ap (λ x. says_content (if x then line_here.content else []) j) (sym e))

  module _ (r : ℕ) (is : m.body ≡ FwdGetS r) (may : MayForward (logged_at s m.to) m.block) where
    forwarded_read : block.forward block.FwdGetS m.from m.to m.tag r 0 ≡ here.net m.id
    forwarded_read = sym (flight.seen ∙ ap (message_seen m) is)

    pub forward_read-seen : IsOwnRow s t m (forward_read (logged_at s m.to) m.block r) (rows.forward_read here m.id)
    forward_read-seen =
        one_sent s t m shape flight (forward_read (logged_at s m.to) m.block r).after
        (record { state = Owned; content = line_here.content }) (rows.forward_read here m.id)
        (written (record { state = Owned; content = line_here.content })) (home_side_same (node_at s m.to).log m.block)
        (send r (DataS line_here.content)) None (record {
          line = λ n. ap (λ x. block.set here.line x.to block.Owned n) forwarded_read;
          content = λ n. set_kept here.content m.to line_here.content n refl;
          miss = λ n. set_kept here.miss m.to (here.miss m.to) n refl;
          putting = λ n. set_kept here.putting m.to (here.putting m.to) n refl;
          put_issued = λ n. set_kept here.put_issued m.to (here.put_issued m.to) n refl;
          net =
              λ i. ap (λ x. block.net_with_reply here m.id
              (block.answer block.DataS x.to x.requester (here.now x.to) 0 (here.content x.to)) i) forwarded_read;
          next = refl;
          holds = λ n j. holds_same true n j may;
          held = λ n j. held_same true n j may;
          last = λ n. set_kept here.last m.to (here.last m.to) n refl;
        })

  -- a note of the content that is given up, and of nothing that is taken over
  module _ (may : is_owned line_here.state ≡ true) (low : logged_to (node_at s m.to).log false m.block ≤ (node_at s m.to).now + 1) where
    up_holds : NoteLaw Bool was_owned (node_at s m.to).log (node_at s m.to).now m.block (WasOwned line_here.content) true false
    up_holds = note_law Bool was_owned (node_at s m.to).log (node_at s m.to).now m.block (WasOwned line_here.content) true false low refl

    up_held : NoteLaw (List ℕ) old_content (node_at s m.to).log (node_at s m.to).now m.block
        (WasOwned line_here.content) line_here.content []
    up_held =
        note_law (List ℕ) old_content (node_at s m.to).log (node_at s m.to).now m.block
        (WasOwned line_here.content) line_here.content [] low refl

    given_holds : (n j : ℕ) →
        block.set_row here.holds m.to
        (told_at was_owned (given_up (logged_at s m.to) m.block (node_at s m.to).now).log false m.block false) n j
        ≡ block.set_row here.holds m.to (block.above (here.holds m.to) (here.now m.to) false) n j
    given_holds n j =
        ap (λ x. cond (n == m.to) x (here.holds n j))
        (up_holds.cuts j ∙ ap (λ x. block.above (says_owned x) (here.now m.to) false j) (sym may))

    given_held : (n j : ℕ) →
        block.set_row here.held m.to
        (told_at old_content (given_up (logged_at s m.to) m.block (node_at s m.to).now).log false m.block []) n j
        ≡ block.set_row here.held m.to (block.above (here.held m.to) (here.now m.to) []) n j
    given_held n j =
        ap (λ x. cond (n == m.to) x (here.held n j))
        (up_held.cuts j ∙ ap (λ x. block.above (says_content (if x then line_here.content else [])) (here.now m.to) [] j) (sym may))

    module _ (r a : ℕ) (is : m.body ≡ FwdGetM r a) where
      forwarded_write : block.forward block.FwdGetM m.from m.to m.tag r a ≡ here.net m.id
      forwarded_write = sym (flight.seen ∙ ap (message_seen m) is)

      pub forward_write-seen : IsOwnRow s t m (forward_write (logged_at s m.to) m.block (node_at s m.to).now r a)
          (rows.forward_write here m.id)
      forward_write-seen =
          one_sent s t m shape flight (forward_write (logged_at s m.to) m.block (node_at s m.to).now r a).after no_line
          (rows.forward_write here m.id)
          (written no_line) (home_side_noted_owned (node_at s m.to).log (node_at s m.to).now m.block line_here.content m.block low)
          (send r (DataM line_here.content a)) (Some m.block) (record {
            line = λ n. ap (λ x. block.set here.line x.to block.NoLine n) forwarded_write;
            content = λ n. ap (λ x. block.set here.content x.to [] n) forwarded_write;
            miss = λ n. set_kept here.miss m.to (here.miss m.to) n refl;
            putting = λ n. set_kept here.putting m.to (here.putting m.to) n refl;
            put_issued = λ n. set_kept here.put_issued m.to (here.put_issued m.to) n refl;
            net =
                λ i. ap (λ x. block.net_with_reply here m.id
                (block.answer block.DataM x.to x.requester (here.now x.to) x.due (here.content x.to)) i) forwarded_write;
            next = refl;
            holds =
                λ n j. given_holds n j ∙ ap
                (λ x. block.set_row here.holds x.to (block.above (here.holds x.to) (here.now x.to) false) n j) forwarded_write;
            held =
                λ n j. given_held n j ∙ ap
                (λ x. block.set_row here.held x.to (block.above (here.held x.to) (here.now x.to) []) n j) forwarded_write;
            last =
                λ n. ap (λ x. block.set here.last m.to x n) up_holds.newest
                ∙ ap (λ x. block.set here.last x.to (here.now x.to + 1) n) forwarded_write;
          })

    module _ (is : m.body ≡ PutGo) where
      put_granted : block.plain block.PutGo m.from m.to m.tag ≡ here.net m.id
      put_granted = sym (flight.seen ∙ ap (message_seen m) is)

      pub put_go-seen : IsOwnRow s t m (put_go (logged_at s m.to) (home_node s m.block) m.block (node_at s m.to).now)
          (rows.put_go here m.id)
      put_go-seen =
          one_sent s t m shape flight (put_go (logged_at s m.to) (home_node s m.block) m.block (node_at s m.to).now).after no_line
          (rows.put_go here m.id)
          (written no_line) (home_side_noted_owned (node_at s m.to).log (node_at s m.to).now m.block line_here.content m.block low)
          (send (home_node s m.block) (PutData line_here.content)) (Some m.block) (record {
            line = λ n. ap (λ x. block.set here.line x.to block.NoLine n) put_granted;
            content = λ n. ap (λ x. block.set here.content x.to [] n) put_granted;
            miss = λ n. set_kept here.miss m.to (here.miss m.to) n refl;
            putting = λ n. ap (λ x. block.set here.putting x.to block.NoPut n) put_granted;
            put_issued = λ n. ap (λ x. block.set here.put_issued x.to 0 n) put_granted;
            net =
                λ i. ap (λ x. block.net_with_reply here m.id
                (block.answer block.PutData x.to here.home (here.now x.to) 0 (here.content x.to)) i) put_granted;
            next = refl;
            holds =
                λ n j. given_holds n j ∙ ap
                (λ x. block.set_row here.holds x.to (block.above (here.holds x.to) (here.now x.to) false) n j) put_granted;
            held =
                λ n j. given_held n j ∙ ap
                (λ x. block.set_row here.held x.to (block.above (here.held x.to) (here.now x.to) []) n j) put_granted;
            last =
                λ n. ap (λ x. block.set here.last m.to x n) up_holds.newest
                ∙ ap (λ x. block.set here.last x.to (here.now x.to + 1) n) put_granted;
          })

  module _ (r : ℕ) (is : m.body ≡ Inv r) (may : is_owned line_here.state ≡ false) where
    invalidation : block.forward block.Inv m.from m.to m.tag r 0 ≡ here.net m.id
    invalidation = sym (flight.seen ∙ ap (message_seen m) is)

    pub invalidate-seen : IsOwnRow s t m (invalidate (logged_at s m.to) m.block r) (rows.invalidate here m.id)
    invalidate-seen = one_sent s t m shape flight (invalidate (logged_at s m.to) m.block r).after no_line (rows.invalidate here m.id)
        (written no_line) (home_side_same (node_at s m.to).log m.block) (send r InvAck)
        (if is_present line_here.state then Some m.block else None) (record {
          line = λ n. ap (λ x. block.set here.line x.to block.NoLine n) invalidation;
          content = λ n. ap (λ x. block.set here.content x.to [] n) invalidation;
          miss = λ n. set_kept here.miss m.to (here.miss m.to) n refl;
          putting = λ n. set_kept here.putting m.to (here.putting m.to) n refl;
          put_issued = λ n. set_kept here.put_issued m.to (here.put_issued m.to) n refl;
          net = λ i. ap (λ x. block.net_with_reply here m.id (block.plain block.InvAck x.to x.requester (here.now x.to)) i) invalidation;
          next = refl;
          holds = λ n j. holds_same false n j may;
          held = λ n j. held_same false n j may;
          last = λ n. set_kept here.last m.to (here.last m.to) n refl;
        })

  module _ (is : m.body ≡ PutDone) where
    put_refused : block.plain block.PutDone m.from m.to m.tag ≡ here.net m.id
    put_refused = sym (flight.seen ∙ ap (message_seen m) is)

    pub put_done-seen : IsOwnRow s t m (put_done (logged_at s m.to)) (rows.put_done here m.id)
    put_done-seen =
        none_sent s t m shape flight (put_done (logged_at s m.to)).after line_here (rows.put_done here m.id) refl
        (home_side_same (node_at s m.to).log m.block) None (record {
          line = λ n. set_kept here.line m.to (here.line m.to) n refl;
          content = λ n. set_kept here.content m.to line_here.content n refl;
          miss = λ n. set_kept here.miss m.to (here.miss m.to) n refl;
          putting = λ n. ap (λ x. block.set here.putting x.to block.NoPut n) put_refused;
          put_issued = λ n. ap (λ x. block.set here.put_issued x.to 0 n) put_refused;
          net = λ i. refl;
          next = refl;
          holds = λ n j. holds_same (is_owned line_here.state) n j refl;
          held = λ n j. held_same (is_owned line_here.state) n j refl;
          last = λ n. set_kept here.last m.to (here.last m.to) n refl;
        })
