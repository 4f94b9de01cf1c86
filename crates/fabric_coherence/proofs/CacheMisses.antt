-- Each row of a cache that answers a miss is, for its own block, the block's row.
use Rattle.std.proofs.Common.{◌≡◌, ◌∙◌, ℕ, ◌+◌, ◌≤◌, Bool, true, false, ◌&&◌, cond, length, refl, sym, ap, subst, ◌==◌, Option, Some, None}
use Rattle.std.proofs.Common.{length-set, arith}
use Rattle.std.proofs.lemmas.Bool.Decides.{nat_tests}
use Rattle.std.specs.Prelude.{if◌then◌else◌, List, [], slice_set, nat_eq, is_some}
use Rattle.sn_msg.specs.declared.Message.{Message}
use Rattle.sn_msg.specs.declared.Body.TheVariants.{DataS, DataM, DataE, UpgOk, InvAck}
use Rattle.sn_base.specs.declared.log.Old.TheVariants.{NotOwned}
use Rattle.log_buffer.specs.Log.{logged_to}
use Rattle.sn_model.specs.declared.cache.LineState.{LineState}
use Rattle.sn_model.specs.declared.cache.LineState.TheVariants.{Absent, Shared, Owned, Modified, Exclusive}
use Rattle.sn_model.specs.declared.cache.Need.{Need}
use Rattle.sn_model.specs.declared.cache.Need.TheVariants.{Read, Write}
use Rattle.sn_model.specs.Caches.{Line, Miss, line_of, is_owned, with_line, block_count}
use Rattle.sn_model.specs.Fabric.{Fabric, node_at, home_node}
use Rattle.sn_model.specs.NetEvents.{logged_at}
use Rattle.sn_model.specs.CacheRows.{Logged, reply_when_complete, reply_that_waits, reply_or_wait, reply_or_wait_by, fixed_at, miss_with_ack}
use Rattle.sn_model.specs.CacheRows.{with_miss, taken_over, line_when_done, is_absent_or_shared, AwaitsAnswer, data_shared, data_modified}
use Rattle.sn_model.specs.CacheRows.{data_exclusive, upgrade_granted, acknowledge, MayTakeCopy, MayTakeOwnership, MayUpgrade, MayCount}
use Rattle.sn_coherence.specs.Block as block
use Rattle.sn_coherence.specs.Log.{was_owned, old_content, told_at, NoteLaw}
use Rattle.sn_coherence.specs.CacheRows as rows
use Rattle.sn_coherence.proofs.Log.{note_law}
use Rattle.fabric_coherence.specs.View.{GhostState, message_seen, miss_seen, miss_here, line_seen, wants, or_zero}
use Rattle.fabric_coherence.specs.Steps.{IsShaped, IsInFlight}
use Rattle.fabric_coherence.specs.CacheSeen.{IsOwnRow}
use Rattle.fabric_coherence.proofs.CacheSeen.{set_kept, home_side_same, home_side_noted_not}
use Rattle.fabric_coherence.proofs.CacheSends.{none_sent, complete_seen, miss_is}
use Rattle.fabric_coherence.proofs.CacheRows.{here, line_here, says_owned, says_content, written, holds_same, held_same}

-- an open miss that awaits its answer
pub awaited : (o : Option Miss) (b : ℕ) (need : Need) (P : Type 0) → AwaitsAnswer o b need →
    ((miss : Miss) → o ≡ Some miss → miss.block ≡ b → miss.need ≡ need → P) → P
awaited None b need P may f = absurd may
awaited (Some miss) b need P may f = f miss refl may.0 may.1

pub counted : (o : Option Miss) (b : ℕ) (P : Type 0) → MayCount o b → ((miss : Miss) → o ≡ Some miss → miss.block ≡ b → P) → P
counted None b P may f = absurd may
counted (Some miss) b P may f = f miss refl may.0

pub eq_same : (a b : ℕ) → (a == b) ≡ nat_eq a b
eq_same a b = grind (arith, nat_tests)

not_owned : (state : LineState) → is_absent_or_shared state ≡ true → is_owned state ≡ false
not_owned Absent e = refl
not_owned Shared e = refl
not_owned Owned e = grind arith
not_owned Modified e = grind arith
not_owned Exclusive e = grind arith

-- an owned line when its miss is done
done_owned : (state : LineState) (need : Need) → is_owned state ≡ true → is_owned (line_when_done state need) ≡ true
done_owned state Read e = e
done_owned Absent Write e = e
done_owned Shared Write e = refl
done_owned Owned Write e = refl
done_owned Modified Write e = refl
done_owned Exclusive Write e = refl

done_seen : (state : LineState) (need : Need) → is_owned state ≡ true →
    line_seen (line_when_done state need) ≡ cond (block.is_write (wants need)) block.Modified (line_seen state)
done_seen state Read e = refl
done_seen Absent Write e = grind arith
done_seen Shared Write e = grind arith
done_seen Owned Write e = refl
done_seen Modified Write e = refl
done_seen Exclusive Write e = refl

module _ (s : Fabric) (t : GhostState) (m : Message) (shape : IsShaped s) (flight : IsInFlight s m) where
  abbrev b : block.Block
  b = here s t m shape flight

  abbrev line : Line
  line = line_here s t m shape flight

  abbrev at : Logged
  at = logged_at s m.to

  abbrev home : ℕ
  home = home_node s m.block

  abbrev owned_says : Bool → ℕ → Bool
  owned_says = says_owned s t m shape flight

  abbrev content_says : List ℕ → ℕ → List ℕ
  content_says = says_content s t m shape flight

  as_long : (l : Line) → length (slice_set (node_at s m.to).cache.lines m.block l) ≡ block_count
  as_long l = length-set (node_at s m.to).cache.lines m.block l ∙ shape.lines m.to flight.to

  module _ (miss : Miss) (open_is : (node_at s m.to).cache.miss ≡ Some miss) (on : miss.block ≡ m.block) where
    seen_miss : b.miss m.to ≡ miss_here miss
    seen_miss = miss_is s t m shape flight (node_at s m.to).cache.miss miss open_is on

    -- the miss as it is fixed, and whether all acknowledgements are in
    fixed_now : (a : ℕ) → miss_seen m.block (Some (record miss { fixed = Some m.tag; due = a })) ≡ rows.fixes (b.miss m.to) m.tag a
    fixed_now a =
        miss_is s t m shape flight (Some (record miss { fixed = Some m.tag; due = a }))
        (record miss { fixed = Some m.tag; due = a }) refl on ∙ ap (λ x. rows.fixes x m.tag a) (sym seen_miss)

    all_in : (a : ℕ) (x : block.Message) → m.to ≡ x.to → a ≡ x.due → nat_eq miss.acks a ≡ ((b.miss x.to).acks == x.due)
    all_in a x to due =
        sym (eq_same miss.acks a) ∙ ap (λ y. y.acks == a) (sym seen_miss) ∙ ap (λ n. (b.miss n).acks == a) to
        ∙ ap (λ d. (b.miss x.to).acks == d) due

    -- DataS
    module _ (content : List ℕ) (is : m.body ≡ DataS content) (need : miss.need ≡ Read) (absent : line.state ≡ Absent) (acks : (b.miss m.to).acks ≡ 0) where
      copy : block.answer block.DataS m.from m.to m.tag 0 content ≡ b.net m.id
      copy = sym (flight.seen ∙ ap (message_seen m) is)

      abbrev with_copy : Logged
      with_copy = record at { cache = with_line at.cache m.block Shared content }

      copy_reply : data_shared at home m.block m.tag content ≡ reply_when_complete with_copy home (record miss { fixed = Some m.tag; due = 0 }) m.tag
      copy_reply = ap (λ o. reply_or_wait with_copy home (fixed_at o m.tag 0)) open_is
          ∙ ap (λ x. if nat_eq x 0 then reply_when_complete with_copy home (record miss { fixed = Some m.tag; due = 0 }) m.tag
          else reply_that_waits with_copy (record miss { fixed = Some m.tag; due = 0 })) (ap (λ x. x.acks) (sym seen_miss) ∙ acks)

      copy_row : IsOwnRow s t m (reply_when_complete with_copy home (record miss { fixed = Some m.tag; due = 0 }) m.tag) (rows.data_shared b m.id)
      copy_row =
          complete_seen s t m shape flight with_copy (record miss { fixed = Some m.tag; due = 0 }) m.tag
          (record { state = Shared; content = content }) (rows.data_shared b m.id)
          on (as_long (record { state = Shared; content = content }))
          (written s t m shape flight (record { state = Shared; content = content })) (home_side_same (node_at s m.to).log m.block)
          (record {
            line =
                λ n. ap (λ x. block.set b.line m.to (line_seen (line_when_done Shared x)) n) need
                ∙ ap (λ x. block.set b.line x.to block.Shared n) copy;
            content = λ n. ap (λ x. block.set b.content x.to x.content n) copy;
            miss = λ n. ap (λ x. block.set b.miss x.to block.no_miss n) copy;
            putting = λ n. set_kept b.putting m.to (b.putting m.to) n refl;
            put_issued = λ n. set_kept b.put_issued m.to (b.put_issued m.to) n refl;
            net = λ i. ap (λ x. block.net_with_reply b m.id (rows.unblocks b x.to x.tag) i) copy;
            next = refl;
            holds =
                λ n j. ap (λ x. block.set_row b.holds m.to (owned_says (is_owned (line_when_done Shared x))) n j) need
                ∙ holds_same s t m shape flight false n j (ap is_owned absent);
            held =
                λ n j. ap (λ x. block.set_row b.held m.to
                (content_says (if is_owned (line_when_done Shared x) then content else [])) n j) need
                ∙ held_same s t m shape flight false n j (ap is_owned absent);
            last = λ n. set_kept b.last m.to (b.last m.to) n refl;
          })

      shared_row : IsOwnRow s t m (data_shared at home m.block m.tag content) (rows.data_shared b m.id)
      shared_row = subst (λ x. IsOwnRow s t m x (rows.data_shared b m.id)) (sym copy_reply) copy_row

    -- ownership that arrives
    module _ (content : List ℕ) (low : logged_to (node_at s m.to).log false m.block ≤ m.tag + 1) (free : is_owned line.state ≡ false) where
      over_holds : NoteLaw Bool was_owned (node_at s m.to).log m.tag m.block NotOwned false true
      over_holds = note_law Bool was_owned (node_at s m.to).log m.tag m.block NotOwned false true low refl

      over_held : NoteLaw (List ℕ) old_content (node_at s m.to).log m.tag m.block NotOwned [] content
      over_held = note_law (List ℕ) old_content (node_at s m.to).log m.tag m.block NotOwned [] content low refl

      taken_holds : (state : LineState) (n j : ℕ) →
          block.set_row b.holds m.to (told_at was_owned (taken_over at m.block m.tag state content).log false m.block true) n j
          ≡ block.set_row b.holds m.to (block.above (b.holds m.to) m.tag true) n j
      taken_holds state n j =
          ap (λ x. cond (n == m.to) x (b.holds n j)) (over_holds.cuts j ∙ ap (λ x. block.above (owned_says x) m.tag true j) (sym free))

      taken_held : (state : LineState) (n j : ℕ) →
          block.set_row b.held m.to (told_at old_content (taken_over at m.block m.tag state content).log false m.block content) n j
          ≡ block.set_row b.held m.to (block.above (b.held m.to) m.tag content) n j
      taken_held state n j =
          ap (λ x. cond (n == m.to) x (b.held n j))
          (over_held.cuts j ∙ ap (λ x. block.above (content_says (if x then line.content else [])) m.tag content j) (sym free))

      -- DataE
      module _ (is : m.body ≡ DataE content) (need : miss.need ≡ Read) (acks : (b.miss m.to).acks ≡ 0) where
        alone : block.answer block.DataE m.from m.to m.tag 0 content ≡ b.net m.id
        alone = sym (flight.seen ∙ ap (message_seen m) is)

        abbrev exclusive : Logged
        exclusive = taken_over at m.block m.tag Exclusive content

        exclusive_reply : data_exclusive at home m.block m.tag content
            ≡ reply_when_complete exclusive home (record miss { fixed = Some m.tag; due = 0 }) m.tag
        exclusive_reply = ap (λ o. reply_or_wait exclusive home (fixed_at o m.tag 0)) open_is
            ∙ ap (λ x. if nat_eq x 0 then reply_when_complete exclusive home (record miss { fixed = Some m.tag; due = 0 }) m.tag
            else reply_that_waits exclusive (record miss { fixed = Some m.tag; due = 0 })) (ap (λ x. x.acks) (sym seen_miss) ∙ acks)

        exclusive_row : IsOwnRow s t m (reply_when_complete exclusive home (record miss { fixed = Some m.tag; due = 0 }) m.tag)
            (rows.data_exclusive b m.id)
        exclusive_row =
            complete_seen s t m shape flight exclusive (record miss { fixed = Some m.tag; due = 0 }) m.tag
            (record { state = Exclusive; content = content }) (rows.data_exclusive b m.id)
            on (as_long (record { state = Exclusive; content = content }))
            (written s t m shape flight (record { state = Exclusive; content = content }))
            (home_side_noted_not (node_at s m.to).log m.tag m.block m.block low) (record {
              line =
                  λ n. ap (λ x. block.set b.line m.to (line_seen (line_when_done Exclusive x)) n) need
                  ∙ ap (λ x. block.set b.line x.to block.Exclusive n) alone;
              content = λ n. ap (λ x. block.set b.content x.to x.content n) alone;
              miss = λ n. ap (λ x. block.set b.miss x.to block.no_miss n) alone;
              putting = λ n. set_kept b.putting m.to (b.putting m.to) n refl;
              put_issued = λ n. set_kept b.put_issued m.to (b.put_issued m.to) n refl;
              net = λ i. ap (λ x. block.net_with_reply b m.id (rows.unblocks b x.to x.tag) i) alone;
              next = refl;
              holds =
                  λ n j. ap (λ x. block.set_row b.holds m.to
                  (told_at was_owned exclusive.log false m.block (is_owned (line_when_done Exclusive x))) n j) need
                  ∙ taken_holds Exclusive n j
                  ∙ ap (λ x. block.set_row b.holds x.to (block.above (b.holds x.to) x.tag true) n j) alone;
              held =
                  λ n j. ap (λ x. block.set_row b.held m.to
                  (told_at old_content exclusive.log false m.block
                  (if is_owned (line_when_done Exclusive x) then content else [])) n j) need ∙ taken_held Exclusive n j
                  ∙ ap (λ x. block.set_row b.held x.to (block.above (b.held x.to) x.tag x.content) n j) alone;
              last = λ n. ap (λ x. block.set b.last m.to x n) over_holds.newest ∙ ap (λ x. block.set b.last x.to (x.tag + 1) n) alone;
            })

        alone_row : IsOwnRow s t m (data_exclusive at home m.block m.tag content) (rows.data_exclusive b m.id)
        alone_row = subst (λ x. IsOwnRow s t m x (rows.data_exclusive b m.id)) (sym exclusive_reply) exclusive_row

      -- DataM
      module _ (a : ℕ) (is : m.body ≡ DataM content a) (need : miss.need ≡ Write) where
        ownership : block.answer block.DataM m.from m.to m.tag a content ≡ b.net m.id
        ownership = sym (flight.seen ∙ ap (message_seen m) is)

        abbrev modified : Logged
        modified = taken_over at m.block m.tag Modified content

        modified_reply : data_modified at home m.block m.tag content a
            ≡ (if nat_eq miss.acks a then reply_when_complete modified home (record miss { fixed = Some m.tag; due = a }) m.tag
            else reply_that_waits modified (record miss { fixed = Some m.tag; due = a }))
        modified_reply = ap (λ o. reply_or_wait modified home (fixed_at o m.tag a)) open_is

        modified_row : IsOwnRow s t m (reply_when_complete modified home (record miss { fixed = Some m.tag; due = a }) m.tag)
            (rows.data_modified_complete b m.id)
        modified_row =
            complete_seen s t m shape flight modified (record miss { fixed = Some m.tag; due = a }) m.tag
            (record { state = Modified; content = content }) (rows.data_modified_complete b m.id)
            on (as_long (record { state = Modified; content = content }))
            (written s t m shape flight (record { state = Modified; content = content }))
            (home_side_noted_not (node_at s m.to).log m.tag m.block m.block low) (record {
              line =
                  λ n. ap (λ x. block.set b.line m.to (line_seen (line_when_done Modified x)) n) need
                  ∙ ap (λ x. block.set b.line x.to block.Modified n) ownership;
              content = λ n. ap (λ x. block.set b.content x.to x.content n) ownership;
              miss = λ n. ap (λ x. block.set b.miss x.to block.no_miss n) ownership;
              putting = λ n. set_kept b.putting m.to (b.putting m.to) n refl;
              put_issued = λ n. set_kept b.put_issued m.to (b.put_issued m.to) n refl;
              net = λ i. ap (λ x. block.net_with_reply b m.id (rows.unblocks b x.to x.tag) i) ownership;
              next = refl;
              holds =
                  λ n j. ap (λ x. block.set_row b.holds m.to
                  (told_at was_owned modified.log false m.block (is_owned (line_when_done Modified x))) n j) need ∙ taken_holds Modified n j
                  ∙ ap (λ x. block.set_row b.holds x.to (block.above (b.holds x.to) x.tag true) n j) ownership;
              held =
                  λ n j. ap (λ x. block.set_row b.held m.to
                  (told_at old_content modified.log false m.block (if is_owned (line_when_done Modified x) then content else [])) n j) need
                  ∙ taken_held Modified n j
                  ∙ ap (λ x. block.set_row b.held x.to (block.above (b.held x.to) x.tag x.content) n j) ownership;
              last = λ n. ap (λ x. block.set b.last m.to x n) over_holds.newest ∙ ap (λ x. block.set b.last x.to (x.tag + 1) n) ownership;
            })

        modified_open_row : IsOwnRow s t m (reply_that_waits modified (record miss { fixed = Some m.tag; due = a })) (rows.data_modified_open b m.id)
        modified_open_row =
            none_sent s t m shape flight (with_miss modified (Some (record miss { fixed = Some m.tag; due = a })))
            (record { state = Modified; content = content }) (rows.data_modified_open b m.id)
            (written s t m shape flight (record { state = Modified; content = content }))
            (home_side_noted_not (node_at s m.to).log m.tag m.block m.block low) None (record {
              line = λ n. ap (λ x. block.set b.line x.to block.Modified n) ownership;
              content = λ n. ap (λ x. block.set b.content x.to x.content n) ownership;
              miss =
                  λ n. ap (λ x. block.set b.miss m.to x n) (fixed_now a)
                  ∙ ap (λ x. block.set b.miss x.to (rows.fixes (b.miss x.to) x.tag x.due) n) ownership;
              putting = λ n. set_kept b.putting m.to (b.putting m.to) n refl;
              put_issued = λ n. set_kept b.put_issued m.to (b.put_issued m.to) n refl;
              net = λ i. refl;
              next = refl;
              holds =
                  λ n j. taken_holds Modified n j
                  ∙ ap (λ x. block.set_row b.holds x.to (block.above (b.holds x.to) x.tag true) n j) ownership;
              held =
                  λ n j. taken_held Modified n j
                  ∙ ap (λ x. block.set_row b.held x.to (block.above (b.held x.to) x.tag x.content) n j) ownership;
              last = λ n. ap (λ x. block.set b.last m.to x n) over_holds.newest ∙ ap (λ x. block.set b.last x.to (x.tag + 1) n) ownership;
            })

        modified_cases : (all : Bool) →
            IsOwnRow s t m (if all then reply_when_complete modified home (record miss { fixed = Some m.tag; due = a }) m.tag
            else reply_that_waits modified (record miss { fixed = Some m.tag; due = a }))
            (cond all (rows.data_modified_complete b m.id) (rows.data_modified_open b m.id))
        modified_cases true = modified_row
        modified_cases false = modified_open_row

        ownership_row : IsOwnRow s t m (data_modified at home m.block m.tag content a) (rows.data_modified b m.id)
        ownership_row = subst (λ x. IsOwnRow s t m x (rows.data_modified b m.id)) (sym modified_reply)
            (subst (λ x. IsOwnRow s t m
            (if nat_eq miss.acks a then reply_when_complete modified home (record miss { fixed = Some m.tag; due = a }) m.tag
            else reply_that_waits modified (record miss { fixed = Some m.tag; due = a }))
            (cond x (rows.data_modified_complete b m.id) (rows.data_modified_open b m.id)))
            (all_in a (b.net m.id) (ap (λ x. x.to) ownership) (ap (λ x. x.due) ownership)) (modified_cases (nat_eq miss.acks a)))

    -- UpgOk
    module _ (a : ℕ) (is : m.body ≡ UpgOk a) (need : miss.need ≡ Write) (owned : line.state ≡ Owned) where
      granted : block.answer block.UpgOk m.from m.to m.tag a block.nothing ≡ b.net m.id
      granted = sym (flight.seen ∙ ap (message_seen m) is)

      upgrade_reply : upgrade_granted at home m.tag a
          ≡ (if nat_eq miss.acks a then reply_when_complete at home (record miss { fixed = Some m.tag; due = a }) m.tag
          else reply_that_waits at (record miss { fixed = Some m.tag; due = a }))
      upgrade_reply = ap (λ o. reply_or_wait at home (fixed_at o m.tag a)) open_is

      upgraded : line_when_done line.state miss.need ≡ Modified
      upgraded = ap (λ x. line_when_done x miss.need) owned ∙ ap (line_when_done Owned) need

      upgrade_row : IsOwnRow s t m (reply_when_complete at home (record miss { fixed = Some m.tag; due = a }) m.tag)
          (rows.upgrade_granted_complete b m.id)
      upgrade_row =
          complete_seen s t m shape flight at (record miss { fixed = Some m.tag; due = a }) m.tag line
          (rows.upgrade_granted_complete b m.id)
          on (shape.lines m.to flight.to) refl (home_side_same (node_at s m.to).log m.block) (record {
            line = λ n. ap (λ x. block.set b.line m.to (line_seen x) n) upgraded ∙ ap (λ x. block.set b.line x.to block.Modified n) granted;
            content = λ n. set_kept b.content m.to line.content n refl;
            miss = λ n. ap (λ x. block.set b.miss x.to block.no_miss n) granted;
            putting = λ n. set_kept b.putting m.to (b.putting m.to) n refl;
            put_issued = λ n. set_kept b.put_issued m.to (b.put_issued m.to) n refl;
            net = λ i. ap (λ x. block.net_with_reply b m.id (rows.unblocks b x.to x.tag) i) granted;
            next = refl;
            holds =
                λ n j. ap (λ x. block.set_row b.holds m.to (owned_says (is_owned x)) n j) upgraded
                ∙ holds_same s t m shape flight true n j (ap is_owned owned);
            held =
                λ n j. ap (λ x. block.set_row b.held m.to (content_says (if is_owned x then line.content else [])) n j) upgraded
                ∙ held_same s t m shape flight true n j (ap is_owned owned);
            last = λ n. set_kept b.last m.to (b.last m.to) n refl;
          })

      upgrade_open_row : IsOwnRow s t m (reply_that_waits at (record miss { fixed = Some m.tag; due = a })) (rows.upgrade_granted_open b m.id)
      upgrade_open_row =
          none_sent s t m shape flight (with_miss at (Some (record miss { fixed = Some m.tag; due = a }))) line
          (rows.upgrade_granted_open b m.id) refl (home_side_same (node_at s m.to).log m.block) None (record {
            line = λ n. set_kept b.line m.to (b.line m.to) n refl;
            content = λ n. set_kept b.content m.to line.content n refl;
            miss =
                λ n. ap (λ x. block.set b.miss m.to x n) (fixed_now a)
                ∙ ap (λ x. block.set b.miss x.to (rows.fixes (b.miss x.to) x.tag x.due) n) granted;
            putting = λ n. set_kept b.putting m.to (b.putting m.to) n refl;
            put_issued = λ n. set_kept b.put_issued m.to (b.put_issued m.to) n refl;
            net = λ i. refl;
            next = refl;
            holds = λ n j. holds_same s t m shape flight (is_owned line.state) n j refl;
            held = λ n j. held_same s t m shape flight (is_owned line.state) n j refl;
            last = λ n. set_kept b.last m.to (b.last m.to) n refl;
          })

      upgrade_cases : (all : Bool) →
          IsOwnRow s t m (if all then reply_when_complete at home (record miss { fixed = Some m.tag; due = a }) m.tag
          else reply_that_waits at (record miss { fixed = Some m.tag; due = a }))
          (cond all (rows.upgrade_granted_complete b m.id) (rows.upgrade_granted_open b m.id))
      upgrade_cases true = upgrade_row
      upgrade_cases false = upgrade_open_row

      granted_row : IsOwnRow s t m (upgrade_granted at home m.tag a) (rows.upgrade_granted b m.id)
      granted_row = subst (λ x. IsOwnRow s t m x (rows.upgrade_granted b m.id)) (sym upgrade_reply)
          (subst (λ x. IsOwnRow s t m
          (if nat_eq miss.acks a then reply_when_complete at home (record miss { fixed = Some m.tag; due = a }) m.tag
          else reply_that_waits at (record miss { fixed = Some m.tag; due = a }))
          (cond x (rows.upgrade_granted_complete b m.id) (rows.upgrade_granted_open b m.id)))
          (all_in a (b.net m.id) (ap (λ x. x.to) granted) (ap (λ x. x.due) granted)) (upgrade_cases (nat_eq miss.acks a)))

    -- InvAck
    module _ (is : m.body ≡ InvAck) (owned : (b.miss m.to).is_fixed ≡ true → is_owned line.state ≡ true) where
      acknowledgement : block.plain block.InvAck m.from m.to m.tag ≡ b.net m.id
      acknowledgement = sym (flight.seen ∙ ap (message_seen m) is)

      abbrev one_more : Miss
      one_more = record miss { acks = miss.acks + 1 }

      one_more_is : miss_seen m.block (Some one_more) ≡ record (b.miss m.to) { acks = (b.miss m.to).acks + 1 }
      one_more_is =
          miss_is s t m shape flight (Some one_more) one_more refl on
          ∙ ap (λ (x : block.Miss). record x { acks = x.acks + 1 }) (sym seen_miss)

      counted_row : IsOwnRow s t m (reply_that_waits at one_more) (rows.acknowledge_open b m.id)
      counted_row =
          none_sent s t m shape flight (with_miss at (Some one_more)) line (rows.acknowledge_open b m.id) refl
          (home_side_same (node_at s m.to).log m.block) None (record {
            line = λ n. set_kept b.line m.to (b.line m.to) n refl;
            content = λ n. set_kept b.content m.to line.content n refl;
            miss =
                λ n. ap (λ x. block.set b.miss m.to x n) one_more_is
                ∙ ap (λ (x : block.Message). block.set b.miss x.to (record (b.miss x.to) { acks = (b.miss x.to).acks + 1 }) n) acknowledgement;
            putting = λ n. set_kept b.putting m.to (b.putting m.to) n refl;
            put_issued = λ n. set_kept b.put_issued m.to (b.put_issued m.to) n refl;
            net = λ i. refl;
            next = refl;
            holds = λ n j. holds_same s t m shape flight (is_owned line.state) n j refl;
            held = λ n j. held_same s t m shape flight (is_owned line.state) n j refl;
            last = λ n. set_kept b.last m.to (b.last m.to) n refl;
          })

      last_row : (fixed : ℕ) → miss.fixed ≡ Some fixed →
          IsOwnRow s t m (reply_when_complete at home one_more fixed) (rows.acknowledge_complete b m.id)
      last_row fixed e = complete_seen s t m shape flight at one_more fixed line (rows.acknowledge_complete b m.id)
          on (shape.lines m.to flight.to) refl (home_side_same (node_at s m.to).log m.block) (record {
            line =
                λ n. ap (λ x. block.set b.line m.to x n)
                (done_seen line.state miss.need is_mine
                ∙ ap (λ x. cond (block.is_write x.want) block.Modified (b.line m.to)) (sym seen_miss))
                ∙ ap (λ x. block.set b.line x.to (cond (block.is_write (b.miss x.to).want) block.Modified (b.line x.to)) n) acknowledgement;
            content = λ n. set_kept b.content m.to line.content n refl;
            miss = λ n. ap (λ x. block.set b.miss x.to block.no_miss n) acknowledgement;
            putting = λ n. set_kept b.putting m.to (b.putting m.to) n refl;
            put_issued = λ n. set_kept b.put_issued m.to (b.put_issued m.to) n refl;
            net = λ i. ap (λ x. block.net_with_reply b m.id (rows.unblocks b m.to x) i) (ap or_zero (sym e) ∙ ap (λ x. x.fixed) (sym seen_miss))
                ∙ ap (λ x. block.net_with_reply b m.id (rows.unblocks b x.to (b.miss x.to).fixed) i) acknowledgement;
            next = refl;
            holds =
                λ n j. ap (λ x. block.set_row b.holds m.to (owned_says x) n j) (done_owned line.state miss.need is_mine)
                ∙ holds_same s t m shape flight true n j is_mine;
            held =
                λ n j. ap (λ x. block.set_row b.held m.to (content_says (if x then line.content else [])) n j)
                (done_owned line.state miss.need is_mine) ∙ held_same s t m shape flight true n j is_mine;
            last = λ n. set_kept b.last m.to (b.last m.to) n refl;
          })
        where
          is_mine : is_owned line.state ≡ true
          is_mine = owned (ap (λ x. x.is_fixed) seen_miss ∙ ap is_some e)

      acknowledge_cases : (fixed : Option ℕ) (all : Bool) → miss.fixed ≡ fixed → nat_eq (miss.acks + 1) miss.due ≡ all →
          IsOwnRow s t m (reply_or_wait_by at home one_more fixed)
          (cond (is_some fixed && all) (rows.acknowledge_complete b m.id) (rows.acknowledge_open b m.id))
      acknowledge_cases None all e d = counted_row
      acknowledge_cases (Some fixed) true e d =
          subst (λ c. IsOwnRow s t m (if c then reply_when_complete at home one_more fixed else reply_that_waits at one_more)
          (rows.acknowledge_complete b m.id)) (sym d) (last_row fixed e)
      acknowledge_cases (Some fixed) false e d =
          subst (λ c. IsOwnRow s t m (if c then reply_when_complete at home one_more fixed else reply_that_waits at one_more) (rows.acknowledge_open b m.id))
          (sym d) counted_row

      last_is : (is_some miss.fixed && nat_eq (miss.acks + 1) miss.due)
          ≡ ((b.miss (b.net m.id).to).is_fixed && ((b.miss (b.net m.id).to).acks + 1 == (b.miss (b.net m.id).to).due))
      last_is =
          ap (λ x. is_some miss.fixed && x) (sym (eq_same (miss.acks + 1) miss.due))
          ∙ ap (λ x. x.is_fixed && (x.acks + 1 == x.due)) (sym seen_miss)
          ∙ ap (λ x. (b.miss x.to).is_fixed && ((b.miss x.to).acks + 1 == (b.miss x.to).due)) acknowledgement

      acknowledged_row : IsOwnRow s t m (acknowledge at home) (rows.acknowledge b m.id)
      acknowledged_row =
          subst (λ x. IsOwnRow s t m x (rows.acknowledge b m.id)) (sym (ap (λ o. reply_or_wait at home (miss_with_ack o)) open_is))
          (subst (λ x. IsOwnRow s t m (reply_or_wait_by at home one_more miss.fixed)
          (cond x (rows.acknowledge_complete b m.id) (rows.acknowledge_open b m.id))) last_is
          (acknowledge_cases miss.fixed (nat_eq (miss.acks + 1) miss.due) refl refl))

  pub data_shared-seen : (content : List ℕ) → m.body ≡ DataS content → MayTakeCopy (logged_at s m.to) m.block → (b.miss m.to).acks ≡ 0 →
      IsOwnRow s t m (data_shared (logged_at s m.to) (home_node s m.block) m.block m.tag content) (rows.data_shared b m.id)
  data_shared-seen content is may acks =
      awaited (node_at s m.to).cache.miss m.block Read
      (IsOwnRow s t m (data_shared at home m.block m.tag content) (rows.data_shared b m.id)) may.0
      (λ miss open_is on need. shared_row miss open_is on content is need may.1 acks)

  pub data_modified-seen : (content : List ℕ) (a : ℕ) → m.body ≡ DataM content a → MayTakeOwnership (logged_at s m.to) m.block →
      logged_to (node_at s m.to).log false m.block ≤ m.tag + 1 →
      IsOwnRow s t m (data_modified (logged_at s m.to) (home_node s m.block) m.block m.tag content a) (rows.data_modified b m.id)
  data_modified-seen content a is may low =
      awaited (node_at s m.to).cache.miss m.block Write
      (IsOwnRow s t m (data_modified at home m.block m.tag content a) (rows.data_modified b m.id)) may.0
      (λ miss open_is on need. ownership_row miss open_is on content low (not_owned line.state may.1) a is need)

  pub data_exclusive-seen : (content : List ℕ) → m.body ≡ DataE content → MayTakeCopy (logged_at s m.to) m.block → (b.miss m.to).acks ≡ 0 →
      logged_to (node_at s m.to).log false m.block ≤ m.tag + 1 →
      IsOwnRow s t m (data_exclusive (logged_at s m.to) (home_node s m.block) m.block m.tag content) (rows.data_exclusive b m.id)
  data_exclusive-seen content is may acks low =
      awaited (node_at s m.to).cache.miss m.block Read
      (IsOwnRow s t m (data_exclusive at home m.block m.tag content) (rows.data_exclusive b m.id)) may.0
      (λ miss open_is on need. alone_row miss open_is on content low (ap is_owned may.1) is need acks)

  pub upgrade_granted-seen : (a : ℕ) → m.body ≡ UpgOk a → MayUpgrade (logged_at s m.to) m.block →
      IsOwnRow s t m (upgrade_granted (logged_at s m.to) (home_node s m.block) m.tag a) (rows.upgrade_granted b m.id)
  upgrade_granted-seen a is may =
      awaited (node_at s m.to).cache.miss m.block Write
      (IsOwnRow s t m (upgrade_granted at home m.tag a) (rows.upgrade_granted b m.id)) may.0
      (λ miss open_is on need. granted_row miss open_is on a is need may.1)

  pub acknowledge-seen : m.body ≡ InvAck → MayCount (node_at s m.to).cache.miss m.block →
      ((b.miss m.to).is_fixed ≡ true → is_owned (line_of (node_at s m.to).cache m.block).state ≡ true) →
      IsOwnRow s t m (acknowledge (logged_at s m.to) (home_node s m.block)) (rows.acknowledge b m.id)
  acknowledge-seen is may owned =
      counted (node_at s m.to).cache.miss m.block (IsOwnRow s t m (acknowledge at home) (rows.acknowledge b m.id)) may
      (λ miss open_is on. acknowledged_row miss open_is on is owned)
