-- Each row of a cache is, for every other block, a loss and a new number, and the end of a miss or a put.
use Rattle.std.proofs.Common.{◌≡◌, ◌≢◌, ◌∙◌, ℕ, ◌+◌, ◌≤◌, Bool, true, false, ◌&&◌, length, refl, sym, ap, subst, ◌==◌, Option, Some, None}
use Rattle.std.proofs.Common.{length-set, arith}
use Rattle.std.proofs.lemmas.Bool.Decides.{nat_tests}
use Rattle.std.specs.Prelude.{if◌then◌else◌, List, slice_set, slice_index_or, nat_eq, is_some}
use Rattle.sn_msg.specs.declared.Message.{Message}
use Rattle.sn_msg.specs.declared.Body.TheVariants.{DataS, DataM, InvAck, Unblock, PutData}
use Rattle.log_buffer.specs.Log.{LogEntry, logged_to}
use Rattle.sn_model.specs.declared.cache.LineState.{LineState}
use Rattle.sn_model.specs.declared.cache.LineState.TheVariants.{Shared, Owned, Modified, Exclusive}
use Rattle.sn_model.specs.declared.cache.Need.{Need}
use Rattle.sn_model.specs.declared.cache.Need.TheVariants.{Read, Write}
use Rattle.sn_model.specs.declared.rows.CacheRow.{CacheRow}
use Rattle.sn_model.specs.declared.rows.CacheRow.TheVariants as row
use Rattle.sn_model.specs.Caches.{Line, Miss, Put, line_of, is_present, with_line, block_count, no_line, puts_on}
use Rattle.sn_model.specs.Fabric.{Fabric, node_at, home_node}
use Rattle.sn_model.specs.NetEvents.{logged_at}
use Rattle.sn_model.specs.CacheRows.{Logged, send, reply_when_complete, reply_that_waits, reply_or_wait, reply_or_wait_by, fixed_at}
use Rattle.sn_model.specs.CacheRows.{miss_with_ack, with_miss, taken_over, line_when_done, AwaitsAnswer, MayCount, given_up}
use Rattle.sn_model.specs.CacheRows.{forward_read, invalidate, put_go, put_done, data_shared, data_exclusive, upgrade_granted, acknowledge}
use Rattle.sn_coherence.specs.Block as block
use Rattle.sn_coherence.specs.OtherEvents.{end_miss_elsewhere}
use Rattle.fabric_coherence.specs.View.{GhostState, block_seen, miss_seen, miss_here, put_seen, put_issued}
use Rattle.fabric_coherence.specs.Steps.{elsewhere, IsShaped, IsInFlight}
use Rattle.fabric_coherence.specs.CacheEvents.{left_at_cache, elsewhere_after}
use Rattle.fabric_coherence.specs.CacheSeen.{KeepsHomeSide, KeepsCacheSide, IsElsewhere, completed_or_waiting_elsewhere}
use Rattle.fabric_coherence.proofs.CacheSeen.{set_kept, home_side_same, home_side_noted_owned, home_side_noted_not, cache_side_same}
use Rattle.fabric_coherence.proofs.CacheSeen.{cache_side_noted_owned, cache_side_noted_not, eq_other}
use Rattle.fabric_coherence.proofs.CacheConditions.{IsAtCache, none_seen}
use Rattle.fabric_coherence.proofs.CacheApart.{IsApart, Waiting, line_unwritten, one_elsewhere, none_elsewhere}
use Rattle.fabric_coherence.proofs.CacheSends.{miss_is}
use Rattle.fabric_coherence.proofs.CacheMisses.{awaited, counted, eq_same}

-- a miss on another block
pub miss_apart : (o : Option Miss) (miss : Miss) (b other : ℕ) → o ≡ Some miss → miss.block ≡ b → other ≢ b →
    miss_seen other o ≡ block.new_miss block.Elsewhere miss.issued
miss_apart o miss b other e on d =
    ap (miss_seen other) e ∙ ap (λ c. if c then miss_here miss else block.new_miss block.Elsewhere miss.issued)
    (ap (λ x. nat_eq x other) on ∙ eq_other b other d)

-- it can end there, and so can a put
pub awaits_elsewhere : (o : Option Miss) (b other : ℕ) (need : Need) → AwaitsAnswer o b need → other ≢ b →
    (miss_seen other o).want ≡ block.Elsewhere
awaits_elsewhere o b other need may d =
    awaited o b need ((miss_seen other o).want ≡ block.Elsewhere) may (λ miss e on n. ap (λ x. x.want) (miss_apart o miss b other e on d))

pub counts_elsewhere : (o : Option Miss) (b other : ℕ) → MayCount o b → other ≢ b → (miss_seen other o).want ≡ block.Elsewhere
counts_elsewhere o b other may d =
    counted o b ((miss_seen other o).want ≡ block.Elsewhere) may (λ miss e on. ap (λ x. x.want) (miss_apart o miss b other e on d))

put_apart : (p b other : ℕ) → nat_eq p b ≡ true → other ≢ b →
    (if nat_eq p other then block.Here else block.PutElsewhere) ≡ block.PutElsewhere
put_apart p b other e d = grind (arith, nat_tests)

pub puts_elsewhere : (o : Option Put) (b other : ℕ) → puts_on o b ≡ true → other ≢ b → put_seen other o ≡ block.PutElsewhere
puts_elsewhere None b other may d = grind arith
puts_elsewhere (Some put) b other may d = put_apart put.block b other may d

module _ (s : Fabric) (t : GhostState) (m : Message) (shape : IsShaped s) (flight : IsInFlight s m) (own : block.Block) (o : ℕ) (apart : o ≢ m.block) where
  abbrev there : block.Block
  there = block_seen s t o

  abbrev at : Logged
  at = logged_at s m.to

  abbrev home : ℕ
  home = home_node s m.block

  abbrev lines : List Line
  lines = (node_at s m.to).cache.lines

  abbrev as_before : Waiting
  as_before = record { miss = there.miss; putting = there.putting; put_issued = there.put_issued }

  abbrev without_miss : Waiting
  without_miss = record as_before { miss = block.set there.miss m.to block.no_miss }

  abbrev without_put : Waiting
  without_put = record as_before { putting = block.set there.putting m.to block.NoPut; put_issued = block.set there.put_issued m.to 0 }

  unwritten : (line : Line) → slice_index_or (slice_set lines m.block line) o no_line ≡ slice_index_or lines o no_line
  unwritten line = line_unwritten s t m shape flight o apart lines line (shape.lines m.to flight.to)

  as_long : (line : Line) → length (slice_set lines m.block line) ≡ block_count
  as_long line = length-set lines m.block line ∙ shape.lines m.to flight.to

  same_miss : (n : ℕ) → block.set there.miss m.to (there.miss m.to) n ≡ there.miss n
  same_miss n = set_kept there.miss m.to (there.miss m.to) n refl

  same_putting : (n : ℕ) → block.set there.putting m.to (there.putting m.to) n ≡ there.putting n
  same_putting n = set_kept there.putting m.to (there.putting m.to) n refl

  same_put_issued : (n : ℕ) → block.set there.put_issued m.to (there.put_issued m.to) n ≡ there.put_issued n
  same_put_issued n = set_kept there.put_issued m.to (there.put_issued m.to) n refl

  home_same : KeepsHomeSide (node_at s m.to).log (node_at s m.to).log o
  home_same = home_side_same (node_at s m.to).log o

  cache_same : KeepsCacheSide (node_at s m.to).log (node_at s m.to).log o
  cache_same = cache_side_same (node_at s m.to).log o

  abbrev log : List LogEntry
  log = (node_at s m.to).log

  -- a row that writes its line, and leaves the miss and the put
  written_apart : (line : Line) (after : List LogEntry) → KeepsHomeSide log after o → KeepsCacheSide log after o →
      IsApart s t m (record { cache = record at.cache { lines = slice_set lines m.block line }; log = after }) o as_before
  written_apart line after home_side cache_side = record {
    line = unwritten line;
    home_side = home_side;
    cache_side = cache_side;
    miss = same_miss;
    putting = same_putting;
    put_issued = same_put_issued;
  }

  -- what a note of the content that is given up says of the other block
  home_given : logged_to log false m.block ≤ (node_at s m.to).now + 1 → KeepsHomeSide log (given_up at m.block (node_at s m.to).now).log o
  home_given low = home_side_noted_owned log (node_at s m.to).now m.block (line_of at.cache m.block).content o low

  cache_given : logged_to log false m.block ≤ (node_at s m.to).now + 1 → KeepsCacheSide log (given_up at m.block (node_at s m.to).now).log o
  cache_given low = cache_side_noted_owned log (node_at s m.to).now m.block (line_of at.cache m.block).content o low apart

  -- a miss of this block that is complete, and one that waits
  module _ (miss : Miss) (open_is : (node_at s m.to).cache.miss ≡ Some miss) (on : miss.block ≡ m.block)
      (before : Logged) (long : length before.cache.lines ≡ block_count) (line : line_of before.cache o ≡ line_of (node_at s m.to).cache o)
      (put : before.cache.put ≡ (node_at s m.to).cache.put)
      (home_side : KeepsHomeSide (node_at s m.to).log before.log o) (cache_side : KeepsCacheSide (node_at s m.to).log before.log o) where
    complete_elsewhere : (done : Miss) (fixed : ℕ) → done.block ≡ m.block →
        IsElsewhere s t m (reply_when_complete before home done fixed) own o (end_miss_elsewhere (elsewhere there m.id 1) m.to)
    complete_elsewhere done fixed same =
        one_elsewhere s t m shape flight o apart own without_miss (reply_when_complete before home done fixed).after None
        (record {
          line =
              ap (λ (b : ℕ). slice_index_or
              (slice_set before.cache.lines b
              (record {
                state = line_when_done (line_of before.cache b).state done.need;
                content = (line_of before.cache b).content;
              })) o no_line) same
              ∙ line_unwritten s t m shape flight o apart before.cache.lines
              (record {
                state = line_when_done (line_of before.cache m.block).state done.need;
                content = (line_of before.cache m.block).content;
              }) long
              ∙ line;
          home_side = home_side;
          cache_side = cache_side;
          miss = λ n. refl;
          putting = λ n. ap (λ p. block.set there.putting m.to (put_seen o p) n) put ∙ same_putting n;
          put_issued = λ n. ap (λ p. block.set there.put_issued m.to (put_issued p) n) put ∙ same_put_issued n;
        })
        (send home (Unblock fixed)) refl

    waiting_elsewhere : (later : Miss) → later.block ≡ m.block → later.issued ≡ miss.issued →
        IsElsewhere s t m (reply_that_waits before later) own o (elsewhere there m.id 0)
    waiting_elsewhere later same issued = none_elsewhere s t m shape flight o apart own as_before (with_miss before (Some later)) None
        (record {
          line = line;
          home_side = home_side;
          cache_side = cache_side;
          miss = λ n. set_kept there.miss m.to (miss_seen o (Some later)) n
              (miss_apart (Some later) later m.block o refl same apart ∙ ap (block.new_miss block.Elsewhere) issued
              ∙ sym (miss_apart (node_at s m.to).cache.miss miss m.block o open_is on apart));
          putting = λ n. ap (λ p. block.set there.putting m.to (put_seen o p) n) put ∙ same_putting n;
          put_issued = λ n. ap (λ p. block.set there.put_issued m.to (put_issued p) n) put ∙ same_put_issued n;
        })

    completed_or_waiting_case : (all : Bool) (now : Miss) (fixed : ℕ) → now.block ≡ m.block → now.issued ≡ miss.issued →
        IsElsewhere s t m (if all then reply_when_complete before home now fixed else reply_that_waits before now) own o
        (completed_or_waiting_elsewhere there m.id m.to all)
    completed_or_waiting_case true now fixed same issued = complete_elsewhere now fixed same
    completed_or_waiting_case false now fixed same issued = waiting_elsewhere now same issued

    fixed_case : (fixed : Option ℕ) (now : Miss) → now.block ≡ m.block → now.issued ≡ miss.issued →
        IsElsewhere s t m (reply_or_wait_by before home now fixed) own o
        (completed_or_waiting_elsewhere there m.id m.to (is_some fixed && nat_eq now.acks now.due))
    fixed_case None now same issued = waiting_elsewhere now same issued
    fixed_case (Some fixed) now same issued = completed_or_waiting_case (nat_eq now.acks now.due) now fixed same issued

    -- whether all acknowledgements are in, as the block of the row sees it
    abbrev here : block.Miss
    here = (block_seen s t m.block).miss m.to

    seen_miss : here ≡ miss_here miss
    seen_miss = miss_is s t m shape flight (node_at s m.to).cache.miss miss open_is on

    answered_miss : (tag a : ℕ) →
        IsElsewhere s t m (reply_or_wait before home (fixed_at (node_at s m.to).cache.miss tag a)) own o
        (completed_or_waiting_elsewhere there m.id m.to (here.acks == a))
    answered_miss tag a =
        subst (λ x. IsElsewhere s t m (reply_or_wait before home (fixed_at x tag a)) own o
        (completed_or_waiting_elsewhere there m.id m.to (here.acks == a))) (sym open_is)
        (subst (λ x. IsElsewhere s t m (reply_or_wait before home (fixed_at (Some miss) tag a)) own o
        (completed_or_waiting_elsewhere there m.id m.to x)) (sym (eq_same miss.acks a) ∙ ap (λ x. x.acks == a) (sym seen_miss))
        (fixed_case (Some tag) (record miss { fixed = Some tag; due = a }) on refl))

    counted_miss : IsElsewhere s t m (reply_or_wait before home (miss_with_ack (node_at s m.to).cache.miss)) own o
        (completed_or_waiting_elsewhere there m.id m.to (here.is_fixed && (here.acks + 1 == here.due)))
    counted_miss =
        subst (λ x. IsElsewhere s t m (reply_or_wait before home (miss_with_ack x)) own o
        (completed_or_waiting_elsewhere there m.id m.to (here.is_fixed && (here.acks + 1 == here.due)))) (sym open_is)
        (subst (λ x. IsElsewhere s t m (reply_or_wait before home (miss_with_ack (Some miss))) own o
        (completed_or_waiting_elsewhere there m.id m.to x))
        (ap (λ x. is_some miss.fixed && x) (sym (eq_same (miss.acks + 1) miss.due))
        ∙ ap (λ x. x.is_fixed && (x.acks + 1 == x.due)) (sym seen_miss))
        (fixed_case miss.fixed (record miss { acks = miss.acks + 1 }) on refl))

  -- the rows that answer a miss
  abbrev miss_here_now : block.Miss
  miss_here_now = (block_seen s t m.block).miss m.to

  taken_elsewhere : (state : LineState) (content : List ℕ) (a : ℕ) (need : Need) → AwaitsAnswer (node_at s m.to).cache.miss m.block need →
      logged_to (node_at s m.to).log false m.block ≤ m.tag + 1 →
      IsElsewhere s t m (reply_or_wait (taken_over at m.block m.tag state content) home
      (fixed_at (node_at s m.to).cache.miss m.tag a)) own o (completed_or_waiting_elsewhere there m.id m.to (miss_here_now.acks == a))
  taken_elsewhere state content a need may low = awaited (node_at s m.to).cache.miss m.block need
      (IsElsewhere s t m (reply_or_wait (taken_over at m.block m.tag state content) home
      (fixed_at (node_at s m.to).cache.miss m.tag a)) own o (completed_or_waiting_elsewhere there m.id m.to (miss_here_now.acks == a))) may
      (λ miss open_is on n. answered_miss miss open_is on (taken_over at m.block m.tag state content)
      (as_long (record { state = state; content = content })) (unwritten (record { state = state; content = content })) refl
      (home_side_noted_not (node_at s m.to).log m.tag m.block o low)
      (cache_side_noted_not (node_at s m.to).log m.tag m.block o low apart) m.tag a)

  -- all acknowledgements are in where none is due and none came
  none_due : (P : Bool → Type 0) → miss_here_now.acks ≡ 0 → P (miss_here_now.acks == 0) → P true
  none_due P e p = subst P (ap (λ x. x == 0) e) p

  pub cache-elsewhere : (taken : CacheRow) → IsAtCache s m taken →
      IsElsewhere s t m (left_at_cache s m taken) own o (elsewhere_after s t m taken o)
  cache-elsewhere (row.ForwardRead r) does =
      one_elsewhere s t m shape flight o apart own as_before (forward_read at m.block r).after None
      (written_apart (record { state = Owned; content = (line_of at.cache m.block).content }) log home_same cache_same)
      (send r (DataS (line_of at.cache m.block).content)) refl
  cache-elsewhere (row.ForwardWrite r due) does =
      one_elsewhere s t m shape flight o apart own as_before (given_up at m.block (node_at s m.to).now) (Some m.block)
      (written_apart no_line (given_up at m.block (node_at s m.to).now).log (home_given does.late) (cache_given does.late))
      (send r (DataM (line_of at.cache m.block).content due)) refl
  cache-elsewhere (row.Invalidate r) does =
      one_elsewhere s t m shape flight o apart own as_before (invalidate at m.block r).after
      (if is_present (line_of at.cache m.block).state then Some m.block else None) (written_apart no_line log home_same cache_same)
      (send r InvAck) refl
  cache-elsewhere (row.DataShared content) does =
      none_due (λ x. IsElsewhere s t m (data_shared at home m.block m.tag content) own o
      (completed_or_waiting_elsewhere there m.id m.to x)) (none_seen at.cache.miss m.block does.met.2)
      (awaited at.cache.miss m.block Read
      (IsElsewhere s t m (data_shared at home m.block m.tag content) own o
      (completed_or_waiting_elsewhere there m.id m.to (miss_here_now.acks == 0))) does.met.0
      (λ miss open_is on n. answered_miss miss open_is on (record at { cache = with_line at.cache m.block Shared content })
      (as_long (record { state = Shared; content = content }))
      (unwritten (record { state = Shared; content = content })) refl home_same cache_same m.tag 0))
  cache-elsewhere (row.DataModified content due) does = taken_elsewhere Modified content due Write does.met.0 does.late
  cache-elsewhere (row.UpgradeGranted due) does =
      awaited at.cache.miss m.block Write
      (IsElsewhere s t m (upgrade_granted at home m.tag due) own o
      (completed_or_waiting_elsewhere there m.id m.to (miss_here_now.acks == due))) does.met.0
      (λ miss open_is on n. answered_miss miss open_is on at (shape.lines m.to flight.to) refl refl home_same cache_same m.tag due)
  cache-elsewhere row.Acknowledge does = counted at.cache.miss m.block
      (IsElsewhere s t m (acknowledge at home) own o
      (completed_or_waiting_elsewhere there m.id m.to (miss_here_now.is_fixed && (miss_here_now.acks + 1 == miss_here_now.due)))) does.met
      (λ miss open_is on. counted_miss miss open_is on at (shape.lines m.to flight.to) refl refl home_same cache_same)
  cache-elsewhere row.PutGo does =
      one_elsewhere s t m shape flight o apart own without_put (put_go at home m.block (node_at s m.to).now).after (Some m.block)
      (record {
        line = unwritten no_line;
        home_side = home_given does.late;
        cache_side = cache_given does.late;
        miss = same_miss;
        putting = λ n. refl;
        put_issued = λ n. refl;
      })
      (send home (PutData (line_of at.cache m.block).content)) refl
  cache-elsewhere row.PutDone does = none_elsewhere s t m shape flight o apart own without_put (put_done at).after None
      (record {
        line = refl;
        home_side = home_same;
        cache_side = cache_same;
        miss = same_miss;
        putting = λ n. refl;
        put_issued = λ n. refl;
      })
  cache-elsewhere (row.DataExclusive content) does =
      none_due (λ x. IsElsewhere s t m (data_exclusive at home m.block m.tag content) own o
      (completed_or_waiting_elsewhere there m.id m.to x)) (none_seen at.cache.miss m.block does.met.2)
      (taken_elsewhere Exclusive content 0 Read does.met.0 does.late)
