-- The rows of a cache: none takes a frame that wasn't taken, and each sends one message at most.
use Rattle.std.proofs.Common.{◌≡◌, ℕ, ◌≤◌, Bool, true, false, ◌||◌, List, [], length, refl, arith, nat_eq, if◌then◌else◌, Option, Some}
use Rattle.std.proofs.Common.{None}
use Rattle.std.proofs.lemmas.Bool.Decides.{nat_tests}
use Rattle.std.specs.Prelude.{slice_set}
use Rattle.log_buffer.specs.Log.{log_with_note}
use Rattle.sn_base.specs.declared.log.LogEntry.{LogEntry}
use Rattle.sn_base.specs.declared.log.Old.TheVariants.{NotOwned}
use Rattle.sn_model.specs.declared.cache.LineState.{LineState}
use Rattle.sn_model.specs.declared.cache.LineState.TheVariants.{Absent, Shared, Owned, Modified, Exclusive}
use Rattle.sn_model.specs.declared.cache.Need.{Need}
use Rattle.sn_model.specs.declared.cache.Need.TheVariants.{Read, Write}
use Rattle.sn_model.specs.declared.rows.CacheRow.{CacheRow}
use Rattle.sn_model.specs.declared.rows.CacheRow.TheVariants as row
use Rattle.sn_model.specs.Caches.{Cache, Line, Miss, no_line, line_of, with_line, without_line, is_present, is_owned, is_writable_state}
use Rattle.sn_model.specs.Caches.{misses_on, takes_frame}
use Rattle.sn_model.specs.CacheRows.{Logged, CacheReply, AwaitsAnswer, MeetsCacheRow, cache_reply, content_of, line_when_done}
use Rattle.sn_model.specs.CacheRows.{reply_when_complete, reply_or_wait, reply_or_wait_by, fixed_at, miss_with_ack}
use Rattle.sn_model.proofs.Taken.{TakesFewer, fewer-set}

-- a row takes no new frame, and sends one message at most
pub record IsSmall (reply : CacheReply) (before : Cache) : Type 0 where
  pub fewer : TakesFewer reply.after.cache before
  pub sends : length reply.sends ≤ 1

owned_present : (state : LineState) → is_owned state ≡ true → is_present state ≡ true
owned_present Absent e = e
owned_present Shared e = refl
owned_present Owned e = refl
owned_present Modified e = refl
owned_present Exclusive e = refl

owned_takes : (c : Cache) (x : ℕ) → is_owned (line_of c x).state ≡ true → takes_frame c x ≡ true
owned_takes c x e = let p : is_present (line_of c x).state ≡ true = owned_present (line_of c x).state e in rw p refl

writable_present : (state : LineState) → is_writable_state state ≡ true → is_present state ≡ true
writable_present Absent e = e
writable_present Shared e = refl
writable_present Owned e = refl
writable_present Modified e = refl
writable_present Exclusive e = refl

pub writable_takes : (c : Cache) (x : ℕ) → is_writable_state (line_of c x).state ≡ true → takes_frame c x ≡ true
writable_takes c x e = let p : is_present (line_of c x).state ≡ true = writable_present (line_of c x).state e in rw p refl

or_right : (p m : Bool) → m ≡ true → (p || m) ≡ true
or_right p m e = grind arith

pub or_left : (p m : Bool) → p ≡ true → (p || m) ≡ true
or_left p m e = grind arith

-- a change of one line
pub line_fewer : (c : Cache) (x : ℕ) (line : Line) → (is_present line.state ≡ true → takes_frame c x ≡ true) →
    TakesFewer (record c { lines = slice_set c.lines x line }) c
line_fewer c x line h =
    fewer-set (record c { lines = slice_set c.lines x line }) c x line refl
    (λ b e. or_right (is_present (line_of c b).state) (misses_on c.miss b) e) h

-- the block of a miss takes a frame
pub awaited_takes : (c : Cache) (x : ℕ) (for_need : Need) → AwaitsAnswer c.miss x for_need → takes_frame c x ≡ true
awaited_takes c x for_need h = or_right (is_present (line_of c x).state) (misses_on c.miss x) (on c.miss h)
  where
    on : (o : Option Miss) → AwaitsAnswer o x for_need → misses_on o x ≡ true
    on None w = absurd w
    on (Some miss) w = let e = w.0 in grind (arith, nat_tests)

-- how a miss completes
module _ (at : Logged) (d : Cache) (fewer : TakesFewer at.cache d) (home : ℕ) where
  -- the miss that is open is on a block that takes a frame
  abbrev IsOn : Option Miss → Type 0
  IsOn o = (b : ℕ) → misses_on o b ≡ true → takes_frame d b ≡ true

  either_way : (p m q : Bool) → (p ≡ true → q ≡ true) → (m ≡ true → q ≡ true) → (p || m) ≡ true → q ≡ true
  either_way p m q h k e = grind arith

  waits : (miss : Miss) → IsOn (Some miss) → TakesFewer (record at.cache { miss = Some miss }) d
  waits miss on b = either_way (is_present (line_of at.cache b).state) (misses_on (Some miss) b) (takes_frame d b)
      (λ p. fewer b (or_left (is_present (line_of at.cache b).state) (misses_on at.cache.miss b) p)) (on b)

  own_block : (p : Bool) (x : ℕ) → (p || nat_eq x x) ≡ true
  own_block p x = grind (arith, nat_tests)

  completes : (miss : Miss) (fixed : ℕ) → IsOn (Some miss) → TakesFewer (reply_when_complete at home miss fixed).after.cache d
  completes miss fixed on b e =
      waits miss on b (fewer-set (reply_when_complete at home miss fixed).after.cache (record at.cache { miss = Some miss }) miss.block
      (record { state = line_when_done (line_of at.cache miss.block).state miss.need; content = content_of at miss.block }) refl
      (λ o h. absurd (cc)) (λ h. own_block (is_present (line_of at.cache miss.block).state) miss.block) b e)

  completed_or_waiting_by_small : (miss : Miss) (fixed : Option ℕ) → IsOn (Some miss) →
      IsSmall (reply_or_wait_by at home miss fixed) d
  completed_or_waiting_by_small miss None on = record { fewer = waits miss on; sends = omega arith }
  completed_or_waiting_by_small miss (Some fixed) on = all_in (nat_eq miss.acks miss.due)
    where
      all_in : (c : Bool) → IsSmall
          (if c then reply_when_complete at home miss fixed
          else record { after = record at { cache = record at.cache { miss = Some miss } }; sends = []; lost = None }) d
      all_in true = record { fewer = completes miss fixed on; sends = omega arith }
      all_in false = record { fewer = waits miss on; sends = omega arith }

  completed_or_waiting_small : (o : Option Miss) → IsOn o → IsSmall (reply_or_wait at home o) d
  completed_or_waiting_small None on = record { fewer = fewer; sends = omega arith }
  completed_or_waiting_small (Some miss) on = completed_or_waiting_by_small miss miss.fixed on

-- what becomes of the open miss is on the same block
fixed_on : (o : Option Miss) (tag due b : ℕ) → misses_on (fixed_at o tag due) b ≡ true → misses_on o b ≡ true
fixed_on None tag due b e = e
fixed_on (Some miss) tag due b e = e

acknowledged_on : (o : Option Miss) (b : ℕ) → misses_on (miss_with_ack o) b ≡ true → misses_on o b ≡ true
acknowledged_on None b e = e
acknowledged_on (Some miss) b e = e

module _ (at : Logged) where
  missed_takes : (b : ℕ) → misses_on at.cache.miss b ≡ true → takes_frame at.cache b ≡ true
  missed_takes b e = or_right (is_present (line_of at.cache b).state) (misses_on at.cache.miss b) e

  stays : TakesFewer at.cache at.cache
  stays b e = e

  gone_fewer : (block : ℕ) → TakesFewer (without_line at.cache block) at.cache
  gone_fewer block = line_fewer at.cache block no_line (λ e. absurd (cc))

  module _ (home block now tag : ℕ) where
    -- an answer brings a line of a block that takes a frame
    answer_small : (state : LineState) (content : List ℕ) (log : List LogEntry) (need : Need) (due : ℕ) → AwaitsAnswer at.cache.miss block need →
        IsSmall (reply_or_wait (record { cache = with_line at.cache block state content; log = log }) home (fixed_at at.cache.miss tag due)) at.cache
    answer_small state content log need due awaits =
        completed_or_waiting_small (record { cache = with_line at.cache block state content; log = log }) at.cache
        (line_fewer at.cache block (record { state = state; content = content }) (λ e. awaited_takes at.cache block need awaits)) home
        (fixed_at at.cache.miss tag due) (λ b e. missed_takes b (fixed_on at.cache.miss tag due b e))

    pub row_small : (taken : CacheRow) → MeetsCacheRow at block taken → IsSmall (cache_reply at home block now tag taken) at.cache
    row_small (row.ForwardRead r) met =
        record {
          fewer = line_fewer at.cache block (record { state = Owned; content = content_of at block })
              (λ e. owned_takes at.cache block met);
          sends = omega arith;
        }
    row_small (row.ForwardWrite r due) met = record { fewer = gone_fewer block; sends = omega arith }
    row_small (row.Invalidate r) met = record { fewer = gone_fewer block; sends = omega arith }
    row_small (row.DataShared content) met = answer_small Shared content at.log Read 0 met.0
    row_small (row.DataModified content due) met =
        answer_small Modified content (log_with_note at.log tag block NotOwned) Write due met.0
    row_small (row.UpgradeGranted due) met =
        completed_or_waiting_small at at.cache stays home (fixed_at at.cache.miss tag due)
        (λ b e. missed_takes b (fixed_on at.cache.miss tag due b e))
    row_small row.Acknowledge met =
        completed_or_waiting_small at at.cache stays home (miss_with_ack at.cache.miss)
        (λ b e. missed_takes b (acknowledged_on at.cache.miss b e))
    row_small row.PutGo met = record { fewer = gone_fewer block; sends = omega arith }
    row_small row.PutDone met = record { fewer = stays; sends = omega arith }
    row_small (row.DataExclusive content) met =
        answer_small Exclusive content (log_with_note at.log tag block NotOwned) Read 0 met.0
