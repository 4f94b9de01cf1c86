-- An access that its line serves has no miss in its way, and no put.
use Rattle.std.proofs.Common.{◌≡◌, ℕ, ◌<◌, Bool, true, false, not, ◌&&◌, nat_le, length, refl, if◌then◌else◌}
use Rattle.sn_base.specs.declared.config.Config.{Config}
use Rattle.sn_base.specs.declared.event.Answer.TheVariants.{Retired, Waits, NeedsEvict, LogFull, NetFull}
use Rattle.sn_model.specs.declared.cache.Need.{Need}
use Rattle.sn_model.specs.Access.{misses, step_of_miss, has_miss, serves, lacks_room, accesses, step_of_access}
use Rattle.sn_model.specs.Caches.{block_count, line_of, is_present, puts_on, frames_taken}
use Rattle.sn_model.specs.Fabric.{Fabric, node_at, step_refused, step_with_answer}
use Rattle.sn_model.specs.Net.{is_full}
use Rattle.fabric_coherence.specs.Events.{CanUse}

-- a miss doesn't retire
misses_on : (config : Config) (s : Fabric) (n block : ℕ) (need : Need) → (misses config s n block need).answer ≡ Retired → ⊥
misses_on config s n block need =
    by_frames (not (is_present (line_of (node_at s n).cache block).state)
    && nat_le config.ways (frames_taken (node_at s n).cache config.sets block))
  where
    by_room : (full : Bool) → (if full then step_refused s NetFull else step_of_miss s n block need).answer ≡ Retired → ⊥
    by_room true e = cc
    by_room false e = cc

    by_frames : (none : Bool) →
        (if none then step_refused s NeedsEvict else if is_full s 1 then step_refused s NetFull else step_of_miss s n block need).answer ≡ Retired → ⊥
    by_frames true e = cc
    by_frames false e = by_room (is_full s 1) e

module _ (config : Config) (s : Fabric) (n block : ℕ) (need : Need) (l : n < length s.nodes) (low : block < block_count) where
  abbrev Can : Type 0
  Can = CanUse s n block × (serves need (line_of (node_at s n).cache block).state ≡ true)

  by_line : has_miss (node_at s n).cache.miss ≡ false → puts_on (node_at s n).cache.put block ≡ false → (c : Bool) →
      serves need (line_of (node_at s n).cache block).state ≡ c →
      (if c then (if lacks_room config (node_at s n) block need then step_refused s LogFull else step_with_answer s Retired)
      else misses config s n block need).answer ≡ Retired → Can
  by_line m p true e q = (record { node = l; block = low; no_miss = m; no_put = p }, e)
  by_line m p false e q = absurd (misses_on config s n block need q)

  by_put : has_miss (node_at s n).cache.miss ≡ false → (c : Bool) → puts_on (node_at s n).cache.put block ≡ c →
      (if c then step_refused s Waits
      else if serves need (line_of (node_at s n).cache block).state then
      (if lacks_room config (node_at s n) block need then step_refused s LogFull else step_with_answer s Retired)
      else misses config s n block need).answer ≡ Retired → Can
  by_put m true e q = absurd (cc)
  by_put m false e q = by_line m e (serves need (line_of (node_at s n).cache block).state) refl q

  by_miss : (c : Bool) → has_miss (node_at s n).cache.miss ≡ c →
      (if c then step_refused s Waits else accesses config s n block need).answer ≡ Retired → Can
  by_miss true e q = absurd (cc)
  by_miss false e q = by_put e (puts_on (node_at s n).cache.put block) refl q

pub served : (config : Config) (s : Fabric) (n block : ℕ) (need : Need) → n < length s.nodes → block < block_count →
    (step_of_access config s n block need).answer ≡ Retired →
    CanUse s n block × (serves need (line_of (node_at s n).cache block).state ≡ true)
served config s n block need l low q = by_miss config s n block need l low (has_miss (node_at s n).cache.miss) refl q
