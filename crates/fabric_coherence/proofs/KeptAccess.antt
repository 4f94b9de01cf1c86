-- An access leads every block on: it changes nothing where its line serves it, and else it is a miss.
use Rattle.std.proofs.Common.{◌≡◌, ℕ, ◌<◌, false, not, ◌&&◌, nat_le, length, length-set, if◌then◌else◌}
use Rattle.sn_base.specs.declared.config.Config.{Config}
use Rattle.sn_base.specs.declared.event.Answer.TheVariants.{Retired, Missed, Waits, NeedsEvict, LogFull, NetFull}
use Rattle.sn_msg.specs.declared.Body.TheVariants.{GetS, GetM}
use Rattle.sn_model.specs.declared.cache.Need.{Need}
use Rattle.sn_model.specs.declared.cache.Need.TheVariants as need
use Rattle.sn_model.specs.Caches.{block_count, line_of, is_present, puts_on, frames_taken}
use Rattle.sn_model.specs.CacheRows.{send}
use Rattle.sn_model.specs.Access.{missing, step_of_miss, misses, has_miss, serves, lacks_room, accesses, step_of_access}
use Rattle.sn_model.specs.Fabric.{Fabric, node_at, home_node, step_refused, step_with_answer}
use Rattle.sn_model.specs.Net.{is_full}
use Rattle.sn_coherence.specs.OtherEvents.{begin_miss_elsewhere, numbers_elsewhere}
use Rattle.sn_coherence.specs.Events.{Event, BeginReadMiss, BeginWriteMiss, NumbersElsewhere, Free, Allows, after}
use Rattle.sn_coherence.specs.Same.{IsSame}
use Rattle.fabric_coherence.specs.View.{GhostState, block_seen}
use Rattle.fabric_coherence.specs.Steps.{IsShaped, losing, lost_at_once}
use Rattle.fabric_coherence.specs.Coherent.{FabricInvariant}
use Rattle.fabric_coherence.specs.Leads.{Moves}
use Rattle.fabric_coherence.proofs.NodeAccess.{old_line, read_miss-seen, write_miss-seen, other_miss-seen}
use Rattle.fabric_coherence.proofs.KeptCommon.{IsQuiet, frames_stay, quiet_losing, then_losing, then_quiet, begin_miss_elsewhere_leads}
use Rattle.fabric_coherence.proofs.KeptCommon.{goes_own, as_it_is, by_test}
use Rattle.fabric_coherence.proofs.KeptNode.{sent-shaped, no_miss_seen, put_apart, absent_seen, not_writable_seen}

-- the event that a miss is
abbrev begins : Need → ℕ → Event
begins need.Read n = BeginReadMiss n
begins need.Write n = BeginWriteMiss n

begins_quiet : (access : Need) (n : ℕ) → IsQuiet (begins access n)
begins_quiet need.Read n = tt
begins_quiet need.Write n = tt

module _ (s : Fabric) (t : GhostState) (n : ℕ) (kept : FabricInvariant s t) (l : n < length s.nodes) (none : has_miss (node_at s n).cache.miss ≡ false) where
  pub free : (b : ℕ) → puts_on (node_at s n).cache.put b ≡ false → Free (length s.nodes) (block_seen s t b) n
  free b apart = (l, no_miss_seen b (node_at s n).cache.miss none, put_apart b (node_at s n).cache.put apart)

  module _ (b : ℕ) (low : b < block_count) where
    miss-seen : (access : Need) →
        IsSame (block_seen (step_of_miss s n b access).fabric t b)
        (losing (after (length s.nodes) (block_seen s t b) (begins access n)) (lost_at_once (step_of_miss s n b access).sent))
    miss-seen need.Read = read_miss-seen s t n b kept.shape l
    miss-seen need.Write = write_miss-seen s t n b kept.shape l

    may_miss : (access : Need) → puts_on (node_at s n).cache.put b ≡ false → serves access (old_line s n b).state ≡ false →
        Allows (length s.nodes) (block_seen s t b) (begins access n)
    may_miss need.Read apart e = (free b apart, absent_seen (old_line s n b).state e)
    may_miss need.Write apart e = (free b apart, not_writable_seen (old_line s n b).state e)

    miss-shaped : (access : Need) → IsShaped (step_of_miss s n b access).fabric
    miss-shaped need.Read =
        sent-shaped s n kept.shape l (missing (node_at s n) b need.Read) b (send (home_node s b) GetS) Missed (kept.shape.lines n l) low
        (kept.blocks b low).nodes.home_low kept.shape.some
    miss-shaped need.Write =
        sent-shaped s n kept.shape l (missing (node_at s n) b need.Write) b (send (home_node s b) GetM) Missed (kept.shape.lines n l) low
        (kept.blocks b low).nodes.home_low kept.shape.some

    missed_moves : (access : Need) → puts_on (node_at s n).cache.put b ≡ false → serves access (old_line s n b).state ≡ false →
        Moves s t (step_of_miss s n b access)
    missed_moves access apart e = (
      t,
      goes_own s t (λ o r. r) (step_of_miss s n b access).fabric t (length-set s.nodes n _) (frames_stay s t) (miss-shaped access)
          b (losing (after (length s.nodes) (block_seen s t b) (begins access n)) (lost_at_once (step_of_miss s n b access).sent))
          (λ o. losing (numbers_elsewhere (begin_miss_elsewhere (block_seen s t o) n) 1) (lost_at_once (step_of_miss s n b access).sent))
          (miss-seen access)
          (quiet_losing (length s.nodes) (block_seen s t b) (begins access n) (lost_at_once (step_of_miss s n b access).sent)
          (may_miss access apart e) (begins_quiet access n))
          (λ o m other. other_miss-seen s t n o b access kept.shape l other)
          (λ o m other. then_losing (length s.nodes) (block_seen s t o) (numbers_elsewhere (begin_miss_elsewhere (block_seen s t o) n) 1)
          (λ r. r) (lost_at_once (step_of_miss s n b access).sent)
          (then_quiet (length s.nodes) (block_seen s t o) (begin_miss_elsewhere (block_seen s t o) n) (NumbersElsewhere 1)
          (begin_miss_elsewhere_leads (length s.nodes) (block_seen s t o) n l (no_miss_seen o (node_at s n).cache.miss none)) tt tt)),
    )

    misses_moves : (config : Config) (access : Need) → puts_on (node_at s n).cache.put b ≡ false →
        serves access (old_line s n b).state ≡ false → Moves s t (misses config s n b access)
    misses_moves config access apart e =
        by_test s t (not (is_present (line_of (node_at s n).cache b).state)
        && nat_le config.ways (frames_taken (node_at s n).cache config.sets b)) (step_refused s NeedsEvict) _
        (λ q. as_it_is s t NeedsEvict kept.shape)
        (λ q. by_test s t (is_full s 1) (step_refused s NetFull) (step_of_miss s n b access) (λ q. as_it_is s t NetFull kept.shape)
        (λ q. missed_moves access apart e))

    accesses_moves : (config : Config) (access : Need) → Moves s t (accesses config s n b access)
    accesses_moves config access =
        by_test s t (puts_on (node_at s n).cache.put b) (step_refused s Waits) _ (λ q. as_it_is s t Waits kept.shape)
        (λ apart. by_test s t (serves access (line_of (node_at s n).cache b).state)
        (if lacks_room config (node_at s n) b access then step_refused s LogFull else step_with_answer s Retired) (misses config s n b access)
        (λ q. by_test s t (lacks_room config (node_at s n) b access) (step_refused s LogFull) (step_with_answer s Retired)
        (λ q. as_it_is s t LogFull kept.shape) (λ q. as_it_is s t Retired kept.shape))
        (λ absent. misses_moves config access apart absent))

pub accessed-moves : (config : Config) (s : Fabric) (t : GhostState) (n b : ℕ) (access : Need) → FabricInvariant s t → n < length s.nodes →
    b < block_count → Moves s t (step_of_access config s n b access)
accessed-moves config s t n b access kept l low =
    by_test s t (has_miss (node_at s n).cache.miss) (step_refused s Waits) (accesses config s n b access) (λ q. as_it_is s t Waits kept.shape)
    (λ none. accesses_moves s t n kept l none b low config access)
