-- What is held at a cut had frames there, so it fits.
use Rattle.std.proofs.Common.{◌≡◌, ◌∙◌, ⊎_elim, ℕ, suc, ◌+◌, ◌<◌, ◌≤◌, Bool, true, false, ◌||◌, List, [], ◌∷◌, length, refl, ap, sym, subst}
use Rattle.std.proofs.Common.{arith, Option, Some, None}
use Rattle.std.specs.Prelude.{is_some}
use Rattle.std.proofs.lemmas.Bool.{cases_lt}
use Rattle.std.proofs.lemmas.Bool.Decides.{nat_tests}
use Rattle.std.proofs.lemmas.List.{get_or_past}
use Rattle.sn_base.specs.declared.config.Config.{Config}
use Rattle.sn_base.specs.declared.log.Old.TheVariants as old
use Rattle.log_buffer.specs.Log.{LogEntry, Old, old_at}
use Rattle.sn_model.specs.declared.cache.LineState.{LineState}
use Rattle.sn_model.specs.declared.cache.LineState.TheVariants as state
use Rattle.sn_model.specs.Caches.{Cache, Line, Miss, no_line, line_of, is_present, is_owned, misses_on, takes_frame, block_count}
use Rattle.sn_model.specs.Cuts.{held_by, owned_content, holds_at}
use Rattle.sn_model.specs.Fabric.{Fabric, Node, node_at}
use Rattle.sn_model.specs.PointEvents.{restored_line, restored_lines}
use Rattle.fabric_coherence.specs.Block as block
use Rattle.fabric_coherence.specs.Log.{was_owned, old_or_now}
use Rattle.sn_model.proofs.Taken.{TakesFewer}
use Rattle.fabric_coherence.specs.View.{GhostState, block_seen, line_seen, miss_seen}
use Rattle.fabric_coherence.specs.Leads.{is_framed}
use Rattle.fabric_coherence.specs.Coherent.{FabricInvariant}
use Rattle.fabric_coherence.proofs.Recovery.{restored_line_at}
use Rattle.fabric_bounds.specs.Bounds.{CacheFits, cache_at, EdgeFits, IsBounded}
use Rattle.fabric_bounds.proofs.Steps.{fewer_fits}

-- what is held is what is owned there

restored_present : (content : Option (List ℕ)) → is_present (restored_line content).state ≡ is_some content
restored_present None = refl
restored_present (Some content) = refl

held_now : (state : LineState) (line : Line) → is_some (owned_content line state) ≡ is_owned state
held_now state.Absent line = refl
held_now state.Shared line = refl
held_now state.Owned line = refl
held_now state.Modified line = refl
held_now state.Exclusive line = refl

held_then : (o : Old) (line : Line) → is_some (held_by (Some o) line) ≡ was_owned o
held_then old.NotOwned line = refl
held_then (old.Owned content) line = refl
held_then (old.WasHome content) line = refl
held_then (old.WasCache node) line = refl

held_told : (o : Option Old) (line : Line) → is_some (held_by o line) ≡ old_or_now was_owned o (is_owned line.state)
held_told None line = held_now line.state line
held_told (Some o) line = held_then o line

owned_seen : (state : LineState) → is_owned state ≡ block.is_owned (line_seen state)
owned_seen state.Absent = refl
owned_seen state.Shared = refl
owned_seen state.Owned = refl
owned_seen state.Modified = refl
owned_seen state.Exclusive = refl

owned_present : (state : LineState) → block.is_owned (line_seen state) ≡ true → is_present state ≡ true
owned_present state.Absent e = e
owned_present state.Shared e = refl
owned_present state.Owned e = refl
owned_present state.Modified e = refl
owned_present state.Exclusive e = refl

-- a frame as a block sees it, and as the cache has it

framed_step : (state : LineState) (p m : Bool) (want : block.Want) → is_present state ≡ p → block.is_here want ≡ m →
    block.has_frame (line_seen state) want ≡ (p || m)
framed_step state.Absent p m want e h = grind arith
framed_step state.Shared p m want e h = grind arith
framed_step state.Owned p m want e h = grind arith
framed_step state.Modified p m want e h = grind arith
framed_step state.Exclusive p m want e h = grind arith

here_seen : (o : Option Miss) (b : ℕ) → block.is_here (miss_seen b o).want ≡ misses_on o b
here_seen None b = refl
here_seen (Some miss) b = grind (arith, nat_tests)

pub framed_takes : (s : Fabric) (t : GhostState) (n b : ℕ) → is_framed (block_seen s t b) n ≡ takes_frame (node_at s n).cache b
framed_takes s t n b =
    framed_step (line_of (node_at s n).cache b).state (is_present (line_of (node_at s n).cache b).state)
    (misses_on (node_at s n).cache.miss b) (miss_seen b (node_at s n).cache.miss).want refl (here_seen (node_at s n).cache.miss b)

-- the cache at a cut

as_long : (log : List LogEntry) (k from : ℕ) (lines : List Line) → length (restored_lines log k from lines) ≡ length lines
as_long log k from [] = refl
as_long log k from (line ∷ lines) = ap suc (as_long log k (from + 1) lines)

only_line : (p : Bool) → (p || false) ≡ p
only_line p = grind arith

line_at_cut : (node : Node) (b k : ℕ) → b < length node.cache.lines →
    is_present (line_of (cache_at node k) b).state ≡ is_some (held_by (old_at node.log false b k) (line_of node.cache b))
line_at_cut node b k l =
    ap (λ (x : Line). is_present x.state) (restored_line_at k b node l)
    ∙ restored_present (held_by (old_at node.log false b k) (line_of node.cache b))

pub takes_held : (s : Fabric) (t : GhostState) (n b k : ℕ) → FabricInvariant s t → n < length s.nodes → b < block_count →
    takes_frame (cache_at (node_at s n) k) b ≡ is_some (holds_at s n b k)
takes_held s t n b k kept l low =
    only_line (is_present (line_of (cache_at (node_at s n) k) b).state)
    ∙ line_at_cut (node_at s n) b k (subst (λ c. b < c) (sym (kept.shape.lines n l)) low)

takes_none : (node : Node) (b k : ℕ) → length node.cache.lines ≤ b → takes_frame (cache_at node k) b ≡ false
takes_none node b k l = only_line (is_present (line_of (cache_at node k) b).state)
    ∙ ap (λ (x : Line). is_present x.state)
    (get_or_past (restored_lines node.log k 0 node.cache.lines) b no_line
    (subst (λ c. c ≤ b) (sym (as_long node.log k 0 node.cache.lines)) l))

module _ (config : Config) (s : Fabric) (t : GhostState) (kept : FabricInvariant s t) (bounded : IsBounded config s t) (n k : ℕ) (l : n < length s.nodes) (from : s.point ≤ k) where
  holds_of : (b : ℕ) → b < block_count → takes_frame (cache_at (node_at s n) k) b ≡ true → (block_seen s t b).holds n k ≡ true
  holds_of b low e =
      sym (held_told (old_at (node_at s n).log false b k) (line_of (node_at s n).cache b)) ∙ (sym (takes_held s t n b k kept l low) ∙ e)

  -- only blocks of memory are held
  in_memory : (d : Cache) → ((b : ℕ) → b < block_count → takes_frame (cache_at (node_at s n) k) b ≡ true → takes_frame d b ≡ true) →
      TakesFewer (cache_at (node_at s n) k) d
  in_memory d h b e = ⊎_elim
      (λ (low : b < block_count). h b low e)
      (λ (past : block_count ≤ b). absurd
      (let f : takes_frame (cache_at (node_at s n) k) b
      ≡ false = takes_none (node_at s n) b k (subst (λ c. c ≤ b) (sym (kept.shape.lines n l)) past) in cc))
      (cases_lt b block_count)

  -- up to now, what is held had a frame at that edge; above now, what is held is owned now
  up_to_now : k ≤ (node_at s n).now → CacheFits config (cache_at (node_at s n) k)
  up_to_now reached =
      fewer_fits config (cache_at (node_at s n) k) edge.0
      (in_memory edge.0 (λ b low e. edge.2 b low ((kept.blocks b low).frames.holds_framed n k l from reached (holds_of b low e)))) edge.1
    where
      edge : EdgeFits config t n k
      edge = bounded.edges n k l

  above_now : (node_at s n).now < k → CacheFits config (cache_at (node_at s n) k)
  above_now later =
      fewer_fits config (cache_at (node_at s n) k) (node_at s n).cache (in_memory (node_at s n).cache still) (bounded.frames n l)
    where
      late : (last now : ℕ) → last ≤ now + 1 → now < k → last ≤ k
      late last now h g = omega arith

      still : (b : ℕ) → b < block_count → takes_frame (cache_at (node_at s n) k) b ≡ true → takes_frame (node_at s n).cache b ≡ true
      still b low e =
          let logs = (kept.blocks b low).logs in
          let owns : block.is_owned (line_seen (line_of (node_at s n).cache b).state)
          ≡ true = sym (logs.holds_now n k (late ((block_seen s t b).last n) (node_at s n).now (logs.own n) later))
          ∙ holds_of b low e in
          let p : is_present (line_of (node_at s n).cache b).state ≡ true = owned_present (line_of (node_at s n).cache b).state owns in
          rw p refl

  pub cut_fits : CacheFits config (cache_at (node_at s n) k)
  cut_fits =
      ⊎_elim (λ (later : (node_at s n).now < k). above_now later) (λ (reached : k ≤ (node_at s n).now). up_to_now reached)
      (cases_lt (node_at s n).now k)
