-- That the greatest numbers of a run are no less than what its nodes have now: each event raises them to that.
use Rattle.std.proofs.Common.{◌≡◌, ℕ, ◌-◌, ◌≤◌, true, List, [], ◌∷◌, length, Option, Some, None, refl, sym, ap, subst, ◌∙◌, arith}
use Rattle.std.specs.Prelude.{slice_index}
use Rattle.std.proofs.lemmas.Bool.{ltb-true, ne_eqb}
use Rattle.sn_base.specs.Events.{event_fits}
use Rattle.sn_base.specs.Image.{ImageData}
use Rattle.sn_base.specs.declared.config.Config.{Config}
use Rattle.sn_base.specs.declared.event.Event.{Event}
use Rattle.sn_base.specs.declared.event.Event.TheVariants.{Step, Evict, Edge, Hop, Deliver, Lose, Kill, Report, Validate, Recover, Input}
use Rattle.sn_model.specs.Caches.{block_count, line_of, is_owned}
use Rattle.sn_model.specs.Fabric.{Fabric, Node, first_fabric, first_node}
use Rattle.sn_model.specs.Instructions.{MachineStep}
use Rattle.sn_model.specs.Machine.{State, start_of}
use Rattle.sn_model.specs.Step.{step_of, state_after}
use Rattle.sn_machine.specs.Machine.{MachineData}
use Rattle.consistent_cuts.specs.Headline.{state_of_run}
use Rattle.run_statistics.specs.declared.owned.TouchedLines.{TouchedLines}
use Rattle.run_statistics.specs.declared.reach.Reach.{Reach}
use Rattle.run_statistics.specs.declared.reach.Reach.TheVariants.{Nobody, One}
use Rattle.run_statistics.specs.declared.statistics.Before.{Before}
use Rattle.run_statistics.specs.declared.statistics.Statistics.{Statistics}
use Rattle.run_statistics.specs.Counted.{AreCounted}
use Rattle.run_statistics.specs.Covered.{AreCovered, CoversOthers}
use Rattle.run_statistics.specs.Logs.{entries_of, checkpoints_of}
use Rattle.run_statistics.specs.Numbers.{no_numbers, with_greater, with_greatest_below}
use Rattle.run_statistics.specs.Owned.{count_below, owned_blocks, touched_lines, AreThere, reach_of, reach_of_lines, is_reached, ReachesNodes}
use Rattle.run_statistics.specs.Statistics.{no_statistics, before_of, statistics_with, statistics_from, statistics_of}
use Rattle.run_statistics.proofs.Greatest.{length-greatest, greatest-covers, none-rises, one-rises}
use Rattle.run_statistics.proofs.OwnedCounts.{reads_default, none-owned}
use Rattle.run_statistics.proofs.Owners.{SameUnreached}

-- at the start nothing is there

first_covered : (image : ImageData) (nodes : ℕ) → nodes ≤ 16 → AreCovered no_statistics nodes (first_fabric image nodes) Nobody
first_covered image nodes few = record {
  entries = (room, λ n l e. let none : entries_of (first_fabric image nodes) n ≡ 0 = ap (λ (x : Node). length x.log) (reads_default nodes n first_node) in omega (arith, none));
  checkpoints =
      (room, λ n l e. let none : checkpoints_of (first_fabric image nodes) n ≡ 0 = ap (λ (x : Node). x.now - x.known) (reads_default nodes n first_node) in omega (arith, none));
  owned = (room, λ n l e. let same = (none-owned image nodes few).owned n l in omega (arith, same));
} where
  room : nodes ≤ length no_numbers
  room = let all : length no_numbers ≡ 32 = refl in omega (arith, few, all)

-- after an event

covered_next : (nodes : ℕ) (x : Statistics) (s : Fabric) (before : Before) (event : Event) (step : MachineStep) →
    AreCovered x nodes s Nobody → AreCovered (statistics_with nodes x before event step) nodes step.state.fabric Nobody
covered_next nodes x s before event step h = record {
  entries = (
    subst (λ k. nodes ≤ k) (sym (length-greatest (entries_of step.state.fabric) nodes x.logs.most_entries)) h.entries.0,
    λ n l e. greatest-covers (entries_of step.state.fabric) nodes n x.logs.most_entries l h.entries.0,
  );
  checkpoints = (
    subst (λ k. nodes ≤ k) (sym (length-greatest (checkpoints_of step.state.fabric) nodes x.logs.most_checkpoints)) h.checkpoints.0,
    λ n l e. greatest-covers (checkpoints_of step.state.fabric) nodes n x.logs.most_checkpoints l h.checkpoints.0,
  );
  owned = (
    subst (λ k. nodes ≤ k) (sym (length-greatest (owned_blocks step.state.fabric) nodes x.most_owned)) h.owned.0,
    λ n l e. greatest-covers (owned_blocks step.state.fabric) nodes n x.most_owned l h.owned.0,
  );
}

covered_from : (image : ImageData) (config : Config) (s : State) (events : List Event) (x : Statistics) →
    AreCovered x config.nodes s.fabric Nobody →
    AreCovered (statistics_from image config s events x) config.nodes (state_after image config s events).fabric Nobody
unfolding statistics_from
covered_from image config s [] x h = h
covered_from image config s (event ∷ events) x h =
    covered_from image config (step_of image config s event).state events
    (statistics_with config.nodes x (before_of s) event (step_of image config s event))
    (covered_next config.nodes x s.fabric (before_of s) event (step_of image config s event) h)

covered_by_run : (image : ImageData) (config : Config) (events : List Event) → config.nodes ≤ 16 →
    AreCovered (statistics_of image config events) config.nodes (state_of_run image config events).fabric Nobody
unfolding statistics_of
covered_by_run image config events few =
    covered_from image config (start_of image config.nodes) events no_statistics (first_covered image config.nodes few)

pub counted-covers : (x : Statistics) (owned : List ℕ) (m : MachineData) (events : List Event) → m.config.nodes ≤ 16 →
    AreCounted x owned m events → AreCovered x m.config.nodes m.state.fabric Nobody
counted-covers x owned m events few h =
    subst (λ (y : Statistics). AreCovered y m.config.nodes m.state.fabric Nobody) (sym h.statistics)
    (subst (λ (s : State). AreCovered (statistics_of m.image m.config events) m.config.nodes s.fabric Nobody) (sym h.led)
    (covered_by_run m.image m.config events few))

-- and of the nodes that an event doesn't reach they still are

pub others-covered : (nodes : ℕ) (x : Statistics) (s t : Fabric) (reach : Reach) → SameUnreached s t reach → AreCovered x nodes s Nobody →
    AreCovered x nodes t reach
others-covered nodes x s t reach same h = record {
  entries = (
    h.entries.0,
    λ n l e. subst (λ (node : Node). length node.log ≤ slice_index x.logs.most_entries n) (sym (same n e)) (h.entries.1 n l refl),
  );
  checkpoints = (
    h.checkpoints.0,
    λ n l e. subst (λ (node : Node). node.now - node.known ≤ slice_index x.logs.most_checkpoints n) (sym (same n e)) (h.checkpoints.1 n l refl),
  );
  owned = (
    h.owned.0,
    λ n l e. subst (λ (node : Node). count_below (λ b. is_owned (line_of node.cache b).state) block_count ≤ slice_index x.most_owned n) (sym (same n e))
        (h.owned.1 n l refl),
  );
}

-- the nodes that an event reaches are there

lines_reach : (nodes : ℕ) (lines : Option TouchedLines) → AreThere nodes lines → ReachesNodes nodes (reach_of_lines lines)
lines_reach nodes None there = tt
lines_reach nodes (Some l) there = there.0

pub reaches-nodes : (nodes : ℕ) (s : Fabric) (event : Event) → event_fits nodes event ≡ true → AreThere nodes (touched_lines s event) →
    ReachesNodes nodes (reach_of s event)
reaches-nodes nodes s (Step n) fits there = ltb-true n nodes fits
reaches-nodes nodes s (Evict n block) fits there = ltb-true n nodes fits
reaches-nodes nodes s (Edge n) fits there = ltb-true n nodes fits
reaches-nodes nodes s (Hop id) fits there = tt
reaches-nodes nodes s (Deliver id) fits there = lines_reach nodes (touched_lines s (Deliver id)) there
reaches-nodes nodes s (Lose id) fits there = tt
reaches-nodes nodes s (Kill switch) fits there = tt
reaches-nodes nodes s (Report n) fits there = tt
reaches-nodes nodes s Validate fits there = tt
reaches-nodes nodes s Recover fits there = tt
reaches-nodes nodes s (Input n byte) fits there = tt

-- so where an event reaches nobody no greatest number rises, and where it reaches one node at most that node's

module _ (f : ℕ → ℕ) (nodes : ℕ) (reach : Reach) (numbers : List ℕ) (covered : CoversOthers f nodes reach numbers) where
  pub none-raised : reach ≡ Nobody → numbers ≡ with_greatest_below f nodes numbers
  none-raised is = sym (none-rises f nodes numbers covered.0 (λ n l. covered.1 n l (ap (λ (r : Reach). is_reached r n) is)))

  pub one-raised : (k : ℕ) → reach ≡ One k → ReachesNodes nodes reach → with_greater numbers k (f k) ≡ with_greatest_below f nodes numbers
  one-raised k is there =
      sym (one-rises f nodes k numbers covered.0 (subst (ReachesNodes nodes) is there)
      (λ n l d. covered.1 n l (ap (λ (r : Reach). is_reached r n) is ∙ ne_eqb k n (λ e. d (sym e)))))
