-- How far the counting of a run has come, between two of its events.
use Rattle.std.proofs.Common.{◌≡◌, ℕ, zero, suc, ◌+◌, ◌-◌, ◌<◌, ◌≤◌, Bool, true, false, List, [], ◌∷◌, ◌++◌, length, get_or, take, All}
use Rattle.std.proofs.Common.{Option, Some, Result, Ok, Err, is_ok, OnOk, refl, ap, sym, subst, ◌∙◌, arith, true≢false}
use Rattle.std.specs.Prelude.{IfOk, IfSome, is_some, ◌&&◌}
use Rattle.std.proofs.lemmas.Bool.Decides.{nat_tests}
use Rattle.std.proofs.lemmas.List.{take_more}
use Rattle.sn_base.specs.Config.{config_fits}
use Rattle.sn_base.specs.Events.{event_fits}
use Rattle.sn_base.specs.Image.{ImageData}
use Rattle.sn_base.specs.declared.memory.Memory.{Memory}
use Rattle.sn_base.specs.declared.config.Config.{Config}
use Rattle.sn_base.specs.declared.event.Event.{Event}
use Rattle.sn_base.specs.declared.event.Answer.{Answer}
use Rattle.sn_base.specs.declared.event.Answer.TheVariants.{Recovered}
use Rattle.sn_model.specs.Machine.{State, start_of}
use Rattle.sn_model.specs.MachineEvents.{is_recovered}
use Rattle.sn_model.specs.Step.{step_of, state_after}
use Rattle.sn_model.specs.Trace.{entry_at}
use Rattle.sn_model.specs.Caches.{block_count}
use Rattle.sn_model.specs.RecoveryPoint.{IsCut, block_in}
use Rattle.sn_machine.specs.Machine.{MachineData, IsApplied, machine_with_room, next_of, flat_of}
use Rattle.consistent_cuts.specs.Headline.{IsStepOfRun, state_of_run}
use Rattle.consistent_cuts.specs.Lists.{retirement_of}
use Rattle.consistent_cuts.specs.Runs.{AllFit}
use Rattle.run_statistics.specs.declared.count.Count.{Count}
use Rattle.run_statistics.specs.declared.statistics.Before.{Before}
use Rattle.run_statistics.specs.declared.statistics.Statistics.{Statistics}
use Rattle.run_statistics.specs.Counted.{AreCounted, Counts}
use Rattle.run_statistics.specs.Instructions.{waiting_by_node, waiting_after}
use Rattle.run_statistics.specs.declared.owned.TouchedLines.{TouchedLines}
use Rattle.run_statistics.specs.Numbers.{no_numbers}
use Rattle.run_statistics.specs.declared.reach.Reach.{Reach}
use Rattle.run_statistics.specs.Covered.{AreCovered}
use Rattle.run_statistics.specs.Owned.{touched_lines, owned_among, owned_at_point, AreThere, with_lines, AreOwned, reach_of, ReachesNodes, is_recovery}
use Rattle.run_statistics.specs.Statistics.{no_statistics, before_of, statistics_with, statistics_from, statistics_of}
use Rattle.run_statistics.proofs.Pending.{pending-stays}
use Rattle.run_statistics.proofs.Waiting.{waiting-follows}
use Rattle.run_statistics.proofs.Owners.{FollowsLines, SameUnreached}
use Rattle.run_statistics.proofs.OwnersAfter.{lines-follow, others-stay, recovered-fabric}
use Rattle.run_statistics.proofs.OwnedCounts.{none-owned, moved-on, owned-again}
use Rattle.run_statistics.proofs.Covering.{counted-covers, others-covered, reaches-nodes}

-- an event was applied
module _ (m n : MachineData) (event : Event) (answer : Answer) (a : IsApplied m n event answer) where
  pub waits-apply : (waiting : List ℕ) → IsStepOfRun m.image m.config m.state event (next_of m event) →
      waiting ≡ waiting_by_node m.state.pending → waiting_after waiting event answer n.state.pending ≡ waiting_by_node n.state.pending
  waits-apply waiting run had =
      ap (λ (t : MachineData). waiting_after waiting event answer t.state.pending) a.left
      ∙ ap (λ (t : Answer). waiting_after waiting event t (next_of m event).state.pending) a.answer
      ∙ waiting-follows m.state.pending (next_of m event).state.pending waiting had event (next_of m event).answer
      (λ k. retirement_of (entry_at m.image m.state k)) (λ k. refl) (pending-stays m.image m.config m.state event) run.retires
      ∙ ap (λ (t : MachineData). waiting_by_node t.state.pending) (sym a.left)

  pub with-applied : (x : Statistics) (before : Before) → before ≡ before_of m.state →
      statistics_with n.config.nodes x before event (record { state = n.state; answer = answer; sent = n.sent })
      ≡ statistics_with m.config.nodes x (before_of m.state) event (next_of m event)
  with-applied x before had =
      ap (λ (t : MachineData). statistics_with t.config.nodes x before event (record { state = t.state; answer = answer; sent = t.sent })) a.left
      ∙ ap (λ (t : Answer). statistics_with m.config.nodes x before event
      (record { state = (next_of m event).state; answer = t; sent = (next_of m event).sent })) a.answer
      ∙ ap (λ (t : Before). statistics_with m.config.nodes x t event (next_of m event)) had

  -- the greatest numbers need a look at the nodes alone that the event reached

  pub reach-apply : (lines : Option TouchedLines) (reach : Reach) → event_fits m.config.nodes event ≡ true →
      lines ≡ touched_lines m.state.fabric event → AreThere m.config.nodes lines → reach ≡ reach_of m.state.fabric event →
      ReachesNodes n.config.nodes reach
  reach-apply lines reach fits is there far =
      subst (λ (t : MachineData). ReachesNodes t.config.nodes reach) (sym a.left)
      (subst (ReachesNodes m.config.nodes) (sym far)
      (reaches-nodes m.config.nodes m.state.fabric event fits (subst (AreThere m.config.nodes) is there)))

  pub covered-apply : (x : Statistics) (owned : List ℕ) (events : List Event) (reach : Reach) → AreCounted x owned m events →
      length m.state.fabric.nodes ≡ m.config.nodes → m.config.nodes ≤ 16 → event_fits m.config.nodes event ≡ true →
      reach ≡ reach_of m.state.fabric event → AreCovered x n.config.nodes n.state.fabric reach
  covered-apply x owned events reach had count few fits far =
      subst (λ (t : MachineData). AreCovered x t.config.nodes t.state.fabric reach) (sym a.left)
      (others-covered m.config.nodes x m.state.fabric (next_of m event).state.fabric reach
      (subst (SameUnreached m.state.fabric (next_of m event).state.fabric) (sym far)
      (others-stay m.image m.config m.state event (subst (λ k. event_fits k event ≡ true) (sym count) fits)))
      (counted-covers x owned m events few had))

  -- and how many blocks each cache owns is followed

  went_on : (old : List ℕ) (lines : Option TouchedLines) → length m.state.fabric.nodes ≡ m.config.nodes → m.config.nodes ≤ 16 →
      event_fits m.config.nodes event ≡ true → lines ≡ touched_lines m.state.fabric event → AreThere m.config.nodes lines →
      AreOwned m.config.nodes m.state.fabric old → (is_recovery event ≡ true → is_recovered (next_of m event).answer ≡ false) →
      AreOwned m.config.nodes (next_of m event).state.fabric
      (with_lines old lines (owned_among m.state.fabric lines) (owned_among (next_of m event).state.fabric lines))
  went_on old lines count few fits is there had calm =
      moved-on m.config.nodes m.state.fabric (next_of m event).state.fabric old few had lines there
      (subst (FollowsLines m.state.fabric (next_of m event).state.fabric) (sym is)
      (lines-follow m.image m.config m.state event (subst (λ k. event_fits k event ≡ true) (sym count) fits) calm))

  restored : IsStepOfRun m.image m.config m.state event (next_of m event) → length m.state.fabric.nodes ≡ m.config.nodes →
      m.config.nodes ≤ 16 → length m.state.fabric.homes ≡ block_count → IsCut m.state m.state.fabric.point (flat_of m) →
      is_recovery event ≡ true → is_recovered (next_of m event).answer ≡ true →
      AreOwned m.config.nodes (next_of m event).state.fabric (owned_at_point m.config.nodes m.state.fabric)
  restored run count few homes cut recovery done = by_answer (next_of m event).answer refl done where
    by_answer : (said : Answer) → (next_of m event).answer ≡ said → is_recovered said ≡ true →
        AreOwned m.config.nodes (next_of m event).state.fabric (owned_at_point m.config.nodes m.state.fabric)
    by_answer (Recovered undo) is e =
        owned-again m.config.nodes m.state.fabric (next_of m event).state.fabric (block_in (flat_of m).memory)
        (recovered-fabric m.image m.config m.state event recovery done) homes count cut.blocks (run.restored undo is).0.blocks few
    by_answer _ is e = absurd cc

  left_true : (p q : Bool) → (p && q) ≡ true → p ≡ true
  left_true true q h = refl
  left_true false q h = absurd (true≢false (sym h))

  right_true : (p q : Bool) → (p && q) ≡ true → q ≡ true
  right_true true q h = h
  right_true false q h = absurd (true≢false (sym h))

  right_false : (p q : Bool) → (p && q) ≡ false → p ≡ true → q ≡ false
  right_false true q h is = h
  right_false false q h is = absurd (true≢false (sym is))

  pub owned-apply : (old new : List ℕ) (lines : Option TouchedLines) (had : ℕ) (at_point : Option (List ℕ)) →
      IsStepOfRun m.image m.config m.state event (next_of m event) → length m.state.fabric.nodes ≡ m.config.nodes → m.config.nodes ≤ 16 →
      length m.state.fabric.homes ≡ block_count → IsCut m.state m.state.fabric.point (flat_of m) → event_fits m.config.nodes event ≡ true →
      lines ≡ touched_lines m.state.fabric event → AreThere m.config.nodes lines → had ≡ owned_among m.state.fabric lines →
      IfSome at_point (λ numbers. numbers ≡ owned_at_point m.config.nodes m.state.fabric) → is_some at_point ≡ is_recovery event →
      AreOwned m.config.nodes m.state.fabric old →
      ((is_some at_point && is_recovered answer) ≡ false → new ≡ with_lines old lines had (owned_among n.state.fabric lines)) →
      ((is_some at_point && is_recovered answer) ≡ true → Some new ≡ at_point) →
      AreOwned n.config.nodes n.state.fabric new
  owned-apply old new lines had at_point run count few homes cut fits is there counted point recovery owned moved back =
      subst (λ (t : MachineData). AreOwned t.config.nodes t.state.fabric new) (sym a.left)
      (by_test (is_some at_point && is_recovered answer) refl) where
        by_test : (test : Bool) → (is_some at_point && is_recovered answer) ≡ test → AreOwned m.config.nodes (next_of m event).state.fabric new
        by_test false e =
            subst (AreOwned m.config.nodes (next_of m event).state.fabric)
            (sym (moved e ∙ ap (λ k. with_lines old lines k (owned_among n.state.fabric lines)) counted
            ∙ ap (λ (t : MachineData). with_lines old lines (owned_among m.state.fabric lines) (owned_among t.state.fabric lines)) a.left))
            (went_on old lines count few fits is there owned
            (λ r. sym (ap is_recovered a.answer) ∙ right_false (is_some at_point) (is_recovered answer) e (recovery ∙ r)))
        by_test true e =
            subst (AreOwned m.config.nodes (next_of m event).state.fabric)
            (sym (subst (λ (o : Option (List ℕ)). IfSome o (λ numbers. numbers ≡ owned_at_point m.config.nodes m.state.fabric)) (sym (back e)) point))
            (restored run count few homes cut (sym recovery ∙ left_true (is_some at_point) (is_recovered answer) e)
            (sym (ap is_recovered a.answer) ∙ right_true (is_some at_point) (is_recovered answer) e))

-- one event more at the end of a run

state_after-snoc : (image : ImageData) (config : Config) (s : State) (events : List Event) (event : Event) →
    state_after image config s (events ++ event ∷ []) ≡ (step_of image config (state_after image config s events) event).state
state_after-snoc image config s [] event = refl
state_after-snoc image config s (first ∷ events) event = state_after-snoc image config (step_of image config s first).state events event

statistics_from-snoc : (image : ImageData) (config : Config) (s : State) (events : List Event) (event : Event) (x : Statistics) →
    statistics_from image config s (events ++ event ∷ []) x
    ≡ statistics_with config.nodes (statistics_from image config s events x) (before_of (state_after image config s events)) event
    (step_of image config (state_after image config s events) event)
unfolding statistics_from
statistics_from-snoc image config s [] event x = refl
statistics_from-snoc image config s (first ∷ events) event x =
    statistics_from-snoc image config (step_of image config s first).state events event
    (statistics_with config.nodes x (before_of s) first (step_of image config s first))

statistics_of-snoc : (image : ImageData) (config : Config) (events : List Event) (event : Event) →
    statistics_of image config (events ++ event ∷ [])
    ≡ statistics_with config.nodes (statistics_of image config events) (before_of (state_of_run image config events)) event
    (step_of image config (state_of_run image config events) event)
unfolding statistics_of
statistics_of-snoc image config events event = statistics_from-snoc image config (start_of image config.nodes) events event no_statistics

abbrev after_next : MachineData → Event → MachineData
after_next m event = record m {
  state = (next_of m event).state;
  sent = (next_of m event).sent;
  applied = m.applied + 1;
  spare = m.spare - 1;
}

module _ (m : MachineData) (event : Event) (x : Statistics) (owned : List ℕ) (events : List Event) (h : AreCounted x owned m events) where
  abbrev with_next : Statistics
  with_next = statistics_with m.config.nodes x (before_of m.state) event (next_of m event)

  counted_then : (now : List ℕ) → AreOwned m.config.nodes (next_of m event).state.fabric now →
      AreCounted with_next now (after_next m event) (events ++ event ∷ [])
  counted_then now counts = record {
    led = ap (λ (s : State). (step_of m.image m.config s event).state) h.led
        ∙ sym (state_after-snoc m.image m.config (start_of m.image m.config.nodes) events event);
    statistics = ap (λ (t : Statistics). statistics_with m.config.nodes t (before_of m.state) event (next_of m event)) h.statistics
        ∙ ap (λ (s : State). statistics_with m.config.nodes (statistics_of m.image m.config events) (before_of s) event
        (step_of m.image m.config s event)) h.led
        ∙ sym (statistics_of-snoc m.image m.config events event);
    waits = refl;
    owned = counts;
  }

  -- an event was applied and counted
  pub counted-next : (n : MachineData) (y : Statistics) (now : List ℕ) → n ≡ after_next m event → y ≡ with_next →
      AreOwned n.config.nodes n.state.fabric now → AreCounted y now n (events ++ event ∷ [])
  counted-next n y now e f counts =
      subst (λ (t : MachineData). AreCounted y now t (events ++ event ∷ [])) (sym e)
      (subst (λ (t : Statistics). AreCounted t now (after_next m event) (events ++ event ∷ [])) (sym f)
      (counted_then now (subst (λ (t : MachineData). AreOwned t.config.nodes t.state.fabric now) e counts)))

-- at the start no cache owns a block

few_nodes : (config : Config) → config_fits config ≡ true → config.nodes ≤ 16
few_nodes config fits = grind (arith, nat_tests, fits)

counted_none : (program : ImageData) (config : Config) (room : ℕ) → config_fits config ≡ true →
    AreCounted no_statistics no_numbers (machine_with_room program config room) []
unfolding statistics_from statistics_of
counted_none program config room fits = record {
  led = refl;
  statistics = refl;
  waits = refl;
  owned = none-owned program config.nodes (few_nodes config fits);
}

pub counted-first : (program : ImageData) (config : Config) (room : ℕ) (first : Statistics) (numbers : List ℕ) → config_fits config ≡ true →
    first ≡ no_statistics → numbers ≡ no_numbers → AreCounted first numbers (machine_with_room program config room) []
counted-first program config room first numbers fits new none =
    subst (λ (t : Statistics). AreCounted t numbers (machine_with_room program config room) []) (sym new)
    (subst (λ (t : List ℕ). AreCounted no_statistics t (machine_with_room program config room) []) (sym none)
    (counted_none program config room fits))

-- the nodes and switches that events of a run name are there: for callers that know a run by `IsRun`
pub fits-all : (nodes : ℕ) (events : List Event) → AllFit nodes events → All (λ (e : Event). event_fits nodes e ≡ true) events
fits-all nodes [] fit k d below = absurd (omega (arith, below))
fits-all nodes (e ∷ events) fit zero d below = fit.0.numbers
fits-all nodes (e ∷ events) fit (suc k) d below = fits-all nodes events fit.1 k d (omega (arith, below))

-- some events were counted, those before a place, on a machine that was this at first
pub record IsCountedSoFar (start : MachineData) (events : List Event) (i : ℕ) (count : Count) (m : MachineData) : Type 0 where
  pub counts : Counts count m (take i events)
  pub image : m.image ≡ start.image
  pub config : m.config ≡ start.config
  pub room : length events ≤ m.spare + i

module _ (start : MachineData) (events : List Event) (i : ℕ) (count : Count) (m : MachineData) (h : IsCountedSoFar start events i count m) where
  module _ (event : Event) (below : i < length events) (is : event ≡ get_or events i event) where
    pub next-fits : All (λ (e : Event). event_fits start.config.nodes e ≡ true) events → event_fits m.config.nodes event ≡ true
    next-fits fit =
        subst (λ (k : Config). event_fits k.nodes event ≡ true) (sym h.config)
        (subst (λ (e : Event). event_fits start.config.nodes e ≡ true) (sym is) (fit i event below))

    pub next-room : 1 ≤ m.spare
    next-room = let r = h.room in omega (arith, r, below)

    -- the next event was applied and counted
    pub next-counted : (now : Count) (n : MachineData) (answer : Answer) → IsApplied m n event answer →
        Counts now n (take i events ++ event ∷ []) → IsCountedSoFar start events (i + 1) now n
    next-counted now n answer a counts = record {
      counts = subst (λ (l : List Event). Counts now n l)
          (ap (λ (e : Event). take i events ++ e ∷ []) is ∙ sym (take_more events i event below)) counts;
      image = ap (λ (t : MachineData). t.image) a.left ∙ h.image;
      config = ap (λ (t : MachineData). t.config) a.left ∙ h.config;
      room = let r = h.room in let s = ap (λ (t : MachineData). t.spare) a.left in omega (arith, r, s, below);
    }

  -- all events were counted
  pub counted-all : take i events ≡ events → count.on ≡ true → count.statistics ≡ statistics_of start.image start.config events
  counted-all all on =
      (h.counts on).statistics ∙ ap (λ (k : ImageData). statistics_of k m.config (take i events)) h.image
      ∙ ap (λ (k : Config). statistics_of start.image k (take i events)) h.config ∙ ap (statistics_of start.image start.config) all

-- what a count hands over, where it still counts
pub handed-over : (r : Result Statistics Memory) (on : Bool) (x y : Statistics) → OnOk r (on ≡ true) → IfOk r (λ t. t ≡ x) →
    (on ≡ true → x ≡ y) → IfOk r (λ t. t ≡ y)
handed-over (Ok t) on x y counts is known = is ∙ known counts
handed-over (Err lack) on x y counts is known = tt

-- an event was counted, where memory for it was there
pub added-ok : {P : Type 0} (r : Result (Unit {0}) Memory) → OnOk r P → is_ok r ≡ true → P
added-ok (Ok done) h e = h
added-ok (Err lack) h e = cc
