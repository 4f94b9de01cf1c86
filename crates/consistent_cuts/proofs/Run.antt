-- Along every run of the machine what is joined is kept.
use Rattle.std.proofs.Common.{◌≡◌, ℕ, ◌≤◌, true, List, [], ◌∷◌, arith, sym, ◌∙◌, subst}
use Rattle.std.proofs.lemmas.Bool.Decides.{nat_tests}
use Rattle.sn_base.specs.Config.{config_fits}
use Rattle.sn_base.specs.Image.{ImageData}
use Rattle.sn_base.specs.declared.config.Config.{Config}
use Rattle.sn_base.specs.declared.event.Event.{Event}
use Rattle.std.proofs.lemmas.List.{length-replicate}
use Rattle.sn_model.specs.Fabric.{first_node}
use Rattle.sn_model.specs.Machine.{State, start_of}
use Rattle.sn_model.specs.Step.{step_of, state_after}
use Rattle.sn_model.specs.Trace.{TraceEntry, trace_after_event, trace_after}
use Rattle.consistent_cuts.specs.RunInvariant.{Holds}
use Rattle.fabric_bounds.specs.Resumed.{resumed, saved_entries}
use Rattle.consistent_cuts.specs.Origins.{Origin, Start, Resumed, MayBegin, state_at, entries_at, reached_from, retirements_from}
use Rattle.consistent_cuts.specs.Runs.{EventFits, AllFit}
use Rattle.consistent_cuts.specs.Headline.{IsRun, IsConsistent, IsStepOfRun, state_of_run, retirements}
use Rattle.consistent_cuts.proofs.EachEvent.{event_joins}
use Rattle.consistent_cuts.proofs.Events.{event_says}
use Rattle.consistent_cuts.proofs.Half.{half}
use Rattle.consistent_cuts.proofs.Moments.{consistent}
use Rattle.consistent_cuts.proofs.NodesStay.{step_count}
use Rattle.consistent_cuts.proofs.ResumedJoins.{resumed_holds}
use Rattle.consistent_cuts.proofs.Start.{start_joins}

module _ (image : ImageData) (config : Config) (nodes : ℕ) where
  pub step_holds : (s : State) (trace : List TraceEntry) (event : Event) → Holds image nodes s trace → EventFits nodes event →
      Holds image nodes (step_of image config s event).state (trace_after_event image s event (step_of image config s event).answer trace)
  step_holds s trace event (count, (r, list, j)) fits = (
    step_count image config s event
        ∙ count,
    event_joins half image config s trace r list j event (subst (λ n. EventFits n event) (sym count) fits),
  )

  pub run_holds : (s : State) (trace : List TraceEntry) (events : List Event) → AllFit nodes events → Holds image nodes s trace →
      Holds image nodes (state_after image config s events) (trace_after image config s events trace)
  run_holds s trace [] fits h = h
  run_holds s trace (event ∷ events) fits h =
      run_holds (step_of image config s event).state (trace_after_event image s event (step_of image config s event).answer trace) events fits.1
      (step_holds s trace event h fits.0)

pub start_holds : (image : ImageData) (nodes : ℕ) → 1 ≤ nodes → nodes ≤ 16 → Holds image nodes (start_of image nodes) []
start_holds image nodes some few = (length-replicate nodes first_node, start_joins half image nodes some few)

pub holds_consistent : (image : ImageData) (nodes : ℕ) (s : State) (trace : List TraceEntry) → Holds image nodes s trace →
    IsConsistent image nodes s trace
holds_consistent image nodes s trace (count, (r, list, j)) = consistent half image s r list trace j nodes count

pub holds_next : (image : ImageData) (config : Config) (s : State) (trace : List TraceEntry) (event : Event) →
    Holds image config.nodes s trace → EventFits config.nodes event → IsStepOfRun image config s event (step_of image config s event)
holds_next image config s trace event (count, (r, list, j)) fits = event_says half image config s r list trace j count event fits

some : (config : Config) → config_fits config ≡ true → 1 ≤ config.nodes
some config fits = grind (arith, nat_tests)

few : (config : Config) → config_fits config ≡ true → config.nodes ≤ 16
few config fits = grind (arith, nat_tests)

-- wherever a run may begin
pub origin_holds : (image : ImageData) (config : Config) (origin : Origin) → MayBegin image config origin → config_fits config ≡ true →
    Holds image config.nodes (state_at image config origin) (entries_at image origin)
origin_holds image config Start may fits = start_holds image config.nodes (some config fits) (few config fits)
origin_holds image config (Resumed saved) may fits =
    subst (λ (c : Config). Holds image c.nodes (resumed image saved) (saved_entries image saved)) may.0 (resumed_holds image saved may.1)

-- of a fitting configuration, from there
module _ (image : ImageData) (config : Config) (origin : Origin) (events : List Event) (may : MayBegin image config origin) (run : IsRun config events) where
  pub from_holds : Holds image config.nodes (reached_from image config origin events) (retirements_from image config origin events)
  from_holds =
      run_holds image config config.nodes (state_at image config origin) (entries_at image origin) events run.events_fit
      (origin_holds image config origin may run.fits)

  pub from_consistent :
      IsConsistent image config.nodes (reached_from image config origin events) (retirements_from image config origin events)
  from_consistent =
      holds_consistent image config.nodes (reached_from image config origin events) (retirements_from image config origin events) from_holds

  pub from_next : (event : Event) → EventFits config.nodes event →
      IsStepOfRun image config (reached_from image config origin events) event
      (step_of image config (reached_from image config origin events) event)
  from_next event fits =
      holds_next image config (reached_from image config origin events) (retirements_from image config origin events) event from_holds fits

-- from a program's start
module _ (image : ImageData) (config : Config) (events : List Event) (run : IsRun config events) where
  pub reached_consistent : IsConsistent image config.nodes (state_of_run image config events) (retirements image config events)
  reached_consistent = from_consistent image config Start events tt run

  pub reached_next : (event : Event) → EventFits config.nodes event →
      IsStepOfRun image config (state_of_run image config events) event (step_of image config (state_of_run image config events) event)
  reached_next = from_next image config Start events tt run
