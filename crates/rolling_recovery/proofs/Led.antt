-- What holds of a recovery that calls have led to.
use Rattle.std.proofs.Common.{◌≡◌, ℕ, ◌≤◌, true, List, [], ◌∷◌, length, refl, sym, ap, ◌∙◌, subst, arith}
use Rattle.std.specs.List.{All}
use Rattle.std.proofs.lemmas.Bool.Decides.{nat_tests}
use Rattle.sn_base.specs.Config.{config_fits}
use Rattle.sn_base.specs.Image.{ImageData}
use Rattle.sn_base.specs.declared.config.Config.{Config}
use Rattle.sn_base.specs.declared.event.Event.{Event}
use Rattle.sn_base.specs.declared.event.Event.TheVariants.{Recover}
use Rattle.sn_model.specs.Caches.{block_count}
use Rattle.sn_model.specs.Machine.{State, start_of}
use Rattle.sn_model.specs.RecoveryPoint.{IsCut}
use Rattle.sn_model.specs.Trace.{TraceEntry}
use Rattle.fabric_coherence.specs.Steps.{IsShaped}
use Rattle.consistent_cuts.specs.Headline.{IsRun, IsConsistent, IsStepOfRun, state_of_run, retirements}
use Rattle.consistent_cuts.specs.RunInvariant.{Holds}
use Rattle.consistent_cuts.proofs.Run.{run_holds, start_holds, reached_consistent, reached_next}
use Rattle.sn_machine.specs.Machine.{MachineData, next_of, flat_of}
use Rattle.rolling_recovery.specs.declared.controls.Control.{Control}
use Rattle.rolling_recovery.specs.Controls.{control_fits}
use Rattle.rolling_recovery.specs.Rolling.{RollingData, rolling_start, after_control, after_controls}
use Rattle.rolling_recovery.specs.Invariant.{HasCalls}
use Rattle.rolling_recovery.specs.Recovered.{IsLedTo}
use Rattle.rolling_recovery.proofs.Calls.{follows, part-ordered, call-machine}
use Rattle.rolling_recovery.proofs.Parted.{apart}
use Rattle.rolling_recovery.proofs.Restored.{made-of-parts}

-- a machine whose recovery point is a cut, to which a recovery goes back
pub record IsWhole (m : MachineData) : Type 0 where
  pub count : length m.state.fabric.nodes ≡ m.config.nodes
  pub some : 1 ≤ m.config.nodes
  pub few : m.config.nodes ≤ 16
  pub homes : length m.state.fabric.homes ≡ block_count
  pub cut : IsCut m.state m.state.fabric.point (flat_of m)
  pub back : IsStepOfRun m.image m.config m.state Recover (next_of m Recover)

pub led-to : (r : RollingData) (calls : List Control) → IsWhole r.machine → HasCalls r calls → IsLedTo r calls
led-to r calls w h = record {
  parts = part-ordered r calls w.few h;
  noted = (follows r calls w.few h).noted;
  apart = apart r;
  whole = made-of-parts r w.count w.some w.few w.homes w.cut w.back (follows r calls w.few h);
}

-- a machine that a run has come to is so

shape_of : (image : ImageData) (nodes : ℕ) (s : State) (trace : List TraceEntry) → Holds image nodes s trace → IsShaped s.fabric
shape_of image nodes s trace (count, (r, list, j)) = j.fabric.1.shape

module _ (image : ImageData) (config : Config) (events : List Event) (run : IsRun config events) where
  some-nodes : (fits : config_fits config ≡ true) → 1 ≤ config.nodes
  some-nodes fits = grind (arith, nat_tests)

  few-nodes : (fits : config_fits config ≡ true) → config.nodes ≤ 16
  few-nodes fits = grind (arith, nat_tests)

  shape : IsShaped (state_of_run image config events).fabric
  shape =
      shape_of image config.nodes (state_of_run image config events) (retirements image config events)
      (run_holds image config config.nodes (start_of image config.nodes) [] events run.events_fit
      (start_holds image config.nodes (some-nodes run.fits) (few-nodes run.fits)))

  consistent : IsConsistent image config.nodes (state_of_run image config events) (retirements image config events)
  consistent = reached_consistent image config events run

  pub whole-run : (m : MachineData) → m.image ≡ image → m.config ≡ config → m.state ≡ state_of_run image config events → IsWhole m
  whole-run m i c s = record {
    count = ap (λ (x : State). length x.fabric.nodes) s ∙ consistent.count ∙ ap (λ (x : Config). x.nodes) (sym c);
    some = subst (λ (x : Config). 1 ≤ x.nodes) (sym c) (some-nodes run.fits);
    few = subst (λ (x : Config). x.nodes ≤ 16) (sym c) (few-nodes run.fits);
    homes = ap (λ (x : State). length x.fabric.homes) s ∙ shape.homes;
    cut = rw (i, c, s) consistent.cut;
    back = rw (i, c, s) (reached_next image config events run Recover (record { numbers = refl; block = refl }));
  }

pub calls-machine : (r : RollingData) (calls : List Control) → (after_controls r calls).machine ≡ r.machine
calls-machine r [] = refl
calls-machine r (call ∷ calls) = calls-machine (after_control r call) calls ∙ call-machine r call

pub has-calls : (m : MachineData) (calls : List Control) → All (λ call. control_fits m.config.nodes call ≡ true) calls →
    HasCalls (after_controls (rolling_start m) calls) calls
has-calls m calls fit = record {
  fit = subst (λ (x : MachineData). All (λ call. control_fits x.config.nodes call ≡ true) calls) (sym (calls-machine (rolling_start m) calls)) fit;
  led = ap (λ (x : MachineData). after_controls (rolling_start x) calls) (sym (calls-machine (rolling_start m) calls));
}

pub each-led : (m : MachineData) (events : List Event) (calls : List Control) → IsRun m.config events →
    m.state ≡ state_of_run m.image m.config events → All (λ call. control_fits m.config.nodes call ≡ true) calls →
    IsLedTo (after_controls (rolling_start m) calls) calls
each-led m events calls run s fit =
    led-to (after_controls (rolling_start m) calls) calls
    (subst IsWhole (sym (calls-machine (rolling_start m) calls)) (whole-run m.image m.config events run m refl refl s)) (has-calls m calls fit)
