-- At each stage the recovery was led by the controls until then.
use Rattle.std.proofs.Common.{◌≡◌, true, List, [], ◌∷◌, ◌++◌, take, Option, Some, None, refl, ap, sym, subst, ◌∙◌, append_assoc, append-nil}
use Rattle.std.specs.List.{All}
use Rattle.std.proofs.lemmas.List.Elements.{All-nil, All-head, All-tail, All-push, All-take}
use Rattle.sn_base.specs.Image.{ImageData}
use Rattle.sn_base.specs.declared.config.Config.{Config}
use Rattle.sn_base.specs.declared.event.Event.{Event}
use Rattle.sn_base.specs.declared.event.Event.TheVariants.{Recover}
use Rattle.sn_machine.specs.Machine.{MachineData}
use Rattle.consistent_cuts.specs.Headline.{IsRun, state_of_run}
use Rattle.script_replay.specs.Played.{after_event}
use Rattle.rolling_recovery.specs.declared.answers.FinishFault.{FinishFault}
use Rattle.rolling_recovery.specs.declared.controls.Control.{Control}
use Rattle.rolling_recovery.specs.declared.controls.Control.TheVariants.{Order, Repeat, Lose, Deliver, Finish}
use Rattle.rolling_recovery.specs.Controls.{control_fits}
use Rattle.rolling_recovery.specs.Rolling.{RollingData, rolling_start, finish_fault, after_control, after_controls}
use Rattle.rolling_recovery.specs.Recovered.{IsLedTo}
use Rattle.rolling_recovery.proofs.Calls.{after-last}
use Rattle.rolling_recovery.proofs.Led.{calls-machine, each-led}
use Rattle.rolled_replay.specs.declared.job.Roll.{Roll}
use Rattle.rolled_replay.specs.declared.stage.Stage.{Stage}
use Rattle.rolled_replay.specs.declared.stage.Stage.TheVariants.{UnderWay, Recovered}
use Rattle.rolled_replay.specs.Stages.{finished_by, led_stage, stage_after}
use Rattle.rolled_replay.specs.Pieces.{machine_for, after_events}
use Rattle.rolled_replay.specs.Led.{IsLedBy, IsStageBy}
use Rattle.rolled_replay.specs.Rolled.{MayRoll, left_by, IsLed}
use Rattle.rolled_replay.proofs.Left.{left-image, left-config, left-state}

-- a machine that has recovered stays
stays : (m : MachineData) (calls : List Control) → stage_after (Recovered m) calls ≡ Recovered m
stays m [] = refl
stays m (call ∷ calls) = stays m calls

abbrev AllFitting : MachineData → List Control → Type 0
AllFitting m calls = All (λ call. control_fits m.config.nodes call ≡ true) calls

module _ (m : MachineData) (promise : (calls : List Control) → AllFitting m calls → IsLedTo (after_controls (rolling_start m) calls) calls) where
  led-by : (calls : List Control) (r : RollingData) → AllFitting m calls → r ≡ after_controls (rolling_start m) calls → IsLedBy m calls r
  led-by calls r fit by = record {
    by = by;
    promised = subst (λ (t : RollingData). IsLedTo t calls) (sym by) (promise calls fit);
  }

  -- it holds the machine that was handed in
  same-machine : (calls : List Control) (r : RollingData) → r ≡ after_controls (rolling_start m) calls → r.machine ≡ m
  same-machine calls r by = ap (λ (t : RollingData). t.machine) by ∙ calls-machine (rolling_start m) calls

  -- a finish ends it, or leaves it as it was
  finish-led : (done calls : List Control) (r : RollingData) (o : Option FinishFault) → finish_fault r ≡ o → IsLedBy m done r →
      IsStageBy m (done ++ Finish ∷ calls) (stage_after (UnderWay r) calls) →
      IsStageBy m (done ++ Finish ∷ calls) (stage_after (finished_by r o) calls)
  finish-led done calls r (Some fault) is led on = on
  finish-led done calls r None is led on =
      subst (λ (t : Stage). IsStageBy m (done ++ Finish ∷ calls) t) (sym (stays (after_event r.machine Recover) calls)) (record {
        before = done;
        others = calls;
        order = refl;
        rolling = r;
        led = led;
        free = is;
        back = ap (λ (t : MachineData). after_event t Recover) (same-machine done r led.by);
      })

  next-by : (done : List Control) (r : RollingData) (call : Control) → r ≡ after_controls (rolling_start m) done →
      after_control r call ≡ after_controls (rolling_start m) (done ++ call ∷ [])
  next-by done r call by = ap (λ (t : RollingData). after_control t call) by ∙ sym (after-last (rolling_start m) done call)

  next-fit : (done : List Control) (call : Control) (calls : List Control) → AllFitting m done → AllFitting m (call ∷ calls) →
      AllFitting m (done ++ call ∷ [])
  next-fit done call calls fit left =
      All-push (λ c. control_fits m.config.nodes c ≡ true) done call fit (All-head (λ c. control_fits m.config.nodes c ≡ true) call calls left)

  rest-fit : (call : Control) (calls : List Control) → AllFitting m (call ∷ calls) → AllFitting m calls
  rest-fit call calls left = All-tail (λ c. control_fits m.config.nodes c ≡ true) call calls left

  -- so does any control
  one-more : (done calls : List Control) (r : RollingData) (call : Control) → IsLedBy m done r →
      IsStageBy m (done ++ call ∷ calls) (stage_after (UnderWay (after_control r call)) calls) →
      IsStageBy m (done ++ call ∷ calls) (stage_after (led_stage r call) calls)
  one-more done calls r (Order n) led on = on
  one-more done calls r (Repeat id) led on = on
  one-more done calls r (Lose id) led on = on
  one-more done calls r (Deliver id) led on = on
  one-more done calls r Finish led on = finish-led done calls r (finish_fault r) refl led on

  -- after some controls these are left
  stage-from : (calls done : List Control) (r : RollingData) → r ≡ after_controls (rolling_start m) done → AllFitting m done →
      AllFitting m calls → IsStageBy m (done ++ calls) (stage_after (UnderWay r) calls)
  stage-from [] done r by fit left =
      subst (λ (t : List Control). IsStageBy m t (UnderWay r)) (sym (append-nil done)) (led-by done r fit by)
  stage-from (call ∷ calls) done r by fit left =
      one-more done calls r call (led-by done r fit by)
      (subst (λ (t : List Control). IsStageBy m t (stage_after (UnderWay (after_control r call)) calls)) (append_assoc done (call ∷ []) calls)
      (stage-from calls (done ++ call ∷ []) (after_control r call) (next-by done r call by) (next-fit done call calls fit left)
      (rest-fit call calls left)))

-- controls that fit a machine fit the recovery of what events leave of it
pub fit-left : (m left : MachineData) (rolling : RollingData) (events : List Event) (calls : List Control) → left ≡ after_events m events →
    rolling ≡ rolling_start left → All (λ call. control_fits m.config.nodes call ≡ true) calls →
    All (λ call. control_fits rolling.machine.config.nodes call ≡ true) calls
fit-left m left rolling events calls is begins fit =
    subst (λ (c : Config). All (λ call. control_fits c.nodes call ≡ true) calls)
    (sym (ap (λ (t : RollingData). t.machine.config) begins ∙ ap (λ (t : MachineData). t.config) is ∙ left-config m events)) fit

-- the machine that a script leaves has its program and sizes, and the state that the run has reached

left-program : (r : Roll) → (left_by r).image ≡ r.program
left-program r = left-image (machine_for r.program r.config r.script) r.script

left-sizes : (r : Roll) → (left_by r).config ≡ r.config
left-sizes r = left-config (machine_for r.program r.config r.script) r.script

left-reached : (r : Roll) → (left_by r).state ≡ state_of_run (left_by r).image (left_by r).config r.script
left-reached r =
    left-state (machine_for r.program r.config r.script) r.script
    ∙ ap (λ (i : ImageData). state_of_run i r.config r.script) (sym (left-program r))
    ∙ ap (λ (c : Config). state_of_run (left_by r).image c r.script) (sym (left-sizes r))

module _ (r : Roll) (may : MayRoll r) where
  left-run : IsRun (left_by r).config r.script
  left-run = subst (λ (c : Config). IsRun c r.script) (sym (left-sizes r)) may.run

  pub left-fit : All (λ call. control_fits (left_by r).config.nodes call ≡ true) r.controls
  left-fit = subst (λ (c : Config). All (λ call. control_fits c.nodes call ≡ true) r.controls) (sym (left-sizes r)) may.fit

  pub is-led : IsLed r
  is-led i =
      stage-from (left_by r) (λ calls fit. each-led (left_by r) r.script calls left-run (left-reached r) fit) (take i r.controls) []
      (rolling_start (left_by r)) refl (All-nil (λ call. control_fits (left_by r).config.nodes call ≡ true))
      (All-take (λ call. control_fits (left_by r).config.nodes call ≡ true) i r.controls left-fit)
