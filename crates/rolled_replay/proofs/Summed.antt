-- The pieces of a recovery: the lines of its controls, and then the summary.
use Rattle.std.proofs.Common.{◌≡◌, ℕ, List, [], ap, subst, ◌∙◌}
use Rattle.std.specs.Prelude.{Option}
use Rattle.sn_machine.specs.Machine.{MachineData}
use Rattle.sink_pieces.specs.Pieces.{Piece, Ends, after, Breaks}
use Rattle.sink_pieces.proofs.PieceLaws.{after-append, Breaks-more, Breaks-after}
use Rattle.script_replay.specs.Pieces.{summary_pieces}
use Rattle.rolling_recovery.specs.declared.controls.Control.{Control}
use Rattle.rolling_recovery.specs.Rolling.{RollingData, rolling_start}
use Rattle.rolled_replay.specs.declared.stage.Stage.{Stage}
use Rattle.rolled_replay.specs.declared.stage.Stage.TheVariants.{UnderWay}
use Rattle.rolled_replay.specs.Stages.{stage_after, machine_of}
use Rattle.rolled_replay.specs.Pieces.{control_pieces, recovery_pieces}

-- what the summary says of a machine
abbrev pub summed : MachineData → Option ℕ → List (List ℕ) → ℕ → List Piece
summed m watch tallies events = summary_pieces [] m.image m.config watch tallies events m.state

module _ (stage : Stage) (controls : List Control) (watch : Option ℕ) (tallies : List (List ℕ)) (events : ℕ) where
  pub lines-broken : (a b : Ends) → Breaks (control_pieces 0 stage controls) a b → Breaks (recovery_pieces stage controls watch tallies events) a b
  lines-broken a b broken =
      Breaks-more (control_pieces 0 stage controls) (summed (machine_of (stage_after stage controls)) watch tallies events) a b broken

  module _ (last : Stage) (m : MachineData) (led : last ≡ stage_after stage controls) (shown : m ≡ machine_of last) (a b d : Ends) (lines : b ≡ after a (control_pieces 0 stage controls)) where
    machine-is : m ≡ machine_of (stage_after stage controls)
    machine-is = shown ∙ ap machine_of led

    pub recovery-put : d ≡ after b (summed m watch tallies events) → d ≡ after a (recovery_pieces stage controls watch tallies events)
    recovery-put put =
        put ∙ ap (λ (t : MachineData). after b (summed t watch tallies events)) machine-is
        ∙ ap (λ (e : Ends). after e (summed (machine_of (stage_after stage controls)) watch tallies events)) lines
        ∙ after-append a (control_pieces 0 stage controls) (summed (machine_of (stage_after stage controls)) watch tallies events)

    pub summary-broken : Breaks (summed m watch tallies events) b d → Breaks (recovery_pieces stage controls watch tallies events) a d
    summary-broken broken =
        Breaks-after (control_pieces 0 stage controls) (summed (machine_of (stage_after stage controls)) watch tallies events) a d
        (subst (λ (e : Ends). Breaks (summed (machine_of (stage_after stage controls)) watch tallies events) e d) lines
        (subst (λ (t : MachineData). Breaks (summed t watch tallies events) b d) machine-is broken))

-- a recovery that has just begun is one of the machine that it began with
module _ (rolling : RollingData) (m : MachineData) (begins : rolling ≡ rolling_start m) (controls : List Control) (watch : Option ℕ) (tallies : List (List ℕ)) (events : ℕ) (a b : Ends) where
  pub begun-put : b ≡ after a (recovery_pieces (UnderWay rolling) controls watch tallies events) →
      b ≡ after a (recovery_pieces (UnderWay (rolling_start m)) controls watch tallies events)
  begun-put put = subst (λ (t : RollingData). b ≡ after a (recovery_pieces (UnderWay t) controls watch tallies events)) begins put

  pub begun-broke : Breaks (recovery_pieces (UnderWay rolling) controls watch tallies events) a b →
      Breaks (recovery_pieces (UnderWay (rolling_start m)) controls watch tallies events) a b
  begun-broke broken = subst (λ (t : RollingData). Breaks (recovery_pieces (UnderWay t) controls watch tallies events) a b) begins broken

-- the summary of a machine is that of one that is the same
module _ (m other : MachineData) (same : m ≡ other) (watch : Option ℕ) (tallies : List (List ℕ)) (events : ℕ) (a b : Ends) where
  pub end-put : b ≡ after a (summed m watch tallies events) → b ≡ after a (summed other watch tallies events)
  end-put put = subst (λ (t : MachineData). b ≡ after a (summed t watch tallies events)) same put

  pub end-broke : Breaks (summed m watch tallies events) a b → Breaks (summed other watch tallies events) a b
  end-broke broken = subst (λ (t : MachineData). Breaks (summed t watch tallies events) a b) same broken
