-- A replay and its recovery in the words of the machine that is at its program's start.
use Rattle.std.proofs.Common.{◌≡◌, ℕ, ◌+◌, List, length, ap, sym, ◌∙◌}
use Rattle.sn_base.specs.Image.{ImageData}
use Rattle.sn_base.specs.declared.config.Config.{Config}
use Rattle.sn_base.specs.declared.event.Event.{Event}
use Rattle.sn_machine.specs.Machine.{MachineData, machine_with_room}
use Rattle.rolling_recovery.specs.declared.controls.Control.{Control}
use Rattle.rolled_replay.specs.declared.job.Roll.{Roll}
use Rattle.rolled_replay.specs.Pieces.{machine_for}
use Rattle.rolled_replay.specs.Rolled.{roll_of}

module _ (m : MachineData) (image : ImageData) (config : Config) (room : ℕ) (is : m ≡ machine_with_room image config room) where
  -- it is at the start for so many events
  pub at-start : (events : List Event) → room ≡ length events + 1 → m ≡ machine_for m.image m.config events
  at-start events enough =
      is ∙ ap (machine_with_room image config) enough
      ∙ ap (λ (i : ImageData). machine_for i config events) (sym (ap (λ (t : MachineData). t.image) is))
      ∙ ap (λ (c : Config). machine_for m.image c events) (sym (ap (λ (t : MachineData). t.config) is))

-- events and controls for it are those that were asked for
pub asked-is : (m : MachineData) (r : Roll) (room : ℕ) (events : List Event) (controls : List Control) →
    m ≡ machine_with_room r.program r.config room → events ≡ r.script → controls ≡ r.controls → roll_of m r.watch events controls ≡ r
asked-is m r room events controls is same called =
    ap (λ (t : MachineData). roll_of t r.watch events controls) is
    ∙ ap (λ t. roll_of (machine_with_room r.program r.config room) r.watch t controls) same
    ∙ ap (λ t. roll_of (machine_with_room r.program r.config room) r.watch r.script t) called
