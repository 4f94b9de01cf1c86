-- A replay in the words of the machine that is at its program's start, and what was done of it.
use Rattle.std.proofs.Common.{◌≡◌, ℕ, List, length, ap, sym, subst, ◌∙◌}
use Rattle.sn_base.specs.Image.{ImageData}
use Rattle.sn_base.specs.declared.config.Config.{Config}
use Rattle.sn_base.specs.declared.event.Event.{Event}
use Rattle.rv_core.specs.declared.state.CoreState.{CoreState}
use Rattle.rv_core.specs.Flat.{first_cores}
use Rattle.sn_machine.specs.Machine.{MachineData, machine_with_room}
use Rattle.sn_probe.specs.Probes.{Meter}
use Rattle.sink_pieces.specs.Pieces.{Ends}
use Rattle.script_replay.specs.declared.job.Replay.{Replay}
use Rattle.script_replay.specs.Probed.{told_all}
use Rattle.script_replay.specs.Scheduled.{replay_of}
use Rattle.accesses_replay.specs.Shown.{IsDone, IsBrokenOff, KnowApplied}

module _ (m : MachineData) (image : ImageData) (config : Config) (room : ℕ) (is : m ≡ machine_with_room image config room) where
  -- it is at the start for so many events
  pub at-start : (events : List Event) → room ≡ length events → m ≡ machine_with_room m.image m.config (length events)
  at-start events enough =
      is ∙ ap (machine_with_room image config) enough
      ∙ ap (λ (i : ImageData). machine_with_room i config (length events)) (sym (ap (λ (t : MachineData). t.image) is))
      ∙ ap (λ (c : Config). machine_with_room m.image c (length events)) (sym (ap (λ (t : MachineData). t.config) is))

  -- and so are the cores of the rows
  pub cores-start : (cores : List CoreState) → cores ≡ first_cores config.nodes image.entry → cores ≡ first_cores m.config.nodes m.image.entry
  cores-start cores at =
      at ∙ ap (λ (i : ImageData). first_cores config.nodes i.entry) (sym (ap (λ (t : MachineData). t.image) is))
      ∙ ap (λ (c : Config). first_cores c.nodes m.image.entry) (sym (ap (λ (t : MachineData). t.config) is))

-- events for it are those that were asked for
pub asked-is : (m : MachineData) (r : Replay) (room : ℕ) (events : List Event) → m ≡ machine_with_room r.program r.config room →
    events ≡ r.script → replay_of m r.showing events ≡ r
asked-is m r room events is same =
    ap (λ (t : MachineData). replay_of t r.showing events) is
    ∙ ap (λ (t : List Event). replay_of (machine_with_room r.program r.config room) r.showing t) same

module _ (done asked : Replay) (same : done ≡ asked) (probes : List Meter) where
  pub as-told : (now_ : List Meter) → now_ ≡ told_all done probes → now_ ≡ told_all asked probes
  as-told now_ h = subst (λ (t : Replay). now_ ≡ told_all t probes) same h

  module _ (before behind : Ends) where
    pub as-done : IsDone done probes before behind → IsDone asked probes before behind
    as-done h = subst (λ (t : Replay). IsDone t probes before behind) same h

    pub as-broken : IsBrokenOff done probes before behind → IsBrokenOff asked probes before behind
    as-broken h = subst (λ (t : Replay). IsBrokenOff t probes before behind) same h

    pub as-applied : (told : List Meter) → KnowApplied done probes before behind told → KnowApplied asked probes before behind told
    as-applied told h = subst (λ (t : Replay). KnowApplied t probes before behind told) same h
