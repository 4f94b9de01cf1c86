-- A replay in the words of the machine that is at its program's start, and what was done of it.
use Rattle.std.proofs.Common.{◌≡◌, ℕ, List, length, ap, sym, subst, ◌∙◌}
use Rattle.sn_base.specs.Image.{ImageData}
use Rattle.sn_base.specs.declared.config.Config.{Config}
use Rattle.sn_base.specs.declared.event.Event.{Event}
use Rattle.sn_machine.specs.Machine.{MachineData, machine_with_room}
use Rattle.sn_probe.specs.Probes.{Meter}
use Rattle.sink_pieces.specs.Pieces.{Ends}
use Rattle.saved_replay.specs.declared.job.SavedReplay.{SavedReplay}
use Rattle.saved_replay.specs.Shown.{job_of, told_script, IsDone, IsBrokenOff, KnowApplied}

module _ (m : MachineData) (image : ImageData) (config : Config) (room : ℕ) (is : m ≡ machine_with_room image config room) where
  -- it is at the start for so many events
  pub at-start : (events : List Event) → room ≡ length events → m ≡ machine_with_room m.image m.config (length events)
  at-start events enough =
      is ∙ ap (machine_with_room image config) enough
      ∙ ap (λ (i : ImageData). machine_with_room i config (length events)) (sym (ap (λ (t : MachineData). t.image) is))
      ∙ ap (λ (c : Config). machine_with_room m.image c (length events)) (sym (ap (λ (t : MachineData). t.config) is))

-- events for it are those that were asked for
pub asked-is : (m : MachineData) (r : SavedReplay) (room : ℕ) (events : List Event) → m ≡ machine_with_room r.program r.config room →
    events ≡ r.script → job_of m events ≡ r
asked-is m r room events is same =
    ap (λ (t : MachineData). job_of t events) is
    ∙ ap (λ (t : List Event). job_of (machine_with_room r.program r.config room) t) same

module _ (done asked : SavedReplay) (same : done ≡ asked) where
  module _ (probes : List Meter) where
    pub as-told : (now_ : List Meter) → now_ ≡ told_script done probes → now_ ≡ told_script asked probes
    as-told now_ h = subst (λ (t : SavedReplay). now_ ≡ told_script t probes) same h

  module _ (before behind : Ends) where
    pub as-done : IsDone done before behind → IsDone asked before behind
    as-done h = subst (λ (t : SavedReplay). IsDone t before behind) same h

    pub as-broken : IsBrokenOff done before behind → IsBrokenOff asked before behind
    as-broken h = subst (λ (t : SavedReplay). IsBrokenOff t before behind) same h

    pub as-applied : (probes told : List Meter) → KnowApplied done probes before behind told → KnowApplied asked probes before behind told
    as-applied probes told h = subst (λ (t : SavedReplay). KnowApplied t probes before behind told) same h
