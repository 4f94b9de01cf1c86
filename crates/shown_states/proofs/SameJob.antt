-- What was done of a replay that shows states was done of the same one in other words.
use Rattle.std.proofs.Common.{◌≡◌, ◌⊎◌, ℕ, ◌≤◌, List, Result, OnOk, refl, ap, sym, subst, ◌∙◌, length, arith}
use Rattle.sn_base.specs.Image.{ImageData}
use Rattle.sn_base.specs.declared.config.Config.{Config}
use Rattle.sn_base.specs.declared.event.Event.{Event}
use Rattle.script_replay.specs.Machine.{MachineData}
use Rattle.sn_model.specs.Machine.{start_of}
use Rattle.sn_probe.specs.Probes.{Meter}
use Rattle.sink_pieces.specs.Pieces.{Ends}
use Rattle.script_replay.specs.Played.{IsAtStart}
use Rattle.shown_states.specs.declared.job.StatesReplay.{StatesReplay}
use Rattle.shown_states.specs.Played.{states_of}
use Rattle.shown_states.specs.Shown.{told_script, IsShown, IsShownInPart, KnowApplied, IsCutShort}

-- events on a machine that is at their program's start
module _ (m : MachineData) (r : StatesReplay) (events : List Event) (room : ℕ) (ready : IsAtStart m r.program r.config room) where
  abbrev with_parts : ImageData → Config → List Event → StatesReplay
  with_parts program config script = record { program = program; config = config; watch = r.watch; only = r.only; script = script }

  pub job-is : events ≡ r.script → states_of m r.watch r.only events ≡ r
  job-is same =
      ap (λ (t : ImageData). with_parts t m.config events) ready.program
      ∙ ap (λ (t : Config). with_parts r.program t events) ready.sizes ∙ ap (with_parts r.program r.config) same

  pub job-ready : length events ≤ room → IsAtStart m m.image m.config (length events)
  job-ready few = record {
    program = refl;
    sizes = refl;
    start =
        ready.start ∙ ap (λ (t : ImageData). start_of t r.config.nodes) (sym ready.program)
        ∙ ap (λ (t : Config). start_of m.image t.nodes) (sym ready.sizes);
    new = ready.new;
    room = omega (arith, few, ready.room);
  }

module _ (done asked : StatesReplay) (same : done ≡ asked) (probes : List Meter) (before behind : Ends) where
  pub as-shown : {A E : Type 0} (result : Result A E) → OnOk result (IsShown done probes before behind) →
      OnOk result (IsShown asked probes before behind)
  as-shown result h = subst (λ (t : StatesReplay). OnOk result (IsShown t probes before behind)) same h

  pub as-broken : {F : Type 0} → (F → IsShownInPart done probes before behind) → F → IsShownInPart asked probes before behind
  as-broken h f = subst (λ (t : StatesReplay). IsShownInPart t probes before behind) same (h f)

  pub as-applied : {F : Type 0} (told : List Meter) → (F → KnowApplied done probes before behind told) → F →
      KnowApplied asked probes before behind told
  as-applied told h f = subst (λ (t : StatesReplay). KnowApplied t probes before behind told) same (h f)

  pub as-cut : {F N : Type 0} (told : List Meter) → (F → N ⊎ IsCutShort done probes before behind told) → F →
      N ⊎ IsCutShort asked probes before behind told
  as-cut {F} {N} told h f = subst (λ (t : StatesReplay). N ⊎ IsCutShort t probes before behind told) same (h f)

pub as-told : {A E : Type 0} (result : Result A E) (done asked : StatesReplay) (probes now_ : List Meter) → done ≡ asked →
    OnOk result (now_ ≡ told_script done probes) → OnOk result (now_ ≡ told_script asked probes)
as-told result done asked probes now_ same h = subst (λ (t : StatesReplay). OnOk result (now_ ≡ told_script t probes)) same h
