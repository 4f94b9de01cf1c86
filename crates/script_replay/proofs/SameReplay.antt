-- What was done of a replay was done of the same replay in other words.
use Rattle.std.proofs.Common.{◌≡◌, List, Result, OnOk, subst}
use Rattle.sn_probe.specs.Probes.{Meter}
use Rattle.sink_pieces.specs.Pieces.{Ends}
use Rattle.script_replay.specs.declared.job.Replay.{Replay}
use Rattle.script_replay.specs.Probed.{told_all}
use Rattle.script_replay.specs.Shown.{IsReplayed, IsBrokenOff, KnowApplied}

module _ (done asked : Replay) (same : done ≡ asked) (probes : List Meter) (before behind : Ends) where
  pub as-replayed : {A E : Type 0} (result : Result A E) → OnOk result (IsReplayed done probes before behind) →
      OnOk result (IsReplayed asked probes before behind)
  as-replayed result h = subst (λ (t : Replay). OnOk result (IsReplayed t probes before behind)) same h

  pub as-broken : {F : Type 0} → (F → IsBrokenOff done probes before behind) → F → IsBrokenOff asked probes before behind
  as-broken h f = subst (λ (t : Replay). IsBrokenOff t probes before behind) same (h f)

  pub as-applied : {F : Type 0} (told : List Meter) → (F → KnowApplied done probes before behind told) → F →
      KnowApplied asked probes before behind told
  as-applied told h f = subst (λ (t : Replay). KnowApplied t probes before behind told) same (h f)

pub as-told : {A E : Type 0} (result : Result A E) (done asked : Replay) (probes now_ : List Meter) → done ≡ asked →
    OnOk result (now_ ≡ told_all done probes) → OnOk result (now_ ≡ told_all asked probes)
as-told result done asked probes now_ same h = subst (λ (t : Replay). OnOk result (now_ ≡ told_all t probes)) same h
