-- What was done of a replay with its recovery was done of the same one in other words.
use Rattle.std.proofs.Common.{◌≡◌, List, subst}
use Rattle.sn_probe.specs.Probes.{Meter}
use Rattle.sink_pieces.specs.Pieces.{Ends}
use Rattle.rolled_replay.specs.declared.job.Roll.{Roll}
use Rattle.rolled_replay.specs.Rolled.{told_script, IsRolled, IsBrokenOff, KnowApplied}

module _ (done asked : Roll) (same : done ≡ asked) (probes : List Meter) where
  pub as-told : (now_ : List Meter) → now_ ≡ told_script done probes → now_ ≡ told_script asked probes
  as-told now_ h = subst (λ (t : Roll). now_ ≡ told_script t probes) same h

  module _ (before behind : Ends) where
    pub as-rolled : IsRolled done probes before behind → IsRolled asked probes before behind
    as-rolled h = subst (λ (t : Roll). IsRolled t probes before behind) same h

    pub as-broken : IsBrokenOff done probes before behind → IsBrokenOff asked probes before behind
    as-broken h = subst (λ (t : Roll). IsBrokenOff t probes before behind) same h

    pub as-applied : (told : List Meter) → KnowApplied done probes before behind told → KnowApplied asked probes before behind told
    as-applied told h = subst (λ (t : Roll). KnowApplied t probes before behind told) same h
