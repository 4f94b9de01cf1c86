-- What was put and told in the words of the machine is what is due.
use Rattle.std.proofs.Common.{◌≡◌, ℕ, ◌+◌, List, ◌++◌, take, length, refl, ap, sym, subst, ◌∙◌, inl, inr}
use Rattle.sn_base.specs.declared.event.Event.{Event}
use Rattle.sn_machine.specs.Machine.{MachineData}
use Rattle.sn_io.specs.Outside.{followed_by}
use Rattle.sn_probe.specs.Probes.{Meter, tallies_of}
use Rattle.sink_pieces.specs.Pieces.{Piece, Ends, after, Breaks, HasBeginning}
use Rattle.sink_pieces.proofs.PieceLaws.{after-append, Breaks-more, Breaks-after}
use Rattle.sink_pieces.proofs.Begun.{console-after, console-begun, report-begun}
use Rattle.script_replay.specs.Pieces.{turns_of}
use Rattle.script_replay.specs.Probed.{told_of_run}
use Rattle.script_replay.specs.Played.{turns_left, told_left, StopsAt}
use Rattle.rolling_recovery.specs.Rolling.{RollingData, rolling_start}
use Rattle.rolled_replay.specs.declared.job.Roll.{Roll}
use Rattle.rolled_replay.specs.declared.stage.Stage.{Stage}
use Rattle.rolled_replay.specs.declared.stage.Stage.TheVariants.{UnderWay}
use Rattle.rolled_replay.specs.Pieces.{machine_for, after_events, recovery_pieces, first_stage, quietly, rolled_pieces}
use Rattle.rolled_replay.specs.Rolled.{MayRoll, told_script, pieces_due, IsRolled, IsBrokenOff, BreaksAt, KnowApplied}
use Rattle.rolled_replay.proofs.LedOn.{is-led}
use Rattle.rolled_replay.proofs.Moments.{turns-first, console-due, is-lawful}

-- what is put first, and what is put then
abbrev turns_due : Roll → List Piece
turns_due r = turns_of r.program r.config (quietly r.watch) r.script

abbrev rest_due : Roll → List Meter → List Piece
rest_due r probes =
    recovery_pieces (first_stage r.program r.config r.script) r.controls r.watch (tallies_of (told_script r probes)) (length r.script)

due-is : (r : Roll) (probes : List Meter) → pieces_due r probes ≡ turns_due r ++ rest_due r probes
unfolding rolled_pieces
due-is r probes = refl

module _ (r : Roll) (probes : List Meter) (may : MayRoll r) (before behind : Ends) where
  all-put : behind ≡ after before (pieces_due r probes) → IsRolled r probes before behind
  all-put put = record {
    put = put;
    lawful = is-lawful r may probes;
    led = is-led r may;
    output = console-after before behind (pieces_due r probes) put ∙ ap (followed_by before.console) (console-due r may probes);
  }

  part-put : Breaks (pieces_due r probes) before behind → IsBrokenOff r probes before behind
  part-put broken = record {
    broken = broken;
    lawful = is-lawful r may probes;
    led = is-led r may;
    output = subst (λ (t : List ℕ). HasBeginning t before.console behind.console) (console-due r may probes)
        (console-begun (pieces_due r probes) broken.whole broken.rest broken.piece broken.count before behind broken.all broken.put);
    report =
        report-begun (pieces_due r probes) broken.whole broken.rest broken.piece broken.count before behind broken.all broken.put;
  }

module _ (m : MachineData) (r : Roll) (probes : List Meter) (may : MayRoll r) (is : m ≡ machine_for r.program r.config r.script) where
  turns-are : (first : List Event) → turns_left m (quietly r.watch) first ≡ turns_of r.program r.config (quietly r.watch) first
  unfolding turns_of
  turns-are first = ap (λ (t : MachineData). turns_left t (quietly r.watch) first) is

  told-is : (first : List Event) → told_left m first probes ≡ told_of_run r.program r.config first probes
  told-is first = ap (λ (t : MachineData). told_left t first probes) is

  pub all-told : (now_ : List Meter) → now_ ≡ told_left m r.script probes → now_ ≡ told_script r probes
  all-told now_ told = told ∙ told-is r.script

  -- a sink broke in the pieces of an event
  module _ (i : ℕ) (before behind : Ends) (now_ : List Meter) (h : StopsAt m (quietly r.watch) r.script i before probes behind now_) where
    pieces-are : turns_of r.program r.config (quietly r.watch) (take (i + 1) r.script)
        ≡ turns_of r.program r.config (quietly r.watch) (take i r.script) ++ h.pieces
    pieces-are = sym (turns-are (take (i + 1) r.script)) ∙ h.are ∙ ap (λ t. t ++ h.pieces) (turns-are (take i r.script))

    pieces-broken : Breaks h.pieces (after before (turns_of r.program r.config (quietly r.watch) (take i r.script))) behind
    pieces-broken = subst (λ (t : List Piece). Breaks h.pieces (after before t) behind) (turns-are (take i r.script)) h.broken

    stopped-at : BreaksAt r probes i before behind now_
    stopped-at = record {
      below = h.below;
      pieces = h.pieces;
      are = pieces-are;
      broken = pieces-broken;
      knows = h.knows ∙ told-is (take (i + 1) r.script);
    }

    breaks-turns : Breaks (turns_of r.program r.config (quietly r.watch) (take (i + 1) r.script)) before behind
    breaks-turns =
        subst (λ (t : List Piece). Breaks t before behind) (sym pieces-are)
        (Breaks-after (turns_of r.program r.config (quietly r.watch) (take i r.script)) h.pieces before behind pieces-broken)

    breaks-script : Breaks (turns_due r) before behind
    breaks-script =
        let split = turns-first r.program r.config (quietly r.watch) r.script (i + 1) in
        subst (λ (t : List Piece). Breaks t before behind) split.1 (Breaks-more _ split.0 before behind breaks-turns)

    pub events-broken : IsBrokenOff r probes before behind
    events-broken =
        part-put r probes may before behind
        (subst (λ (t : List Piece). Breaks t before behind) (sym (due-is r probes))
        (Breaks-more (turns_due r) (rest_due r probes) before behind breaks-script))

    pub events-known : KnowApplied r probes before behind now_
    events-known = inl (i, stopped-at)

  -- all events were put and told, and they left this machine, whose recovery is led
  module _ (before middle behind : Ends) (left : MachineData) (now_ : List Meter) (rolling : RollingData) (events : ℕ) (put : middle ≡ after before (turns_left m (quietly r.watch) r.script)) (told : now_ ≡ told_left m r.script probes) (left_is : left ≡ after_events m r.script) (begins : rolling ≡ rolling_start left) (count : events ≡ length r.script) where
    stage-is : UnderWay rolling ≡ first_stage r.program r.config r.script
    stage-is =
        ap UnderWay begins
        ∙ ap (λ (t : MachineData). UnderWay (rolling_start t)) (left_is ∙ ap (λ (t : MachineData). after_events t r.script) is)

    rest-is : recovery_pieces (UnderWay rolling) r.controls r.watch (tallies_of now_) events ≡ rest_due r probes
    rest-is =
        ap (λ (t : Stage). recovery_pieces t r.controls r.watch (tallies_of now_) events) stage-is
        ∙ ap (λ (t : List Meter). recovery_pieces (first_stage r.program r.config r.script) r.controls r.watch (tallies_of t) events)
        (all-told now_ told)
        ∙ ap (recovery_pieces (first_stage r.program r.config r.script) r.controls r.watch (tallies_of (told_script r probes))) count

    middle-is : middle ≡ after before (turns_due r)
    middle-is = put ∙ ap (after before) (turns-are r.script)

    pub rolled : behind ≡ after middle (recovery_pieces (UnderWay rolling) r.controls r.watch (tallies_of now_) events) →
        IsRolled r probes before behind
    rolled more =
        all-put r probes may before behind
        (more ∙ ap (after middle) rest-is ∙ ap (λ (t : Ends). after t (rest_due r probes)) middle-is
        ∙ after-append before (turns_due r) (rest_due r probes) ∙ ap (after before) (sym (due-is r probes)))

    module _ (broken : Breaks (recovery_pieces (UnderWay rolling) r.controls r.watch (tallies_of now_) events) middle behind) where
      rest-broken : Breaks (rest_due r probes) (after before (turns_due r)) behind
      rest-broken =
          subst (λ (t : Ends). Breaks (rest_due r probes) t behind) middle-is
          (subst (λ (t : List Piece). Breaks t middle behind) rest-is broken)

      pub recovery-broken : IsBrokenOff r probes before behind
      recovery-broken =
          part-put r probes may before behind
          (subst (λ (t : List Piece). Breaks t before behind) (sym (due-is r probes))
          (Breaks-after (turns_due r) (rest_due r probes) before behind rest-broken))

      pub recovery-known : KnowApplied r probes before behind now_
      recovery-known = inr (record {
        pieces = rest_due r probes;
        are = due-is r probes;
        broken = rest-broken;
        knows = all-told now_ told;
      })
