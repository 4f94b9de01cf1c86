-- What was put and told in the words of the machine is what is due.
use Rattle.std.proofs.Common.{◌≡◌, ℕ, ◌+◌, List, ◌++◌, take, length, refl, ap, sym, subst, ◌∙◌, inl, inr, arith}
use Rattle.std.specs.Prelude.{Option}
use Rattle.sn_base.specs.Image.{ImageData}
use Rattle.sn_base.specs.declared.config.Config.{Config}
use Rattle.sn_base.specs.declared.event.Event.{Event}
use Rattle.sn_model.specs.Machine.{State}
use Rattle.sn_machine.specs.Machine.{MachineData, machine_with_room}
use Rattle.consistent_cuts.specs.Headline.{state_of_run}
use Rattle.sn_io.specs.Outside.{followed_by}
use Rattle.sn_probe.specs.Probes.{Meter, tallies_of}
use Rattle.sink_pieces.specs.Pieces.{Piece, Ends, after, Breaks, HasBeginning}
use Rattle.sink_pieces.proofs.PieceLaws.{after-append, Breaks-more, Breaks-after}
use Rattle.sink_pieces.proofs.Begun.{console-after, report-after, console-begun, report-begun}
use Rattle.script_replay.specs.Pieces.{turns_of}
use Rattle.script_replay.specs.Probed.{told_of_run, told_all, tallies_due}
use Rattle.script_replay.specs.Shown.{BreaksAt}
use Rattle.script_replay.specs.Played.{MayBegin, turns_left, told_left, state_left, StopsAt}
use Rattle.script_replay.specs.declared.job.Replay.{Replay}
use Rattle.accesses_replay.specs.Pieces.{after_events, quietly, end_pieces, pieces_of}
use Rattle.accesses_replay.specs.Shown.{end_due, pieces_due, IsDone, IsBrokenOff, KnowApplied}
use Rattle.accesses_replay.proofs.Left.{left-image, left-config, left-state, left-applied}
use Rattle.accesses_replay.proofs.Moments.{turns-first, executed, console-due, report-due, is-lawful}

-- what is put first, and what is put then
abbrev turns_due : Replay → List Piece
turns_due r = turns_of r.program r.config (quietly r.showing.watch) r.script

due-is : (r : Replay) (probes : List Meter) → pieces_due r probes ≡ turns_due r ++ end_due r probes
unfolding pieces_of
due-is r probes = refl

module _ (r : Replay) (probes : List Meter) (may : MayBegin r) (before behind : Ends) where
  all-put : behind ≡ after before (pieces_due r probes) → IsDone r probes before behind
  all-put put = record {
    put = put;
    shown = record {
      lawful = is-lawful r may probes;
      execution = executed r may;
      output = console-after before behind (pieces_due r probes) put ∙ ap (followed_by before.console) (console-due r may probes);
      rows = report-after before behind (pieces_due r probes) put ∙ ap (followed_by before.report) (report-due r may probes);
    };
  }

  part-put : Breaks (pieces_due r probes) before behind → IsBrokenOff r probes before behind
  part-put broken = record {
    broken = broken;
    shown = record {
      lawful = is-lawful r may probes;
      execution = executed r may;
      output = subst (λ (t : List ℕ). HasBeginning t before.console behind.console) (console-due r may probes)
          (console-begun (pieces_due r probes) broken.whole broken.rest broken.piece broken.count before behind broken.all broken.put);
      rows = subst (λ (t : List ℕ). HasBeginning t before.report behind.report) (report-due r may probes)
          (report-begun (pieces_due r probes) broken.whole broken.rest broken.piece broken.count before behind broken.all broken.put);
    };
  }

module _ (m : MachineData) (r : Replay) (probes : List Meter) (may : MayBegin r) (is : m ≡ machine_with_room r.program r.config (length r.script)) where
  turns-are : (first : List Event) → turns_left m (quietly r.showing.watch) first ≡ turns_of r.program r.config (quietly r.showing.watch) first
  unfolding turns_of
  turns-are first = ap (λ (t : MachineData). turns_left t (quietly r.showing.watch) first) is

  told-is : (first : List Event) → told_left m first probes ≡ told_of_run r.program r.config first probes
  told-is first = ap (λ (t : MachineData). told_left t first probes) is

  pub all-told : (now_ : List Meter) → now_ ≡ told_left m r.script probes → now_ ≡ told_all r probes
  all-told now_ told = told ∙ told-is r.script

  -- a sink broke in the pieces of an event
  module _ (i : ℕ) (before behind : Ends) (now_ : List Meter) (h : StopsAt m (quietly r.showing.watch) r.script i before probes behind now_) where
    pieces-are : turns_of r.program r.config (quietly r.showing.watch) (take (i + 1) r.script)
        ≡ turns_of r.program r.config (quietly r.showing.watch) (take i r.script) ++ h.pieces
    pieces-are = sym (turns-are (take (i + 1) r.script)) ∙ h.are ∙ ap (λ t. t ++ h.pieces) (turns-are (take i r.script))

    pieces-broken : Breaks h.pieces (after before (turns_of r.program r.config (quietly r.showing.watch) (take i r.script))) behind
    pieces-broken = subst (λ (t : List Piece). Breaks h.pieces (after before t) behind) (turns-are (take i r.script)) h.broken

    stopped-at : BreaksAt (record r { showing = quietly r.showing.watch }) probes i before behind now_
    stopped-at = record {
      below = h.below;
      pieces = h.pieces;
      are = pieces-are;
      broken = pieces-broken;
      knows = h.knows ∙ told-is (take (i + 1) r.script);
    }

    breaks-turns : Breaks (turns_of r.program r.config (quietly r.showing.watch) (take (i + 1) r.script)) before behind
    breaks-turns =
        subst (λ (t : List Piece). Breaks t before behind) (sym pieces-are)
        (Breaks-after (turns_of r.program r.config (quietly r.showing.watch) (take i r.script)) h.pieces before behind pieces-broken)

    breaks-script : Breaks (turns_due r) before behind
    breaks-script =
        let split = turns-first r.program r.config (quietly r.showing.watch) r.script (i + 1) in
        subst (λ (t : List Piece). Breaks t before behind) split.1 (Breaks-more _ split.0 before behind breaks-turns)

    pub events-broken : IsBrokenOff r probes before behind
    events-broken =
        part-put r probes may before behind
        (subst (λ (t : List Piece). Breaks t before behind) (sym (due-is r probes))
        (Breaks-more (turns_due r) (end_due r probes) before behind breaks-script))

    pub events-known : KnowApplied r probes before behind now_
    events-known = inl (i, stopped-at)

  -- all events were put and told, and they left this machine
  module _ (before middle behind : Ends) (left : MachineData) (now_ : List Meter) (put : middle ≡ after before (turns_left m (quietly r.showing.watch) r.script)) (told : now_ ≡ told_left m r.script probes) (left_is : left ≡ after_events m r.script) where
    image-is : left.image ≡ r.program
    image-is = ap (λ (t : MachineData). t.image) left_is ∙ left-image m r.script ∙ ap (λ (t : MachineData). t.image) is

    config-is : left.config ≡ r.config
    config-is = ap (λ (t : MachineData). t.config) left_is ∙ left-config m r.script ∙ ap (λ (t : MachineData). t.config) is

    state-is : left.state ≡ state_of_run r.program r.config r.script
    state-is =
        ap (λ (t : MachineData). t.state) left_is ∙ left-state m r.script ∙ ap (λ (t : MachineData). state_left t r.script) is

    applied-is : left.applied ≡ length r.script
    applied-is =
        let none : 0 + length r.script ≡ length r.script = omega arith in
        ap (λ (t : MachineData). t.applied) left_is ∙ left-applied m r.script ∙ ap (λ (t : MachineData). t.applied + length r.script) is ∙ none

    abbrev rest-of : MachineData → List Meter → List Piece
    rest-of t meters = end_pieces t.image t.config r.showing.watch (tallies_of meters) t.applied t.state

    rest-is : rest-of left now_ ≡ end_due r probes
    rest-is =
        ap (λ (t : List Meter). rest-of left t) (all-told now_ told)
        ∙ ap (λ (i : ImageData). end_pieces i left.config r.showing.watch (tallies_due r probes) left.applied left.state) image-is
        ∙ ap (λ (c : Config). end_pieces r.program c r.showing.watch (tallies_due r probes) left.applied left.state) config-is
        ∙ ap (λ (n : ℕ). end_pieces r.program r.config r.showing.watch (tallies_due r probes) n left.state) applied-is
        ∙ ap (λ (s : State). end_pieces r.program r.config r.showing.watch (tallies_due r probes) (length r.script) s) state-is

    middle-is : middle ≡ after before (turns_due r)
    middle-is = put ∙ ap (after before) (turns-are r.script)

    pub shown : behind ≡ after middle (rest-of left now_) → IsDone r probes before behind
    shown more =
        all-put r probes may before behind
        (more ∙ ap (after middle) rest-is ∙ ap (λ (t : Ends). after t (end_due r probes)) middle-is
        ∙ after-append before (turns_due r) (end_due r probes) ∙ ap (after before) (sym (due-is r probes)))

    module _ (broken : Breaks (rest-of left now_) middle behind) where
      rest-broken : Breaks (end_due r probes) (after before (turns_due r)) behind
      rest-broken =
          subst (λ (t : Ends). Breaks (end_due r probes) t behind) middle-is
          (subst (λ (t : List Piece). Breaks t middle behind) rest-is broken)

      pub end-broken : IsBrokenOff r probes before behind
      end-broken =
          part-put r probes may before behind
          (subst (λ (t : List Piece). Breaks t before behind) (sym (due-is r probes))
          (Breaks-after (turns_due r) (end_due r probes) before behind rest-broken))

      pub end-known : KnowApplied r probes before behind now_
      end-known = inr (record { broken = rest-broken; knows = all-told now_ told })
