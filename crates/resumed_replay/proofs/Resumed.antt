-- What was put and told in the words of the machine is what is due.
use Rattle.std.proofs.Common.{◌≡◌, ℕ, ◌+◌, ◌-◌, List, [], ◌++◌, map, take, length, ap, sym, subst, ◌∙◌, inl, inr, arith}
use Rattle.sn_base.specs.declared.event.Event.{Event}
use Rattle.sn_model.specs.Machine.{State}
use Rattle.sn_machine.specs.Machine.{MachineData}
use Rattle.sn_io.specs.Outside.{followed_by}
use Rattle.sn_probe.specs.Probes.{Meter, told_from, tallies_of}
use Rattle.sink_pieces.specs.Pieces.{Piece, Ends, after, Breaks, HasBeginning}
use Rattle.sink_pieces.proofs.PieceLaws.{after-append, Breaks-more, Breaks-after}
use Rattle.sink_pieces.proofs.Begun.{console-after, console-begun, report-begun}
use Rattle.script_replay.specs.Pieces.{summary_pieces, end_pieces, turns_from}
use Rattle.script_replay.specs.Played.{after_events, since, turns_left, told_left, StopsAt}
use Rattle.script_replay.specs.Probed.{answers_along}
use Rattle.script_replay.proofs.Split.{pieces-split}
use Rattle.script_replay.proofs.Turned.{left-image, left-config, left-state}
use Rattle.resumed_replay.specs.declared.job.ResumedReplay.{ResumedReplay}
use Rattle.resumed_replay.specs.Shown.{MayGoOn, with_events, told_of, told_script, turns_of, pieces_due, left_by, IsDone, IsBrokenOff, BreaksAt, KnowApplied}
use Rattle.resumed_replay.proofs.Moments.{adds-all, console-due, turns-first, is-lawful}

-- what stands behind the events
abbrev rest_due : ResumedReplay → List Meter → List Piece
rest_due r probes =
    summary_pieces [] r.machine.image r.machine.config r.watch (tallies_of (told_script r probes)) (length r.script) (left_by r r.script)

due-is : (r : ResumedReplay) (probes : List Meter) → pieces_due r probes ≡ turns_of r r.script ++ rest_due r probes
unfolding turns_of pieces_due end_pieces
due-is r probes =
    pieces-split r.machine.image r.machine.config (with_events r.watch) (tallies_of (told_script r probes)) 0 r.machine.state r.script
    ∙ end-is
  where
    end-is : (let showing = with_events r.watch in turns_from r.machine.image r.machine.config showing 0 r.machine.state r.script
        ++ end_pieces r.machine.image r.machine.config showing (tallies_of (told_script r probes)) (0 + length r.script) (left_by r r.script))
        ≡ turns_from r.machine.image r.machine.config (with_events r.watch) 0 r.machine.state r.script ++ rest_due r probes
    end-is = ap (λ k. turns_from r.machine.image r.machine.config (with_events r.watch) 0 r.machine.state r.script
        ++ summary_pieces [] r.machine.image r.machine.config r.watch (tallies_of (told_script r probes)) k (left_by r r.script)) (omega arith)

module _ (r : ResumedReplay) (probes : List Meter) (may : MayGoOn r) (before behind : Ends) where
  all-put : behind ≡ after before (pieces_due r probes) → IsDone r probes before behind
  all-put put = record {
    put = put;
    lawful = is-lawful r may probes;
    fresh = _;
    adds = adds-all r may;
    output = console-after before behind (pieces_due r probes) put ∙ ap (followed_by before.console) (console-due r may probes);
  }

  part-put : Breaks (pieces_due r probes) before behind → IsBrokenOff r probes before behind
  part-put broken = record {
    broken = broken;
    lawful = is-lawful r may probes;
    fresh = _;
    adds = adds-all r may;
    output = subst (λ (t : List ℕ). HasBeginning t before.console behind.console) (console-due r may probes)
        (console-begun (pieces_due r probes) broken.whole broken.rest broken.piece broken.count before behind broken.all broken.put);
    report =
        report-begun (pieces_due r probes) broken.whole broken.rest broken.piece broken.count before behind broken.all broken.put;
  }

module _ (r : ResumedReplay) (probes : List Meter) (may : MayGoOn r) (start : ℕ) (counted : start ≡ r.machine.applied) where
  abbrev m : MachineData
  m = since start r.machine

  -- none was applied since, at first
  none-since : r.machine.applied - start ≡ 0
  none-since = omega (arith, counted)

  turns-are : (first : List Event) → turns_left m (with_events r.watch) first ≡ turns_of r first
  unfolding turns_of
  turns-are first =
      ap (λ k. turns_from r.machine.image r.machine.config (with_events r.watch) k r.machine.state first) none-since

  told-is : (first : List Event) → told_left m first probes ≡ told_of r first probes
  told-is first =
      ap (λ k. map (told_from (k + 1) (answers_along r.machine.image r.machine.config r.machine.state first)) probes)
      none-since

  pub all-told : (now_ : List Meter) → now_ ≡ told_left m r.script probes → now_ ≡ told_script r probes
  all-told now_ told = told ∙ told-is r.script

  -- a sink broke in the pieces of an event
  module _ (i : ℕ) (before behind : Ends) (now_ : List Meter) (h : StopsAt m (with_events r.watch) r.script i before probes behind now_) where
    pieces-are : turns_of r (take (i + 1) r.script) ≡ turns_of r (take i r.script) ++ h.pieces
    pieces-are = sym (turns-are (take (i + 1) r.script)) ∙ h.are ∙ ap (λ t. t ++ h.pieces) (turns-are (take i r.script))

    pieces-broken : Breaks h.pieces (after before (turns_of r (take i r.script))) behind
    pieces-broken = subst (λ (t : List Piece). Breaks h.pieces (after before t) behind) (turns-are (take i r.script)) h.broken

    stopped-at : BreaksAt r probes i before behind now_
    stopped-at = record {
      below = h.below;
      pieces = h.pieces;
      are = pieces-are;
      broken = pieces-broken;
      knows = h.knows ∙ told-is (take (i + 1) r.script);
    }

    breaks-due : Breaks (pieces_due r probes) before behind
    breaks-due =
        let split = turns-first r may probes (i + 1) in
        subst (λ (t : List Piece). Breaks t before behind) split.1
        (Breaks-more _ split.0 before behind
        (subst (λ (t : List Piece). Breaks t before behind) (sym pieces-are)
        (Breaks-after (turns_of r (take i r.script)) h.pieces before behind pieces-broken)))

    pub events-broken : IsBrokenOff r probes before behind
    events-broken = part-put r probes may before behind breaks-due

    pub events-known : KnowApplied r probes before behind now_
    events-known = inl (i, stopped-at)

  -- all events were put and told, and they left this machine
  module _ (before middle behind : Ends) (left : MachineData) (now_ : List Meter) (count : ℕ) (put : middle ≡ after before (turns_left m (with_events r.watch) r.script)) (told : now_ ≡ told_left m r.script probes) (left_is : left ≡ after_events r.machine r.script) (all : count ≡ length r.script) where
    abbrev summary-put : List Piece
    summary-put = summary_pieces [] left.image left.config r.watch (tallies_of now_) count left.state

    rest-is : summary-put ≡ rest_due r probes
    rest-is =
        ap (λ (t : MachineData). summary_pieces [] t.image t.config r.watch (tallies_of now_) count t.state) left_is
        ∙ ap (λ t. summary_pieces [] t (after_events r.machine r.script).config r.watch (tallies_of now_) count
        (after_events r.machine r.script).state) (left-image r.machine r.script)
        ∙ ap (λ t. summary_pieces [] r.machine.image t r.watch (tallies_of now_) count (after_events r.machine r.script).state)
        (left-config r.machine r.script)
        ∙ ap (λ (t : State). summary_pieces [] r.machine.image r.machine.config r.watch (tallies_of now_) count t) (left-state r.machine r.script)
        ∙ ap (λ (t : List Meter). summary_pieces [] r.machine.image r.machine.config r.watch (tallies_of t) count (left_by r r.script))
        (all-told now_ told)
        ∙ ap (λ k. summary_pieces [] r.machine.image r.machine.config r.watch (tallies_of (told_script r probes)) k (left_by r r.script)) all

    middle-is : middle ≡ after before (turns_of r r.script)
    middle-is = put ∙ ap (after before) (turns-are r.script)

    pub done : behind ≡ after middle summary-put → IsDone r probes before behind
    done more =
        all-put r probes may before behind
        (more ∙ ap (after middle) rest-is ∙ ap (λ (t : Ends). after t (rest_due r probes)) middle-is
        ∙ after-append before (turns_of r r.script) (rest_due r probes) ∙ ap (after before) (sym (due-is r probes)))

    module _ (broken : Breaks summary-put middle behind) where
      rest-broken : Breaks (rest_due r probes) (after before (turns_of r r.script)) behind
      rest-broken =
          subst (λ (t : Ends). Breaks (rest_due r probes) t behind) middle-is
          (subst (λ (t : List Piece). Breaks t middle behind) rest-is broken)

      pub summary-broken : IsBrokenOff r probes before behind
      summary-broken =
          part-put r probes may before behind
          (subst (λ (t : List Piece). Breaks t before behind) (sym (due-is r probes))
          (Breaks-after (turns_of r r.script) (rest_due r probes) before behind rest-broken))

      pub summary-known : KnowApplied r probes before behind now_
      summary-known = inr (record {
        pieces = rest_due r probes;
        are = due-is r probes;
        broken = rest-broken;
        knows = all-told now_ told;
      })
