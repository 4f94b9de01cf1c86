-- At each moment of a run that goes on, and what the console gets by then.
use Rattle.std.proofs.Common.{◌≡◌, ℕ, List, [], ◌++◌, take, drop, ap, sym, subst, ◌∙◌}
use Rattle.std.proofs.lemmas.List.{take-append-drop}
use Rattle.sn_base.specs.declared.event.Event.{Event}
use Rattle.sn_model.specs.Machine.{State}
use Rattle.sn_model.specs.Step.{state_after}
use Rattle.consistent_cuts.specs.Headline.{IsRun, IsConsistent}
use Rattle.consistent_cuts.specs.Origins.{Origin, Resumed, AddsTo, state_at, entries_at, reached_from, retirements_from}
use Rattle.consistent_cuts.specs.RunInvariant.{Holds}
use Rattle.consistent_cuts.proofs.Adds.{origin_adds}
use Rattle.consistent_cuts.proofs.Run.{from_consistent, origin_holds}
use Rattle.sn_probe.specs.Probes.{Meter, tallies_of}
use Rattle.sink_pieces.specs.Pieces.{Piece, console_text}
use Rattle.script_replay.specs.Pieces.{pieces_from}
use Rattle.script_replay.proofs.Lawful.{run-first}
use Rattle.script_replay.proofs.Shown.{released-turns, pieces_from-split, console_text-turns}
use Rattle.resumed_replay.specs.declared.job.ResumedReplay.{ResumedReplay}
use Rattle.resumed_replay.specs.Shown.{MayGoOn, with_events, told_script, turns_of, pieces_due, left_by, Adds, IsMoment, IsLawful}

module _ (r : ResumedReplay) (may : MayGoOn r) where
  abbrev origin : Origin
  origin = Resumed may.saved

  state-is : r.machine.state ≡ state_at r.machine.image r.machine.config origin
  state-is = may.led.state

  left-is : (first : List Event) → left_by r first ≡ reached_from r.machine.image r.machine.config origin first
  left-is first = ap (λ (s : State). state_after r.machine.image r.machine.config s first) state-is

  consistent-by : (first : List Event) → IsRun r.machine.config first →
      IsConsistent r.machine.image r.machine.config.nodes (left_by r first)
      (retirements_from r.machine.image r.machine.config origin first)
  consistent-by first run =
      subst (λ (s : State). IsConsistent r.machine.image r.machine.config.nodes s
      (retirements_from r.machine.image r.machine.config origin first)) (sym (left-is first))
      (from_consistent r.machine.image r.machine.config origin first may.led.may run)

  adds-by : (first : List Event) → IsRun r.machine.config first → AddsTo r.machine.state (left_by r first)
  adds-by first run =
      subst (λ (s : State). AddsTo s (left_by r first)) (sym state-is)
      (subst (λ (t : State). AddsTo (state_at r.machine.image r.machine.config origin) t) (sym (left-is first))
      (origin_adds r.machine.image r.machine.config origin first may.led.may run))

  holds : Holds r.machine.image r.machine.config.nodes r.machine.state (entries_at r.machine.image origin)
  holds =
      subst (λ (s : State). Holds r.machine.image r.machine.config.nodes s (entries_at r.machine.image origin)) (sym state-is)
      (origin_holds r.machine.image r.machine.config origin may.led.may may.run.fits)

  released-by : (first : List Event) → IsRun r.machine.config first →
      (left_by r first).released ≡ r.machine.state.released ++ console_text (turns_of r first)
  unfolding turns_of
  released-by first run =
      released-turns r.machine.image r.machine.config (with_events r.watch) 0 r.machine.state (entries_at r.machine.image origin) first
      run.events_fit holds

  -- nothing more is released at the start than what was saved
  begins : IsRun r.machine.config []
  begins = run-first r.machine.config r.script 0 may.run

  adds-to : (first : List Event) → IsRun r.machine.config first → Adds r first (console_text (turns_of r first))
  adds-to first run =
      ap (λ t. t ++ console_text (turns_of r first)) (sym (consistent-by [] begins).output)
      ∙ sym (released-by first run) ∙ (consistent-by first run).output

  pub adds-all : Adds r r.script (console_text (turns_of r r.script))
  adds-all = adds-to r.script may.run

  module _ (probes : List Meter) where
    pub console-due : console_text (pieces_due r probes) ≡ console_text (turns_of r r.script)
    unfolding turns_of pieces_due
    console-due =
        console_text-turns r.machine.image r.machine.config (with_events r.watch) (tallies_of (told_script r probes)) 0 r.machine.state r.script

    pub turns-first : (i : ℕ) → (rest : List Piece) × (turns_of r (take i r.script) ++ rest ≡ pieces_due r probes)
    unfolding turns_of pieces_due
    turns-first i =
        let split = pieces_from-split r.machine.image r.machine.config (with_events r.watch) (tallies_of (told_script r probes)) 0
        r.machine.state (take i r.script) (drop i r.script) in (
          split.0,
          split.1 ∙ ap (pieces_from r.machine.image r.machine.config (with_events r.watch) (tallies_of (told_script r probes)) 0
              r.machine.state) (take-append-drop i r.script),
        )

    moment : (i : ℕ) → IsMoment r probes may.saved (take i r.script)
    moment i =
        let run = run-first r.machine.config r.script i may.run in
        let split = turns-first i in
        record {
          consistent = consistent-by (take i r.script) run;
          adds = adds-by (take i r.script) run;
          others = split.0;
          order = split.1;
          output = adds-to (take i r.script) run;
        }

    pub is-lawful : IsLawful r probes
    is-lawful = record { saved = may.saved; led = may.led; moments = moment }
