-- What a machine that is ready puts is what the definition says of its program and events.
use Rattle.std.proofs.Common.{◌≡◌, ℕ, ◌+◌, ◌<◌, ◌≤◌, List, ◌++◌, map, length, take, All, refl, ap, sym, subst, ◌∙◌, inl, inr, arith}
use Rattle.sn_base.specs.Image.{ImageData}
use Rattle.sn_base.specs.declared.config.Config.{Config}
use Rattle.sn_base.specs.declared.event.Event.{Event}
use Rattle.sn_model.specs.Machine.{State, start_of}
use Rattle.due_events.specs.Machine.{MachineData, machine_with_room}
use Rattle.sn_model.specs.Step.{state_after}
use Rattle.due_events.specs.Headline.{state_of_run}
use Rattle.sn_text.specs.Written.{HasValues}
use Rattle.sink_pieces.specs.Pieces.{Piece, Ends, after, Breaks}
use Rattle.sn_probe.specs.Probes.{Meter, told_from, tallies_of}
use Rattle.script_replay.specs.declared.job.Showing.{Showing}
use Rattle.script_replay.specs.declared.job.ReportKind.TheVariants.{Trace}
use Rattle.script_replay.specs.declared.job.Replay.{Replay}
use Rattle.script_replay.specs.Pieces.{turns_from, turns_of, pieces_from, pieces_of}
use Rattle.script_replay.specs.Probed.{answers_along, told_of_run, told_all, tallies_due}
use Rattle.script_replay.specs.Played.{pieces_left, told_left, turns_left, state_left, StopsAt, StopsAtEnd, Stops}
use Rattle.script_replay.specs.Played.{MayBegin, IsAtStart}
use Rattle.script_replay.specs.Scheduled.{replay_of}
use Rattle.script_replay.specs.Shown.{committed_by, pieces_due, IsReplayed, IsBrokenOff, BreaksAt, BreaksAtEnd, KnowApplied}
use Rattle.script_replay.proofs.Shown.{shown-all, shown-part}

-- a machine that was just made is at its program's start
pub made-at_start : (m : MachineData) (image : ImageData) (config : Config) (room : ℕ) → m ≡ machine_with_room image config room →
    IsAtStart m image config room
made-at_start m image config room is = record {
  program = ap (λ (t : MachineData). t.image) is;
  sizes = ap (λ (t : MachineData). t.config) is;
  start = ap (λ (t : MachineData). t.state) is;
  new = ap (λ (t : MachineData). t.applied) is;
  room = omega (arith, ap (λ (t : MachineData). t.spare) is);
}

-- what the probes are told from the start on
ready-told : (m : MachineData) (image : ImageData) (config : Config) (events : List Event) (probes : List Meter) (room : ℕ) →
    IsAtStart m image config room → told_left m events probes ≡ told_of_run image config events probes
ready-told m image config events probes room ready =
    ap (λ n. map (told_from (n + 1) (answers_along m.image m.config m.state events)) probes) ready.new
    ∙ ap (λ (t : State). map (told_from 1 (answers_along m.image m.config t events)) probes) ready.start
    ∙ ap (λ (t : Config). map (told_from 1 (answers_along m.image t (start_of image config.nodes) events)) probes) ready.sizes
    ∙ ap (λ (t : ImageData). map (told_from 1 (answers_along t config (start_of image config.nodes) events)) probes) ready.program

-- the state that they leave, and their pieces
ready-reached : (m : MachineData) (image : ImageData) (config : Config) (events : List Event) (room : ℕ) →
    IsAtStart m image config room → state_left m events ≡ state_of_run image config events
ready-reached m image config events room ready =
    ap (λ (t : State). state_after m.image m.config t events) ready.start
    ∙ ap (λ (t : Config). state_after m.image t (start_of image config.nodes) events) ready.sizes
    ∙ ap (λ (t : ImageData). state_after t config (start_of image config.nodes) events) ready.program

ready-turns : (m : MachineData) (image : ImageData) (config : Config) (showing : Showing) (events : List Event) (room : ℕ) →
    IsAtStart m image config room → turns_left m showing events ≡ turns_of image config showing events
unfolding turns_of
ready-turns m image config showing events room ready =
    ap (λ t. turns_from m.image m.config showing m.applied t events) ready.start
    ∙ ap (λ t. turns_from m.image m.config showing t (start_of image config.nodes) events) ready.new
    ∙ ap (λ (t : Config). turns_from m.image t showing 0 (start_of image config.nodes) events) ready.sizes
    ∙ ap (λ t. turns_from t config showing 0 (start_of image config.nodes) events) ready.program

ready-pieces : (m : MachineData) (image : ImageData) (config : Config) (showing : Showing) (tallies : List (List ℕ))
    (events script : List Event) (room : ℕ) → IsAtStart m image config room → events ≡ script →
    pieces_left m showing tallies events ≡ pieces_of image config showing tallies script
unfolding pieces_of
ready-pieces m image config showing tallies events script room ready same =
    ap (λ t. pieces_left m showing tallies t) same
    ∙ ap (λ t. pieces_from m.image m.config showing tallies m.applied t script) ready.start
    ∙ ap (λ t. pieces_from m.image m.config showing tallies t (start_of image config.nodes) script) ready.new
    ∙ ap (λ (t : Config). pieces_from m.image t showing tallies 0 (start_of image config.nodes) script) ready.sizes
    ∙ ap (λ t. pieces_from t config showing tallies 0 (start_of image config.nodes) script) ready.program

abbrev with_parts : Showing → ImageData → Config → List Event → Replay
with_parts showing program config script = record { program = program; config = config; showing = showing; script = script }

-- the replay of these events on it is the one that it is ready for
pub ready-replay : (m : MachineData) (r : Replay) (events : List Event) (room : ℕ) → IsAtStart m r.program r.config room →
    events ≡ r.script → replay_of m r.showing events ≡ r
ready-replay m r events room ready same =
    ap (λ (t : ImageData). with_parts r.showing t m.config events) ready.program
    ∙ ap (λ (t : Config). with_parts r.showing r.program t events) ready.sizes ∙ ap (with_parts r.showing r.program r.config) same

-- it is as ready for that one
pub ready-on : (m : MachineData) (r : Replay) (events : List Event) (room : ℕ) → IsAtStart m r.program r.config room →
    length events ≤ room → IsAtStart m m.image m.config (length events)
ready-on m r events room ready few = record {
  program = refl;
  sizes = refl;
  start =
      ready.start ∙ ap (λ (t : ImageData). start_of t r.config.nodes) (sym ready.program)
      ∙ ap (λ (t : Config). start_of m.image t.nodes) (sym ready.sizes);
  new = ready.new;
  room = omega (arith, few, ready.room);
}

module _ (m : MachineData) (r : Replay) (events : List Event) (room : ℕ) (probes : List Meter) (ready : IsAtStart m r.program r.config room) (same : events ≡ r.script) where
  all-told : told_left m events probes ≡ told_all r probes
  all-told = ap (λ t. told_left m t probes) same ∙ ready-told m r.program r.config r.script probes room ready

  pieces-due : pieces_left m r.showing (tallies_of (told_left m events probes)) events ≡ pieces_due r probes
  pieces-due =
      ap (λ t. pieces_left m r.showing (tallies_of t) events) all-told
      ∙ ready-pieces m r.program r.config r.showing (tallies_due r probes) events r.script room ready same

  pub performed-told : (now_ : List Meter) → now_ ≡ told_left m events probes → now_ ≡ told_all r probes
  performed-told now_ told = told ∙ all-told

module _ (m : MachineData) (r : Replay) (events : List Event) (room : ℕ) (probes : List Meter) (before behind : Ends) (ready : IsAtStart m r.program r.config room) (same : events ≡ r.script) (begin : MayBegin r) where
  committed-is : (state_left m events).committed ≡ committed_by r.program r.config r.script
  committed-is =
      ap (λ (s : State). s.committed) (ready-reached m r.program r.config events room ready)
      ∙ ap (committed_by r.program r.config) same

  pub performed-all : (r.showing.report ≡ Trace → All HasValues (state_left m events).committed) →
      behind ≡ after before (pieces_left m r.showing (tallies_of (told_left m events probes)) events) → IsReplayed r probes before behind
  performed-all values put =
      let whole : behind ≡ after before (pieces_due r probes) = put ∙ ap (after before) (pieces-due m r events room probes ready same) in
      record {
        put = whole;
        shown =
            shown-all r.program r.config r.showing (tallies_due r probes) r.script before behind begin.run begin.few
            (λ is. subst (All HasValues) committed-is (values is)) whole;
      }

  pub performed-part : Breaks (pieces_left m r.showing (tallies_of (told_left m events probes)) events) before behind →
      IsBrokenOff r probes before behind
  performed-part broken =
      let part : Breaks (pieces_due r probes) before behind = subst (λ (t : List Piece). Breaks t before behind)
      (pieces-due m r events room probes ready same) broken in
      record {
        broken = part;
        shown = shown-part r.program r.config r.showing (tallies_due r probes) r.script before behind begin.run part;
      }

-- where a sink broke
module _ (m : MachineData) (r : Replay) (events : List Event) (room : ℕ) (probes : List Meter) (before behind : Ends) (told : List Meter) (ready : IsAtStart m r.program r.config room) (same : events ≡ r.script) where
  turns-are : (first : List Event) → turns_left m r.showing first ≡ turns_of r.program r.config r.showing first
  turns-are first = ready-turns m r.program r.config r.showing first room ready

  turns-first : (i : ℕ) → turns_left m r.showing (take i events) ≡ turns_of r.program r.config r.showing (take i r.script)
  turns-first i = turns-are (take i events) ∙ ap (λ t. turns_of r.program r.config r.showing (take i t)) same

  breaks-at : (i : ℕ) → StopsAt m r.showing events i before probes behind told → BreaksAt r probes i before behind told
  breaks-at i stops = record {
    below = subst (λ (t : List Event). i < length t) same stops.below;
    pieces = stops.pieces;
    are = sym (turns-first (i + 1)) ∙ stops.are ∙ ap (λ t. t ++ stops.pieces) (turns-first i);
    broken = subst (λ (t : List Piece). Breaks stops.pieces (after before t) behind) (turns-first i) stops.broken;
    knows =
        stops.knows ∙ ready-told m r.program r.config (take (i + 1) events) probes room ready
        ∙ ap (λ t. told_of_run r.program r.config (take (i + 1) t) probes) same;
  }

  turns-all : turns_left m r.showing events ≡ turns_of r.program r.config r.showing r.script
  turns-all = turns-are events ∙ ap (turns_of r.program r.config r.showing) same

  breaks-at_end : StopsAtEnd m r.showing events before probes behind told → BreaksAtEnd r probes before behind told
  breaks-at_end stops = record {
    pieces = stops.pieces;
    are = sym (pieces-due m r events room probes ready same) ∙ stops.are ∙ ap (λ t. t ++ stops.pieces) turns-all;
    broken = subst (λ (t : List Piece). Breaks stops.pieces (after before t) behind) turns-all stops.broken;
    knows = performed-told m r events room probes ready same told stops.knows;
  }

  pub performed-applied : Stops m r.showing events before probes behind told → KnowApplied r probes before behind told
  performed-applied (inl (i, stops)) = inl (i, breaks-at i stops)
  performed-applied (inr stops) = inr (breaks-at_end stops)
